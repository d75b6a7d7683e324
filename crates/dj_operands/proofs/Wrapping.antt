-- The low bits of a number as a signed number of so many bits.
use Rattle.std.proofs.Common.{◌≡◌, ℕ, ◌^◌, ℤ, pos, refl, ap, ◌∙◌}
use Rattle.std.specs.Prelude.{unsigned_abs}
use Rattle.std.specs.Int.{Width, cast_signed, int_rem_euclid, int_wrap}
use mir.Val.{SFits, to_z, of_z, bits}
use Rattle.std.proofs.lemmas.Int.{to_z-of_z}

pub wrapped : (width : Width) (number rest : ℤ) (low : ℕ) → rest ≡ int_rem_euclid number (pos (2 ^ bits width)) → low ≡ unsigned_abs rest → cast_signed width low ≡ int_wrap width number
unfolding int_wrap
wrapped width number rest low is same = ap (cast_signed width) (same ∙ ap unsigned_abs is)

-- the low bits of a number that fits a wider type
pub low_bits : (wide narrow : Width) (number rest result : ℤ) → SFits wide number → SFits wide rest → SFits narrow result → rest ≡ int_rem_euclid (to_z wide (of_z wide number)) (pos (2 ^ bits narrow))
    → result ≡ to_z narrow (unsigned_abs (to_z wide (of_z wide rest))) → to_z narrow (of_z narrow result) ≡ int_wrap narrow number
low_bits wide narrow number rest result number_fits rest_fits result_fits is low =
    to_z-of_z narrow result result_fits ∙ low ∙ ap (λ z. to_z narrow (unsigned_abs z)) (to_z-of_z wide rest rest_fits)
    ∙ wrapped narrow number rest (unsigned_abs rest) (is ∙ ap (λ z. int_rem_euclid z (pos (2 ^ bits narrow))) (to_z-of_z wide number number_fits)) refl
