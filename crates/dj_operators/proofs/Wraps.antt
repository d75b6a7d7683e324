-- A number cut to its low bits, as a number with a sign.
use Rattle.std.proofs.Common.{◌≡◌, ℤ, pos, ◌^◌, FitsSigned, to_z, of_z, ap, ◌∙◌}
use Rattle.std.specs.Prelude.{unsigned_abs}
use Rattle.std.specs.Int.{Width, w64, int_rem_euclid, int_wrap}
use Rattle.std.proofs.lemmas.Int.{to_z-of_z}
use mir.Val.{bits}

pub low_bits : (width : Width) (number kept cast : ℤ) → FitsSigned w64 number → FitsSigned w64 kept → FitsSigned width cast → kept ≡ int_rem_euclid (to_z w64 (of_z w64 number)) (pos (2 ^ bits width))
    → cast ≡ to_z width (unsigned_abs (to_z w64 (of_z w64 kept))) → to_z width (of_z width cast) ≡ int_wrap width number
unfolding int_wrap
low_bits width number kept cast number_fits kept_fits cast_fits is_kept is_cast =
    to_z-of_z width cast cast_fits ∙ is_cast
    ∙ ap (λ left. to_z width (unsigned_abs left)) (to_z-of_z w64 kept kept_fits ∙ is_kept ∙ ap (λ whole. int_rem_euclid whole (pos (2 ^ bits width))) (to_z-of_z w64 number number_fits))
