-- Which bytes begin with units in modified UTF-8.
use Rattle.std.proofs.Common.{◌≡◌, ◌⊎◌, inl, inr, ℕ, ◌+◌, ◌-◌, ◌*◌, ◌/◌, ◌%◌, ◌≤◌, List, [], ◌∷◌, ◌++◌, length, refl, sym, ap, ◌∙◌, arith, append_assoc}
use Rattle.std.proofs.lemmas.Bool.Decides.{nat_tests}
use Rattle.std.proofs.lemmas.List.{append-nil}
use Rattle.std.proofs.lemmas.List.Elements.{All-nil, All-push, All-append}
use Rattle.std.proofs.lemmas.Grind.{flat_map-append}
use Rattle.dj_layout.specs.Layout.{SpellsAny}
use Rattle.dj_layout.specs.Parts.{run}
use Rattle.dj_layout.specs.Layout.{Spells}
use Rattle.dj_names.specs.Utf8.{IsUnit, encode, spell_units}
use Rattle.dj_pool.specs.declared.fault.BrokenKind.TheVariants as kind
use Rattle.dj_pool.specs.PoolFormat.{utf8}
use Rattle.dj_pool.specs.PoolTable.{BeginsWithUnits}

-- the bytes of one unit
begins : (unit : ℕ) (bytes rest : List ℕ) → IsUnit unit → bytes ≡ encode unit ++ rest → BeginsWithUnits bytes rest
begins unit bytes rest is text =
    record { units = unit ∷ []; are_units = All-push IsUnit [] unit (All-nil IsUnit) is; text = text ∙ ap (λ (t : List ℕ). t ++ rest) (sym (append-nil (encode unit))) }

one_byte : (unit : ℕ) → 1 ≤ unit → unit ≤ 127 → encode unit ≡ unit ∷ []
one_byte unit low high = grind (arith, nat_tests)

two_bytes : (unit first second : ℕ) → 128 ≤ unit → unit ≤ 2047 → 192 + unit / 64 ≡ first → 128 + unit % 64 ≡ second → encode unit ≡ first ∷ second ∷ []
two_bytes unit first second low high one two = grind (arith, nat_tests)

three_bytes : (unit first second third : ℕ) → 2048 ≤ unit → 224 + unit / 4096 ≡ first → 128 + unit / 64 % 64 ≡ second → 128 + unit % 64 ≡ third → encode unit ≡ first ∷ second ∷ third ∷ []
three_bytes unit first second third low one two three = grind (arith, nat_tests)

pub begins_one : (byte : ℕ) (rest : List ℕ) → 1 ≤ byte → byte ≤ 127 → BeginsWithUnits (byte ∷ rest) rest
begins_one byte rest low high = begins byte (byte ∷ rest) rest (omega arith) (ap (λ (t : List ℕ). t ++ rest) (sym (one_byte byte low high)))

begins_zero : (rest : List ℕ) → BeginsWithUnits (192 ∷ 128 ∷ rest) rest
begins_zero rest = begins 0 (192 ∷ 128 ∷ rest) rest (omega arith) refl

begins_two : (first second : ℕ) (rest : List ℕ) → 194 ≤ first → first ≤ 223 → 128 ≤ second → second ≤ 191 → BeginsWithUnits (first ∷ second ∷ rest) rest
begins_two first second rest first_low first_high second_low second_high =
    begins ((first - 192) * 64 + (second - 128)) (first ∷ second ∷ rest) rest (omega arith)
    (ap (λ (t : List ℕ). t ++ rest) (sym (two_bytes ((first - 192) * 64 + (second - 128)) first second (omega arith) (omega arith) (omega arith) (omega arith))))

pub begins_pair : (first second : ℕ) (rest : List ℕ) → ((first ≡ 192) × (second ≡ 128)) ⊎ ((194 ≤ first) × (first ≤ 223) × (128 ≤ second) × (second ≤ 191)) → BeginsWithUnits (first ∷ second ∷ rest) rest
begins_pair first second rest (inl zero) = rw (zero.0, zero.1) (begins_zero rest)
begins_pair first second rest (inr (a, b, c, d)) = begins_two first second rest a b c d

pub begins_three : (first second third : ℕ) (rest : List ℕ) → 224 ≤ first → first ≤ 239 → 128 ≤ second → second ≤ 191 → 128 ≤ third → third ≤ 191 → 160 ≤ second + (first - 224) * 64 → BeginsWithUnits (first ∷ second ∷ third ∷ rest) rest
begins_three first second third rest first_low first_high second_low second_high third_low third_high long =
    begins ((first - 224) * 4096 + (second - 128) * 64 + (third - 128)) (first ∷ second ∷ third ∷ rest) rest (omega arith)
    (ap (λ (t : List ℕ). t ++ rest) (sym (three_bytes ((first - 224) * 4096 + (second - 128) * 64 + (third - 128)) first second third (omega arith) (omega arith) (omega arith) (omega arith))))

-- no units, and some units behind others
pub begins_none : (bytes : List ℕ) → BeginsWithUnits bytes bytes
begins_none bytes = record { units = []; are_units = All-nil IsUnit; text = refl }

pub begins_more : (bytes mid rest : List ℕ) → BeginsWithUnits bytes mid → BeginsWithUnits mid rest → BeginsWithUnits bytes rest
begins_more bytes mid rest before next = record {
  units = before.units ++ next.units;
  are_units = All-append IsUnit before.units next.units before.are_units next.are_units;
  text = before.text ∙ ap (λ (t : List ℕ). spell_units before.units ++ t) next.text ∙ sym (append_assoc (spell_units before.units) (spell_units next.units) rest) ∙ ap (λ (t : List ℕ). t ++ rest) (sym (flat_map-append encode before.units next.units));
}

-- a run of bytes that are units is a text of so many bytes
pub units_there : (n : ℕ) (bytes run_of rest : List ℕ) → Spells (run n kind.Short) bytes run_of rest → BeginsWithUnits run_of [] → SpellsAny (utf8 n) bytes rest
units_there n bytes run_of rest there are =
    let whole : run_of ≡ spell_units are.units = are.text ∙ append-nil (spell_units are.units) in
    record { value = are.units; spells = record { fits = (are.are_units, ap length (sym whole) ∙ there.fits.0); text = there.text ∙ ap (λ (t : List ℕ). t ++ rest) whole } }
