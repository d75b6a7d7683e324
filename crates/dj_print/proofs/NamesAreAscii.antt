-- Names are written as one byte a unit: an identifier is of letters and digits (JLS 3.8).
use Rattle.std.proofs.Common.{◌≡◌, ℕ, ◌⊎◌, ◌<◌, ◌==◌, if◌then◌else◌, Bool, true, false, List, [], ◌∷◌, ◌++◌, inl, inr, refl, sym, subst, arith}
use Rattle.std.specs.Prelude.{All, codes}
use Rattle.std.specs.List.{AllByRecursion}
use Rattle.std.proofs.lemmas.Bool.{eqb-true}
use Rattle.std.proofs.lemmas.List.Elements.{All-from_recursion, recursion_from_All, All-weaker}
use Rattle.dj_names.specs.ClassNames.{segments, in_front}
use Rattle.dj_names.specs.Identifiers.{IsLetter, IsDigit, IsIdentifierChars, IsIdentifier}
use Rattle.dj_names.specs.Sayable.{IsSayable}
use Rattle.dj_syntax.specs.WellFormed.{IsQualified, IsDecimalNumeral, IsHelperName}
use Rattle.dj_print.specs.Spelled.{IsAsciiName}

-- ---- names

-- units below 128, by recursion
abbrev AreAscii : List ℕ → Type 0
AreAscii = AllByRecursion (λ unit. unit < 128)

ascii_letter : (unit : ℕ) → IsLetter unit → unit < 128
ascii_letter unit (inl h) = omega arith
ascii_letter unit (inr (inl h)) = omega arith
ascii_letter unit (inr (inr (inl h))) = omega arith
ascii_letter unit (inr (inr (inr h))) = omega arith

ascii_either : (unit : ℕ) → IsLetter unit ⊎ IsDigit unit → unit < 128
ascii_either unit (inl h) = ascii_letter unit h
ascii_either unit (inr h) = omega arith

ascii_chars : (units : List ℕ) → IsIdentifierChars units → AreAscii units
ascii_chars [] h = absurd h
ascii_chars (first ∷ rest) (letter, others) =
    (ascii_letter first letter, recursion_from_All (λ unit. unit < 128) rest (All-weaker (λ unit. IsLetter unit ⊎ IsDigit unit) (λ unit. unit < 128) ascii_either rest others))

ascii_name : (units : List ℕ) → AreAscii units → IsAsciiName units
ascii_name units h = All-from_recursion (λ unit. unit < 128) units h

pub ascii_identifier : (units : List ℕ) → IsIdentifier units → IsAsciiName units
ascii_identifier units h = ascii_name units (ascii_chars units h.chars)

ascii_choice : (slash : Bool) (unit : ℕ) (parts : List (List ℕ)) → (slash ≡ true → unit ≡ 47) → AllByRecursion AreAscii (if slash then [] ∷ parts else in_front unit parts) → (unit < 128) × AllByRecursion AreAscii parts
ascii_choice true unit parts is h = (let e = is refl in omega arith, h.1)
ascii_choice false unit [] is h = (h.0.0, tt)
ascii_choice false unit (first ∷ rest) is h = (h.0.0, (h.0.1, h.1))

ascii_parts : (name : List ℕ) → AllByRecursion AreAscii (segments name) → AreAscii name
ascii_parts [] h = tt
ascii_parts (unit ∷ rest) h =
    let both = ascii_choice (unit == 47) unit (segments rest) (eqb-true unit 47) h in
    (both.0, ascii_parts rest both.1)

ascii_segments : (parts : List (List ℕ)) → AllByRecursion IsIdentifier parts → AllByRecursion AreAscii parts
ascii_segments [] h = tt
ascii_segments (part ∷ parts) (here, there) = (ascii_chars part here.chars, ascii_segments parts there)

pub ascii_qualified : (name : List ℕ) → IsQualified name → IsAsciiName name
ascii_qualified name h = ascii_name name (ascii_parts name (ascii_segments (segments name) h))

-- what can be said is qualified
pub qualified_sayable : (name : List ℕ) → IsSayable name → IsQualified name
qualified_sayable name h = recursion_from_All IsIdentifier (segments name) h.identifiers

-- ---- numbers

ascii_digits : (digits : List ℕ) → AllByRecursion IsDigit digits → AreAscii digits
ascii_digits [] h = tt
ascii_digits (digit ∷ digits) (here, there) = (omega arith, ascii_digits digits there)

ascii_numeral : (digits : List ℕ) → IsDecimalNumeral digits → AreAscii digits
ascii_numeral [] h = absurd h
ascii_numeral (digit ∷ []) h = (omega arith, tt)
ascii_numeral (first ∷ next ∷ rest) h = ascii_digits (first ∷ next ∷ rest) h.1

pub ascii_helper : (name : List ℕ) → IsHelperName name → IsAsciiName name
ascii_helper name (digits, numeral, is) =
    let d = ascii_numeral digits numeral in
    let below : AreAscii (codes "rethrow$" ++ digits) = (omega arith, (omega arith, (omega arith, (omega arith, (omega arith, (omega arith, (omega arith, (omega arith, d)))))))) in
    ascii_name name (subst AreAscii (sym is) below)
