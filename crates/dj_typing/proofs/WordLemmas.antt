-- The tests of names decide what they test.
use Rattle.std.proofs.Common.{◌≡◌, ◌⊎◌, ◌≤◌, ℕ, nat_le, leb-true, le-leb, ◌||◌, Decides, List, [], ◌∷◌, Contains, refl}
use Rattle.std.specs.List.{list_all}
use Rattle.std.proofs.lemmas.Bool.{false≢true}
use Rattle.std.proofs.lemmas.Bool.Decides.{Decides-like, Decides-and, Decides-or, Decides-not, Decides-eqb, Decides-by_and, Decides-by_or}
use Rattle.std.proofs.lemmas.List.Elements.{Decides-contains}
use Rattle.dj_names.specs.Identifiers.{IsLetter, IsDigit, IsIdentifierChars, IsIdentifier, keywords, word_literals}
use Rattle.dj_values.specs.Deciding.{is_name}
use Rattle.dj_values.proofs.Deciding.{Decides-name}
use Rattle.dj_typing.specs.Words.{is_among, is_letter, is_digit, has_identifier_chars, is_identifier}

pub Decides-among : (names : List (List ℕ)) (name : List ℕ) → Decides (is_among names name) (Contains names name)
Decides-among names name =
    Decides-contains names name (is_among names name)
    (Decides-by_or (λ one. is_name one name) (λ one. one ≡ name) (λ list. is_among list name) (λ one. Decides-name one name) refl (λ _ _. refl) names)

Decides-at_most : (least most : ℕ) → Decides (nat_le least most) (least ≤ most)
Decides-at_most least most = (leb-true least most, le-leb least most)

Decides-letter : (unit : ℕ) → Decides (is_letter unit) (IsLetter unit)
Decides-letter unit =
    Decides-or _ _ (Decides-and _ _ (Decides-at_most 65 unit) (Decides-at_most unit 90))
    (Decides-or _ _ (Decides-and _ _ (Decides-at_most 97 unit) (Decides-at_most unit 122)) (Decides-or _ _ (Decides-eqb unit 95) (Decides-eqb unit 36)))

pub Decides-digit : (unit : ℕ) → Decides (is_digit unit) (IsDigit unit)
Decides-digit unit = Decides-and _ _ (Decides-at_most 48 unit) (Decides-at_most unit 57)

Decides-chars : (units : List ℕ) → Decides (has_identifier_chars units) (IsIdentifierChars units)
Decides-chars [] = (λ is. false≢true is, λ h. absurd h)
Decides-chars (first ∷ rest) =
    Decides-and _ _ (Decides-letter first)
    (Decides-by_and (λ unit. is_letter unit || is_digit unit) (λ unit. IsLetter unit ⊎ IsDigit unit) (list_all (λ unit. is_letter unit || is_digit unit))
    (λ unit. Decides-or _ _ (Decides-letter unit) (Decides-digit unit)) refl (λ _ _. refl) rest)

pub Decides-identifier : (units : List ℕ) → Decides (is_identifier units) (IsIdentifier units)
Decides-identifier units =
    Decides-like (is_identifier units) (λ h. record { chars = h.0; no_keyword = h.1.0; no_literal = h.1.1 }) (λ h. (h.chars, (h.no_keyword, h.no_literal)))
    (Decides-and _ _ (Decides-chars units) (Decides-and _ _ (Decides-not _ (Decides-among keywords units)) (Decides-not _ (Decides-among word_literals units))))
