-- The first segment of a class's name that can be said is not spelled like a variable (JLS 6.4.2).
use Rattle.std.proofs.Common.{◌≡◌, ℕ, ◌+◌, ◌==◌, Bool, true, false, List, [], ◌∷◌, ◌++◌, take, Contains, All, refl, sym, ap, ◌∙◌, subst, arith, one-add, eqb-true}
use Rattle.std.specs.Prelude.{codes, nat_eq, ◌||◌, if◌then◌else◌}
use Rattle.std.specs.List.{AllByRecursion, before_first, position_or_len}
use Rattle.std.proofs.lemmas.Bool.{false≢true}
use Rattle.std.proofs.lemmas.Bool.Decides.{nat_tests}
use Rattle.std.proofs.lemmas.List.Elements.{All-from_recursion}
use Rattle.dj_names.specs.ClassNames.{in_front, segments}
use Rattle.dj_names.specs.Identifiers.{IsDigit}
use Rattle.dj_names.specs.Sayable.{IsVariableLike, IsSayable}
use Rattle.dj_tokens.specs.Words.{first_word, is_digit}
use Rattle.dj_tokens.specs.Literals.{is_variable_word, is_variable_letter, are_digits}
use Rattle.dj_grammar.proofs.NamesAreRead.{Parts, parts_of}

front_of : (name : List ℕ) → before_first (λ unit. unit == 47) name ≡ first_word (segments name)
front_of [] = refl
front_of (unit ∷ rest) = go (unit == 47) refl (front_of rest)
  where
    go : (is : Bool) → (unit == 47) ≡ is → before_first (λ unit. unit == 47) rest ≡ first_word (segments rest) → before_first (λ unit. unit == 47) (unit ∷ rest) ≡ first_word (segments (unit ∷ rest))
    go true e later = rw e refl
    go false e later = let parts = parts_of rest in rw (e, one-add) (ap (λ front. unit ∷ front) later ∙ rw parts.are refl)

are_all_digits : (digits : List ℕ) → are_digits digits ≡ true → AllByRecursion IsDigit digits
are_all_digits [] all = tt
are_all_digits (digit ∷ rest) all = go (is_digit digit) refl (are_all_digits rest) all
  where
    go : (is : Bool) → is_digit digit ≡ is → (are_digits rest ≡ true → AllByRecursion IsDigit rest) → (if is then are_digits rest else false) ≡ true → AllByRecursion IsDigit (digit ∷ rest)
    go true e later all = (grind (arith, nat_tests), later all)
    go false e later all = absurd (false≢true all)

variable_letter : (letter : ℕ) → is_variable_letter letter ≡ true → Contains (codes "pves") letter
variable_letter letter is = at_p (nat_eq letter 112) refl
  where
    at_s : (nat_eq letter 112) ≡ false → (nat_eq letter 118) ≡ false → (nat_eq letter 101) ≡ false → Contains (codes "pves") letter
    at_s p v e = (3, omega arith, sym (eqb-true letter 115 (rw (p, v, e) at is)))

    at_e : (same : Bool) → nat_eq letter 101 ≡ same → (nat_eq letter 112) ≡ false → (nat_eq letter 118) ≡ false → Contains (codes "pves") letter
    at_e true e p v = (2, omega arith, sym (eqb-true letter 101 e))
    at_e false e p v = at_s p v e

    at_v : (same : Bool) → nat_eq letter 118 ≡ same → (nat_eq letter 112) ≡ false → Contains (codes "pves") letter
    at_v true e p = (1, omega arith, sym (eqb-true letter 118 e))
    at_v false e p = at_e (nat_eq letter 101) refl p e

    at_p : (same : Bool) → nat_eq letter 112 ≡ same → Contains (codes "pves") letter
    at_p true e = (0, omega arith, sym (eqb-true letter 112 e))
    at_p false e = at_v (nat_eq letter 118) refl e

variable_like : (word : List ℕ) → is_variable_word word ≡ true → IsVariableLike word
variable_like [] is = absurd (false≢true is)
variable_like (letter ∷ []) is = absurd (false≢true is)
variable_like (letter ∷ digit ∷ rest) is = go (is_variable_letter letter) refl
  where
    go : (same : Bool) → is_variable_letter letter ≡ same → IsVariableLike (letter ∷ digit ∷ rest)
    go true e =
        let all : AllByRecursion IsDigit (digit ∷ rest) = are_all_digits (digit ∷ rest) (rw e at is) in
        (variable_letter letter e, all.0, All-from_recursion IsDigit rest all.1)
    go false e = absurd (false≢true (rw e at is))

-- the first segment of a class's name that can be said isn't taken for a variable
pub first_is_plain : (class : List ℕ) → IsSayable class → is_variable_word (parts_of class).first ≡ false
first_is_plain class sayable = go (is_variable_word (parts_of class).first) refl
  where
    same : before_first (λ unit. unit == 47) class ≡ (parts_of class).first
    same = front_of class ∙ ap first_word (parts_of class).are

    go : (is : Bool) → is_variable_word (parts_of class).first ≡ is → is ≡ false
    go true e = absurd (sayable.begins_plainly (subst IsVariableLike (sym same) (variable_like (parts_of class).first e)))
    go false e = refl
