-- Packages, unit by unit.
use Rattle.std.proofs.Common.{◌≡◌, ◌≢◌, ◌==◌, ◌||◌, ℕ, ◌+◌, ◌<◌, Bool, true, false, List, [], ◌∷◌, ◌++◌, if◌then◌else◌, take, length, get_or, refl, sym, ap, ◌∙◌}
use Rattle.std.proofs.lemmas.Bool.{eqb-true, false_from_ne_true}
use Rattle.std.proofs.lemmas.List.{take_more}
use Rattle.dj_kinds.specs.Access.{has_slash, package_of}

slash_last : (units : List ℕ) → has_slash (units ++ 47 ∷ []) ≡ true
slash_last [] = refl
slash_last (unit ∷ units) = or_true (unit == 47) (has_slash (units ++ 47 ∷ [])) (slash_last units)
  where
    or_true : (a b : Bool) → b ≡ true → (a || b) ≡ true
    or_true true b is = refl
    or_true false b is = is

slash_before : (units : List ℕ) (last : ℕ) → (last == 47) ≡ false → has_slash (units ++ last ∷ []) ≡ has_slash units
slash_before [] last other = ap (λ b. b || false) other
slash_before (unit ∷ units) last other = ap (λ b. (unit == 47) || b) (slash_before units last other)

pub package_slash : (units : List ℕ) → package_of (units ++ 47 ∷ []) ≡ units ++ 47 ∷ []
package_slash [] = refl
package_slash (unit ∷ units) =
    ap (λ b. if b then unit ∷ package_of (units ++ 47 ∷ []) else []) (slash_last (unit ∷ units)) ∙ ap (λ xs. unit ∷ xs) (package_slash units)

pub package_other : (units : List ℕ) (last : ℕ) → (last == 47) ≡ false → package_of (units ++ last ∷ []) ≡ package_of units
package_other [] last other = ap (λ b. if b || false then last ∷ [] else []) other
package_other (unit ∷ units) last other =
    ap (λ b. if b then unit ∷ package_of (units ++ last ∷ []) else []) (slash_before (unit ∷ units) last other)
    ∙ ap (λ xs. if has_slash (unit ∷ units) then unit ∷ xs else []) (package_other units last other)

no_slash : (unit : ℕ) → unit ≢ 47 → (unit == 47) ≡ false
no_slash unit other = false_from_ne_true (unit == 47) (λ is. other (eqb-true unit 47 is))

-- one more unit of a name
module _ (name : List ℕ) (at : ℕ) (within : at < length name) where
  pub package_to : get_or name at 0 ≡ 47 → take (at + 1) name ≡ package_of (take (at + 1) name)
  package_to is =
      let more : take (at + 1) name ≡ take at name ++ 47 ∷ [] = take_more name at 0 within ∙ ap (λ u. take at name ++ u ∷ []) is in
      more ∙ sym (package_slash (take at name)) ∙ ap package_of (sym more)

  pub package_on : get_or name at 0 ≢ 47 → package_of (take at name) ≡ package_of (take (at + 1) name)
  package_on other = sym (package_other (take at name) (get_or name at 0) (no_slash (get_or name at 0) other)) ∙ ap package_of (sym (take_more name at 0 within))
