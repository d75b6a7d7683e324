-- A class in front of a name, by its place.
use Rattle.std.proofs.Common.{◌≡◌, ℕ, ◌+◌, ◌<◌, ◌++◌, ◌∷◌, List, length, take, drop, get_or, Contains, refl, sym, ap, subst, ◌∙◌, arith}
use Rattle.std.proofs.lemmas.List.{take-append-drop, drop_more, take_at, get_or_at, length-append}
use Rattle.dj_names.specs.declared.header.Header.{Header}
use Rattle.dj_names.specs.Headers.{Name, names}
use Rattle.dj_sayable.specs.Saying.{HasPackage, HasClassInFront}

module _ (headers : List Header) (name : Name) where
  -- the units before a place are the name of a class in a package
  abbrev pub IsClassBefore : ℕ → Type 0
  IsClassBefore at = HasPackage (take at name) × Contains (names headers) (take at name)

  -- a slash stands at a place behind such a class
  pub front_at : (at : ℕ) → at < length name → get_or name at 0 ≡ 47 → IsClassBefore at → HasClassInFront headers name
  front_at at within slash before = record {
    front = take at name;
    rest = drop (at + 1) name;
    parts = sym (take-append-drop at name) ∙ ap (λ rest. take at name ++ rest) (drop_more name at 0 within ∙ ap (λ unit. unit ∷ drop (at + 1) name) slash);
    packaged = before.0;
    there = before.1;
  }

  -- and at no place
  pub no_front : ((at : ℕ) → at < length name → get_or name at 0 ≡ 47 → ¬ IsClassBefore at) → ¬ HasClassInFront headers name
  no_front none has =
      none (length has.front) within (subst (λ (units : List ℕ). get_or units (length has.front) 0 ≡ 47) (sym has.parts) (get_or_at has.front 47 has.rest 0 (length has.front) refl))
      (subst HasPackage same has.packaged, subst (Contains (names headers)) same has.there)
    where
      within : length has.front < length name
      within = (let whole = ap length has.parts ∙ length-append has.front (47 ∷ has.rest) in omega (arith, whole))

      same : has.front ≡ take (length has.front) name
      same = sym (ap (take (length has.front)) has.parts ∙ take_at has.front (47 ∷ has.rest) (length has.front) refl)
