-- A class is whole where each class at or above it has a header.
use Rattle.std.proofs.Common.{◌≡◌, ◌↔◌, ◌⊎◌, ℕ, zero, suc, Bool, true, false, not, ◌||◌, Decides, List, [], ◌∷◌, All, Contains, Option, Some, None, get_or, refl, sym, ap, subst, inl, inr, arith}
use Rattle.std.specs.Prelude.{option_to_list, slice_get}
use Rattle.std.specs.List.{list_all}
use Rattle.std.proofs.lemmas.Bool.{cases_Bool, false_from_ne_true}
use Rattle.std.proofs.lemmas.Bool.Decides.{Decides-like, Decides-at, Decides-and, Decides-or, Decides-not, Decides-by_and, not_from_Decides, same_from_decides}
use Rattle.std.proofs.lemmas.Option.{slice_get_within, get_or_from_slice_get}
use Rattle.std.proofs.lemmas.List.Elements.{All-contains, Contains-get_or, Contains-append_left, Contains-append_right, Contains-append_cases}
use Rattle.dj_names.specs.declared.header.Header.{Header}
use Rattle.dj_names.specs.Headers.{Name, names, HasParent, IsPath, Implements}
use Rattle.dj_headers.proofs.PathLemmas.{Implements-own, join_paths}
use Rattle.dj_values.specs.Deciding.{is_name, parents_of, implements}
use Rattle.dj_values.proofs.Deciding.{Decides-implements}
use Rattle.dj_sayable.specs.Above.{IsAtOrAbove}
use Rattle.dj_typing.specs.Sites.{has_header, is_whole}
use Rattle.dj_typing.specs.Words.{is_among}
use Rattle.dj_typing.proofs.WordLemmas.{Decides-among}

-- ---- a class has a header

has_header_is : (headers : List Header) (name : Name) → has_header headers name ≡ is_among (names headers) name
has_header_is [] name = refl
has_header_is (header ∷ headers) name = ap (λ b. is_name header.name name || b) (has_header_is headers name)

pub Decides-has : (headers : List Header) (name : Name) → Decides (has_header headers name) (Contains (names headers) name)
Decides-has headers name = Decides-at _ _ (has_header_is headers name) (Decides-among (names headers) name)

pub has_none : (headers : List Header) (name : Name) → ¬ Contains (names headers) name → false ≡ has_header headers name
has_none headers name none = sym (false_from_ne_true (has_header headers name) (λ is. none ((Decides-has headers name).0 is)))

pub has_one : (headers : List Header) (name : Name) (at : ℕ) → slice_get (names headers) at ≡ Some name → true ≡ has_header headers name
has_one headers name at there =
    sym ((Decides-has headers name).1 (at, slice_get_within (names headers) at name there, get_or_from_slice_get (names headers) at name name there))

-- ---- a class is whole

module _ (headers : List Header) (class : Name) where
  -- each class at or above it has a header
  abbrev AllKnown : Type 0
  AllKnown = (name : Name) → Implements headers class name → Contains (names headers) name

  abbrev IsKnownAbove : Header → Type 0
  IsKnownAbove header = (¬ Implements headers class header.name) ⊎ All (Contains (names headers)) (parents_of header)

  Decides-have : (classes : List Name) → Decides (list_all (has_header headers) classes) (All (Contains (names headers)) classes)
  Decides-have = Decides-by_and (has_header headers) (Contains (names headers)) (list_all (has_header headers)) (Decides-has headers) refl (λ _ _. refl)

  Decides-parts : Decides (is_whole headers class) (Contains (names headers) class × All IsKnownAbove headers)
  Decides-parts =
      Decides-and _ _ (Decides-has headers class)
      (Decides-by_and (λ (header : Header). not (implements headers class header.name) || list_all (has_header headers) (parents_of header)) IsKnownAbove
      (list_all (λ (header : Header). not (implements headers class header.name) || list_all (has_header headers) (parents_of header)))
      (λ header. Decides-or _ _ (Decides-not _ (Decides-implements headers class header.name)) (Decides-have (parents_of header)))
      refl (λ _ _. refl) headers)

  one_more : (at next : Name) → Implements headers class at → HasParent headers at next → Implements headers class next
  one_more at next above step = join_paths headers class at next above.path above.is_path (record { path = next ∷ []; is_path = (step, refl) })

  parent_known : (header : Header) (next : Name) → IsKnownAbove header → Implements headers class header.name → Contains (parents_of header) next → Contains (names headers) next
  parent_known header next (inl none) above among = absurd (none above)
  parent_known header next (inr known) above among = All-contains (Contains (names headers)) (parents_of header) next known among

  step_known : All IsKnownAbove headers → (at next : Name) → Implements headers class at → HasParent headers at next → Contains (names headers) next
  step_known each at next above (inl (k, header, within, is, (named, superclass))) =
      parent_known header next (All-contains IsKnownAbove headers header each (k, within, is)) (subst (Implements headers class) (sym named) above)
      (Contains-append_left (option_to_list header.superclass) header.interfaces next (subst (λ (one : Option Name). Contains (option_to_list one) next) (sym superclass) (0, omega arith, refl)))
  step_known each at next above (inr (k, header, within, is, (named, interface))) =
      parent_known header next (All-contains IsKnownAbove headers header each (k, within, is)) (subst (Implements headers class) (sym named) above)
      (Contains-append_right (option_to_list header.superclass) header.interfaces next interface)

  climb : All IsKnownAbove headers → (path : List Name) (at name : Name) → IsPath (HasParent headers) at path name → Implements headers class at → Contains (names headers) at → Contains (names headers) name
  climb each [] at name same above known = subst (Contains (names headers)) same known
  climb each (next ∷ path) at name steps above known =
      climb each path next name steps.1 (one_more at next above steps.0) (step_known each at next above steps.0)

  only_there : (one : Option Name) (name : Name) → Contains (option_to_list one) name → one ≡ Some name
  only_there None name (k, within, is) = absurd (omega arith)
  only_there (Some other) name (zero, within, is) = ap Some is
  only_there (Some other) name (suc k, within, is) = absurd (omega arith)

  parent_of : (header : Header) (next : Name) → Contains headers header → Contains (parents_of header) next → HasParent headers header.name next
  parent_of header next there among =
      elim (Contains-append_cases (option_to_list header.superclass) header.interfaces next among) [
        | inl superclass ↦ inl (there.0, header, there.1, there.2, (refl, only_there header.superclass next superclass))
        | inr interface ↦ inr (there.0, header, there.1, there.2, (refl, interface))
      ]

  header_known : AllKnown → (header : Header) → Contains headers header → IsKnownAbove header
  header_known known header there =
      elim (cases_Bool (implements headers class header.name)) [
        | inl is ↦ inr (λ k d within.
            let next = get_or (parents_of header) k d in
            known next (one_more header.name next ((Decides-implements headers class header.name).0 is) (parent_of header next there (Contains-get_or (parents_of header) k d within))))
        | inr is ↦ inl (not_from_Decides (implements headers class header.name) (Decides-implements headers class header.name) is)
      ]

  pub Decides-whole : Decides (is_whole headers class) AllKnown
  Decides-whole =
      Decides-like (is_whole headers class) (λ h name above. climb h.1 above.path class name above.is_path (Implements-own headers class) h.0)
      (λ known. (known class (Implements-own headers class), λ k d within. header_known known (get_or headers k d) (Contains-get_or headers k d within))) Decides-parts

  only_one : (name : Name) → Contains (class ∷ []) name → class ≡ name
  only_one name (zero, within, is) = is
  only_one name (suc k, within, is) = absurd (omega arith)

  -- what is found where all classes at or above it are looked at
  pub whole_is : (own all seen : List Name) (whole : Bool) → own ≡ class ∷ [] → ((name : Name) → Contains all name ↔ IsAtOrAbove headers (Contains own) name) → seen ≡ all
      → whole ≡ list_all (has_header headers) seen → whole ≡ is_whole headers class
  whole_is own all seen whole alone has looked is =
      let known : Decides whole (All (Contains (names headers)) seen) = Decides-at _ _ is (Decides-have seen) in
      same_from_decides whole (is_whole headers class) (
        λ is name above. All-contains (Contains (names headers)) all name (subst (All (Contains (names headers))) looked (known.0 is))
            ((has name).1 (record { lower = class; is_one = subst (λ (list : List Name). Contains list class) (sym alone) (0, omega arith, refl); above = above })),
        λ each. known.1 (subst (All (Contains (names headers))) (sym looked) (λ k d within.
            let name = get_or all k d in
            let found = (has name).0 (Contains-get_or all k d within) in
            each name (subst (λ (lower : Name). Implements headers lower name) (sym (only_one found.lower (subst (λ (list : List Name). Contains list found.lower) alone found.is_one))) found.above))),
      ) Decides-whole
