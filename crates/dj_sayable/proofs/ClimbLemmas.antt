-- Names from classes upward: once the parents of each are among them, they are what stands above.
use Rattle.std.proofs.Common.{◌≡◌, ◌≢◌, ◌↔◌, ℕ, zero, suc, ◌+◌, ◌<◌, ◌≤◌, List, [], ◌∷◌, ◌++◌, AllPairs, Contains, Some, length, take, get_or, refl, sym, subst, inl, inr, arith}
use Rattle.std.specs.Option.{option_to_list}
use Rattle.std.specs.Cmp.Lexicographic.{nat_list_eq_equiv}
use Rattle.std.proofs.lemmas.List.{take_all}
use Rattle.std.proofs.lemmas.List.Elements.{Contains-append_left, Contains-append_right, Contains-get_or}
use Rattle.std.proofs.lemmas.Map.Made.{length-le_from_is_member, IsDistinct-from_AllPairs, is_member-Decides}
use Rattle.std.proofs.lemmas.Slice.Eq.{bytes_eq-Decides}
use Rattle.dj_names.specs.declared.header.Header.{Header}
use Rattle.dj_names.specs.Headers.{Name, HasParent, IsPath}
use Rattle.dj_headers.proofs.PathLemmas.{Implements-own, join_paths}
use Rattle.dj_sayable.specs.Above.{IsAtOrAbove}
use Rattle.dj_sayable.specs.Gathering.{Gains, Continues, Climbs, parents_in, mentioned}
use Rattle.dj_sayable.proofs.GatheringLemmas.{contains_more}

-- ---- parents are mentioned

parent_mentioned : (headers : List Header) (k : ℕ) (header : Header) (upper : Name) → k < length headers → get_or headers k header ≡ header → Contains (parents_in header) upper → Contains (mentioned headers) upper
parent_mentioned [] k header upper within is has = absurd (omega arith)
parent_mentioned (first ∷ headers) zero header upper within is has =
    Contains-append_left (parents_in first) (mentioned headers) upper (subst (λ (h : Header). Contains (parents_in h) upper) (sym is) has)
parent_mentioned (first ∷ headers) (suc k) header upper within is has =
    Contains-append_right (parents_in first) (mentioned headers) upper (parent_mentioned headers k header upper (omega arith) is has)

super_first : (header : Header) (upper : Name) → header.superclass ≡ Some upper → Contains (parents_in header) upper
super_first header upper is = subst (λ o. Contains (option_to_list o ++ header.interfaces) upper) (sym is) (0, omega arith, refl)

pub parents_mentioned : (headers : List Header) (lower upper : Name) → HasParent headers lower upper → Contains (mentioned headers) upper
parents_mentioned headers lower upper (inl (k, header, within, is, both)) = parent_mentioned headers k header upper within is (super_first header upper both.1)
parents_mentioned headers lower upper (inr (k, header, within, is, both)) =
    parent_mentioned headers k header upper within is (Contains-append_right (option_to_list header.superclass) header.interfaces upper both.1)

-- ---- distinct names among others are at most as many

pub distinct_within : (xs ys : List Name) → AllPairs (λ first second. first ≢ second) xs → ((name : Name) → Contains xs name → Contains ys name) → length xs ≤ length ys
distinct_within xs ys distinct within =
    length-le_from_is_member nat_list_eq_equiv xs ys (IsDistinct-from_AllPairs bytes_eq-Decides xs distinct)
    (λ name member. (is_member-Decides bytes_eq-Decides ys name).1 (within name ((is_member-Decides bytes_eq-Decides xs name).0 member)))

-- ---- the climb

pub above_parent : (headers : List Header) (IsOne : Name → Type 0) (lower upper : Name) → IsAtOrAbove headers IsOne lower → HasParent headers lower upper → IsAtOrAbove headers IsOne upper
above_parent headers IsOne lower upper at step = record {
  lower = at.lower;
  is_one = at.is_one;
  above = join_paths headers at.lower lower upper at.above.path at.above.is_path (record { path = upper ∷ []; is_path = (step, refl) });
}

module _ (headers : List Header) (classes : List Name) where
  pub climb_start : (names : List Name) → Gains [] names (Contains classes) → Continues [] names → Climbs headers classes 0 names
  climb_start names gains continues = record {
    distinct = continues.distinct (λ i j d below within. absurd (omega arith));
    roots = λ name one. (gains.each name).1 (inr one);
    sound = λ name has. elim ((gains.each name).0 has) [
      | inl none ↦ absurd (let w = none.1 in omega arith)
      | inr one ↦ record { lower = name; is_one = one; above = Implements-own headers name }
    ];
    closed = λ lower upper none step. absurd (let w = none.1 in omega arith);
    within = λ name has. elim ((gains.each name).0 has) [
      | inl none ↦ absurd (let w = none.1 in omega arith)
      | inr one ↦ Contains-append_left classes (mentioned headers) name one
    ];
  }

  pub climb_step : (at : ℕ) (class : Name) (names new : List Name) → at < length names → class ≡ get_or names at class → Gains names new (HasParent headers class) → Continues names new
      → Climbs headers classes at names → Climbs headers classes (at + 1) new
  climb_step at class names new within is gains continues climbs =
      let here : Contains names class = subst (Contains names) (sym is) (Contains-get_or names at class within) in record {
        distinct = continues.distinct climbs.distinct;
        roots = λ name one. (gains.each name).1 (inl (climbs.roots name one));
        sound = λ name has. elim ((gains.each name).0 has) [
          | inl had ↦ climbs.sound name had
          | inr step ↦ above_parent headers (Contains classes) class name (climbs.sound class here) step
        ];
        closed = λ lower upper first step.
            let first_old : Contains (take (at + 1) names) lower = subst (λ (xs : List Name). Contains xs lower) (continues.begins (at + 1) (omega arith)) first in
            elim ((contains_more names at class within is lower).1 first_old) [
              | inl before ↦ (gains.each upper).1 (inl (climbs.closed lower upper before step))
              | inr same ↦ (gains.each upper).1 (inr (subst (λ x. HasParent headers x upper) (sym same) step))
            ];
        within = λ name has. elim ((gains.each name).0 has) [
          | inl had ↦ climbs.within name had
          | inr step ↦ Contains-append_right classes (mentioned headers) name (parents_mentioned headers class name step)
        ];
      }

  pub climb_room : (at : ℕ) (names : List Name) → Climbs headers classes at names → length names ≤ length (classes ++ mentioned headers)
  climb_room at names climbs = distinct_within names (classes ++ mentioned headers) climbs.distinct climbs.within

  module _ (names : List Name) (closed : (lower upper : Name) → Contains names lower → HasParent headers lower upper → Contains names upper) where
    along : (lower upper : Name) (path : List Name) → Contains names lower → IsPath (HasParent headers) lower path upper → Contains names upper
    along lower upper [] has same = subst (Contains names) same has
    along lower upper (next ∷ path) has steps = along next upper path (closed lower next has steps.0) steps.1

  pub climb_end : (at : ℕ) (names : List Name) → length names ≤ at → Climbs headers classes at names → (name : Name) → Contains names name ↔ IsAtOrAbove headers (Contains classes) name
  climb_end at names all climbs name =
      let closed : (lower upper : Name) → Contains names lower → HasParent headers lower upper → Contains names upper =
      λ lower upper has. climbs.closed lower upper (subst (λ (xs : List Name). Contains xs lower) (sym (take_all at names all)) has) in
      (climbs.sound name, λ above. along names closed above.lower name above.above.path (climbs.roots above.lower above.is_one) above.above.is_path)
