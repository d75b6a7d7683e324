-- Among the methods that a call with a method's own parameters could mean, the one of these parameters is chosen: no type goes to another one both ways.
use Rattle.std.proofs.Common.{◌≡◌, ◌<◌, ℕ, zero, suc, Bool, true, List, [], ◌∷◌, map, Some, None, Contains, refl, sym, ap, subst, ◌∙◌, inl, inr, arith}
use Rattle.std.specs.Prelude.{nat_lt}
use Rattle.std.specs.List.{list_all}
use Rattle.std.proofs.lemmas.Bool.{and_parts, ltb-true}
use Rattle.dj_names.specs.declared.header.Header.{Header}
use Rattle.dj_names.specs.declared.members.MethodHead.{MethodHead}
use Rattle.dj_names.specs.declared.members.ClassMembers.{ClassMembers}
use Rattle.dj_names.specs.declared.members.Member.{Member}
use Rattle.dj_names.specs.Headers.{Name, HasParent, IsPath, Implements}
use Rattle.dj_names.specs.Types.{JType, Boolean, Byte, Char, Short, Int, Long, Float, Double, Class, Array, Of}
use Rattle.dj_names.specs.Assignable.{wider_types, object_name, above_arrays, IsSubtype}
use Rattle.dj_names.proofs.AssignableLemmas.{GoesUp, Beyond, Ways, ways}
use Rattle.dj_headers.proofs.PathLemmas.{join_paths}
use Rattle.dj_kinds.specs.Search.{IsFirstIn, method_order}
use Rattle.dj_kinds.specs.Own.{IsSeen, Counts, HasOwnMethod}
use Rattle.dj_kinds.specs.Single.{counts_one}
use Rattle.dj_kinds.specs.Choice.{Call, AllAssignable, AllSubtypes, IsMethodAt, parameters, IsCandidate, IsMoreSpecific, IsMostSpecific, IsChosen}
use Rattle.dj_kinds.proofs.ChoiceLemmas.{one_found}
use Rattle.dj_world.specs.Clashes.{IsLawful}
use Rattle.dj_static.proofs.ChosenLemmas.{one_method}

-- ---- numbers

abbrev rank : JType → ℕ
rank Boolean = 0
rank Byte = 1
rank Char = 2
rank Short = 2
rank Int = 3
rank Long = 4
rank Float = 5
rank Double = 6
rank (Class name) = 0
rank (Array element) = 0

all_pass : {A : Type 0} (test : A → Bool) (list : List A) → list_all test list ≡ true → (x : A) → Contains list x → test x ≡ true
all_pass test [] all x (k, within, is) = absurd (omega arith)
all_pass test (y ∷ list) all x (zero, within, is) = subst (λ z. test z ≡ true) is (and_parts (test y) (list_all test list) all).0
all_pass test (y ∷ list) all x (suc k, within, is) = all_pass test list (and_parts (test y) (list_all test list) all).1 x (k, omega arith, is)

each_wider : (from : JType) → list_all (λ to. nat_lt (rank from) (rank to)) (wider_types from) ≡ true
each_wider Boolean = refl
each_wider Byte = refl
each_wider Char = refl
each_wider Short = refl
each_wider Int = refl
each_wider Long = refl
each_wider Float = refl
each_wider Double = refl
each_wider (Class name) = refl
each_wider (Array element) = refl

wider_ranks : (from to : JType) → Contains (wider_types from) to → rank from < rank to
wider_ranks from to within = ltb-true (rank from) (rank to) (all_pass (λ one. nat_lt (rank from) (rank one)) (wider_types from) (each_wider from) to within)

module _ (headers : List Header) (lawful : IsLawful headers) where
  -- ---- classes

  above_both : (lower upper : Name) (path : List Name) → IsPath (HasParent headers) lower path upper → Implements headers upper lower → lower ≡ upper
  above_both lower upper [] same back = same
  above_both lower upper (next ∷ path) steps back = absurd (lawful.no_circle (record { lower = lower; upper = next; is_parent = steps.0; back = join_paths headers next upper lower path steps.1 back }))

  -- Object has nothing above it
  no_parent : (next : Name) → HasParent headers object_name next → ⊥
  no_parent next (inl (k, header, within, is, parts)) =
      lawful.no_wrong_kind (inr (k, header, within, is, inr (inl (inr (parts.0, λ none. (let e : None ≡ Some next = sym none ∙ parts.1 in absurd (cc)))))))
  no_parent next (inr (k, header, within, is, parts)) =
      lawful.no_wrong_kind (inr (k, header, within, is, inr (inl (inl (subst (Contains above_arrays) (sym parts.0) (0, omega arith, refl), λ none. no_member next (subst (λ (list : List Name). Contains list next) none parts.1))))))
    where
      no_member : (x : Name) → Contains [] x → ⊥
      no_member x (k, within, is) = omega arith

  above_object : (upper : Name) → Implements headers object_name upper → object_name ≡ upper
  above_object upper above = by above.path above.is_path
    where
      by : (path : List Name) → IsPath (HasParent headers) object_name path upper → object_name ≡ upper
      by [] same = same
      by (next ∷ path) steps = absurd (no_parent next steps.0)

  class_both : (from to : Name) → GoesUp headers from to → GoesUp headers to from → from ≡ to
  class_both from to (inl above) (inl back) = above_both from to above.path above.is_path back
  class_both from to (inl above) (inr back) = above_object_so (back.1)
    where
      above_object_so : from ≡ object_name → from ≡ to
      above_object_so same = same ∙ above_object to (subst (λ name. Implements headers name to) same above)
  class_both from to (inr goes) (inl back) = sym (goes.1 ∙ above_object from (subst (λ name. Implements headers name from) goes.1 back))
  class_both from to (inr goes) (inr back) = back.1 ∙ sym goes.1

  -- ---- types

  one_class : (first second : Name) → Class first ≡ Class second → first ≡ second
  one_class first second same = cc

  one_element : (first second : JType) → Array first ≡ Array second → first ≡ second
  one_element first second same = cc

  no_beyond : (from to : JType) → Contains (wider_types from) to → Beyond headers to from → ⊥
  no_beyond from Boolean wider beyond = beyond
  no_beyond from Byte wider beyond = beyond
  no_beyond from Char wider beyond = beyond
  no_beyond from Short wider beyond = beyond
  no_beyond from Int wider beyond = beyond
  no_beyond from Long wider beyond = beyond
  no_beyond from Float wider beyond = beyond
  no_beyond from Double wider beyond = beyond
  no_beyond from (Class name) wider beyond = let less = wider_ranks from (Class name) wider in omega (arith, less)
  no_beyond from (Array element) wider beyond = let less = wider_ranks from (Array element) wider in omega (arith, less)

  -- what is known of the elements of an array
  abbrev Inner : JType → Type 0
  Inner Boolean = Unit {0}
  Inner Byte = Unit {0}
  Inner Char = Unit {0}
  Inner Short = Unit {0}
  Inner Int = Unit {0}
  Inner Long = Unit {0}
  Inner Float = Unit {0}
  Inner Double = Unit {0}
  Inner (Class name) = Unit {0}
  Inner (Array element) = (to : JType) → IsSubtype headers element to → IsSubtype headers to element → element ≡ to

  by_beyond : (from to : JType) → Inner from → Beyond headers from to → Beyond headers to from → from ≡ to
  by_beyond Boolean to inner beyond back = absurd beyond
  by_beyond Byte to inner beyond back = absurd beyond
  by_beyond Char to inner beyond back = absurd beyond
  by_beyond Short to inner beyond back = absurd beyond
  by_beyond Int to inner beyond back = absurd beyond
  by_beyond Long to inner beyond back = absurd beyond
  by_beyond Float to inner beyond back = absurd beyond
  by_beyond Double to inner beyond back = absurd beyond
  by_beyond (Class from) Boolean inner beyond back = absurd back
  by_beyond (Class from) Byte inner beyond back = absurd back
  by_beyond (Class from) Char inner beyond back = absurd back
  by_beyond (Class from) Short inner beyond back = absurd back
  by_beyond (Class from) Int inner beyond back = absurd back
  by_beyond (Class from) Long inner beyond back = absurd back
  by_beyond (Class from) Float inner beyond back = absurd back
  by_beyond (Class from) Double inner beyond back = absurd back
  by_beyond (Class from) (Class to) inner (name, is, goes) (other, same, back) =
      ap Class (class_both from to (subst (GoesUp headers from) (one_class name to (sym is)) goes) (subst (GoesUp headers to) (one_class other from (sym same)) back))
  by_beyond (Class from) (Array to) inner (name, is, goes) back = absurd (let e : Array to ≡ Class name = is in cc)
  by_beyond (Array from) Boolean inner beyond back = absurd back
  by_beyond (Array from) Byte inner beyond back = absurd back
  by_beyond (Array from) Char inner beyond back = absurd back
  by_beyond (Array from) Short inner beyond back = absurd back
  by_beyond (Array from) Int inner beyond back = absurd back
  by_beyond (Array from) Long inner beyond back = absurd back
  by_beyond (Array from) Float inner beyond back = absurd back
  by_beyond (Array from) Double inner beyond back = absurd back
  by_beyond (Array from) (Class to) inner beyond (name, is, back) = absurd (let e : Array from ≡ Class name = is in cc)
  by_beyond (Array from) (Array to) inner (inl (reference, (element, is, goes))) (inl (other_reference, (other, same, back))) =
      ap Array (inner to (subst (IsSubtype headers from) (one_element element to (sym is)) goes) (subst (IsSubtype headers to) (one_element other from (sym same)) back))
  by_beyond (Array from) (Array to) inner (inl goes) (inr (name, is, above)) = absurd (let e : Array from ≡ Class name = is in cc)
  by_beyond (Array from) (Array to) inner (inr (name, is, above)) back = absurd (let e : Array to ≡ Class name = is in cc)

  by_ways : (from to : JType) → Inner from → Ways headers from to → Ways headers to from → from ≡ to
  by_ways from to inner (inl (inl same)) back = same
  by_ways from to inner (inl (inr wider)) (inl (inl same)) = sym same
  by_ways from to inner (inl (inr wider)) (inl (inr back)) = absurd (let less = wider_ranks from to wider in let more = wider_ranks to from back in omega (arith, less, more))
  by_ways from to inner (inl (inr wider)) (inr beyond) = absurd (no_beyond from to wider beyond)
  by_ways from to inner (inr beyond) (inl (inl same)) = sym same
  by_ways from to inner (inr beyond) (inl (inr wider)) = absurd (no_beyond to from wider beyond)
  by_ways from to inner (inr beyond) (inr back) = by_beyond from to inner beyond back

  inner_of : (from : JType) → Inner from
  inner_of Boolean = tt
  inner_of Byte = tt
  inner_of Char = tt
  inner_of Short = tt
  inner_of Int = tt
  inner_of Long = tt
  inner_of Float = tt
  inner_of Double = tt
  inner_of (Class name) = tt
  inner_of (Array element) = λ to goes back. by_ways element to (inner_of element) (ways headers element to goes) (ways headers to element back)

  -- no type goes to another one both ways
  pub both_ways : (from to : JType) → IsSubtype headers from to → IsSubtype headers to from → from ≡ to
  both_ways from to goes back = by_ways from to (inner_of from) (ways headers from to goes) (ways headers to from back)

  all_both_ways : (froms tos : List JType) → AllSubtypes headers froms tos → AllSubtypes headers tos froms → froms ≡ tos
  all_both_ways [] [] goes back = refl
  all_both_ways [] (to ∷ tos) goes back = absurd goes
  all_both_ways (from ∷ froms) [] goes back = absurd goes
  all_both_ways (from ∷ froms) (to ∷ tos) goes back = ap (λ one. one ∷ froms) (both_ways from to goes.0 back.0) ∙ ap (λ rest. to ∷ rest) (all_both_ways froms tos goes.1 back.1)

  exact_subtypes : (froms tos : List JType) → AllAssignable headers (map Of froms) tos → AllSubtypes headers froms tos
  exact_subtypes [] [] all = tt
  exact_subtypes [] (to ∷ tos) all = absurd all
  exact_subtypes (from ∷ froms) [] all = absurd all
  exact_subtypes (from ∷ froms) (to ∷ tos) all = (all.0, exact_subtypes froms tos all.1)

  -- ---- the choice

  module _ (members : List ClassMembers) (call : Call) (wanted : List JType) (exactly : call.arguments ≡ map Of wanted) where
    narrower : (other : Member) (is : IsCandidate headers members call other) → AllSubtypes headers wanted (parameters is.method)
    narrower other is = exact_subtypes wanted (parameters is.method) (subst (λ froms. AllAssignable headers froms (parameters is.method)) exactly is.applicable)

    abbrev Firsts : List JType → Member → Type 0
    Firsts types = IsFirstIn (HasOwnMethod headers members (Counts call.name types) call.class) (method_order headers call.name call.class)

    first_so : (member : Member) (is : IsCandidate headers members call member) → Firsts (parameters is.method) member
    first_so member is = subst (λ n. IsFirstIn (HasOwnMethod headers members (Counts n (parameters is.method)) call.class) (method_order headers n call.class) member) is.named is.held

    pub exactly_chosen : (member : Member) (is : IsCandidate headers members call member) → parameters is.method ≡ wanted → IsChosen headers members call member
    exactly_chosen member is types = record { most = record { candidate = is; specific = specific }; only = only }
      where
        at_wanted : (one : MethodHead) → IsMethodAt members member one → parameters one ≡ wanted
        at_wanted one at = ap parameters (one_method headers members member one is.method at is.is_method) ∙ types

        specific : (other : Member) → IsCandidate headers members call other → IsMoreSpecific headers members member other
        specific other candidate = record {
          subtypes = λ one second at_one at_second.
              subst (λ froms. AllSubtypes headers froms (parameters second)) (sym (at_wanted one at_one))
              (subst (λ (m : MethodHead). AllSubtypes headers wanted (parameters m)) (one_method headers members other candidate.method second candidate.is_method at_second) (narrower other candidate));
        }

        only : (other : Member) → IsMostSpecific headers members call other → other ≡ member
        only other most =
            let back : AllSubtypes headers (parameters most.candidate.method) wanted =
            subst (AllSubtypes headers (parameters most.candidate.method)) types ((most.specific member is).subtypes most.candidate.method is.method most.candidate.is_method is.is_method) in
            let same : parameters most.candidate.method ≡ wanted = all_both_ways (parameters most.candidate.method) wanted back (narrower other most.candidate) in
            one_found headers members (Counts call.name wanted) call.class lawful.distinct (λ class methods a b. counts_one call.name wanted (IsSeen headers call.class class) methods a b)
            (method_order headers call.name call.class) other member
            (subst (λ w. Firsts w other) same (first_so other most.candidate)) (subst (λ w. Firsts w member) types (first_so member is))
