-- What a class of one more header would make wrong.
use Rattle.std.proofs.Common.{◌≡◌, ◌⊎◌, ◌↔◌, ℕ, zero, suc, ◌+◌, ◌<◌, ◌≤◌, List, [], ◌∷◌, ◌++◌, length, get_or, slice_get, Any, Contains, Bool, IsTrue, Option, Some, None, IsSomeAnd, sym, ap, subst, refl, inl, inr, ◌∙◌, arith}
use Rattle.std.specs.Prelude.{IsBitSet}
use Rattle.std.proofs.lemmas.List.{map-append, length-map, get_or-map, get_or_default, length_push}
use Rattle.std.proofs.lemmas.Option.{same_Some, slice_get-get_or, slice_get_within}
use Rattle.std.proofs.lemmas.List.Elements.{Contains-append_cases, Contains-append_left, Contains-append_right}
use Rattle.std.proofs.lemmas.List.Quantifiers.{Any-push}
use Rattle.dj_names.specs.declared.header.Header.{Header}
use Rattle.dj_names.specs.declared.members.ClassMembers.{ClassMembers}
use Rattle.dj_names.specs.Headers.{Name, names, HasDistinctNames, IsInterface, HasSuperclass, HasInterface, Implements}
use Rattle.dj_headers.specs.Table.{IsParent, IsAbove}
use Rattle.dj_headers.proofs.HeaderLemmas.{named_at, HasDistinctNames-push}
use Rattle.dj_headers.proofs.PathLemmas.{Any-before, Any-push_cases, join_paths, Implements-own, Implements-before, Implements-cases, HasParent-last, HasParent-cases}
use Rattle.dj_world.specs.declared.fault.ClashKind.{ClashKind}
use Rattle.dj_world.specs.declared.fault.ClashKind.TheVariants as clash
use Rattle.dj_world.specs.CoreKinds.{BreaksCore}
use Rattle.dj_world.specs.Clashes.{HasCircle, IsFinal, IsClass, HasFinalSuper, HasMismatch, HasWrongKind, IsLawful, Clashes, number_of, IsLeastClash, MayBeAdded}
use Rattle.dj_world.specs.Wanting.{IsWantedOtherwise}
use Rattle.dj_world.specs.Worlds.{IsWorld}

some_and : {A : Type 0} (P : A → Type 0) (found : Option A) (x : A) → found ≡ Some x → P x → IsSomeAnd found P
some_and P found x is holds = subst (λ o. IsSomeAnd o P) (sym is) holds

and_some : {A : Type 0} (P : A → Type 0) (found : Option A) → IsSomeAnd found P → (x : A) × (found ≡ Some x) × P x
and_some P None none = absurd none
and_some P (Some x) holds = (x, refl, holds)

-- ---- circles

joined : (headers : List Header) (x y z : Name) → Implements headers x y → Implements headers y z → Implements headers x z
joined headers x y z low high = join_paths headers x y z low.path low.is_path high

module _ (headers : List Header) (header : Header) where
  pub circle_closed : IsAbove headers (IsParent header.superclass header.interfaces) header.name → HasCircle (headers ++ header ∷ [])
  circle_closed above = record {
    lower = header.name;
    upper = above.parent;
    is_parent = HasParent-last headers header above.parent above.is_parent;
    back = Implements-before headers header above.parent header.name above.reached;
  }

  pub circle_found : ¬ HasCircle headers → HasCircle (headers ++ header ∷ []) → IsAbove headers (IsParent header.superclass header.interfaces) header.name
  circle_found none circle = elim (HasParent-cases headers header circle.lower circle.upper circle.is_parent) [
    | inl before ↦ elim (Implements-cases headers header circle.upper circle.lower circle.back) [
      | inl back ↦ absurd (none (record { lower = circle.lower; upper = circle.upper; is_parent = before; back = back }))
      | inr through ↦
          let up = through.1 in
          record {
            parent = up.parent;
            is_parent = up.is_parent;
            reached = joined headers up.parent circle.lower header.name up.reached (record { path = circle.upper ∷ through.0.path; is_path = (before, through.0.is_path) });
          }
    ]
    | inr last ↦ elim (Implements-cases headers header circle.upper circle.lower circle.back) [
      | inl back ↦ record { parent = circle.upper; is_parent = last.1; reached = subst (λ (n : Name). Implements headers circle.upper n) (sym last.0) back }
      | inr through ↦ record { parent = circle.upper; is_parent = last.1; reached = through.0 }
    ]
  ]

-- what is reached from a superclass or an interface
module _ (headers : List Header) (interfaces : List Name) (name : Name) where
  pub above_superclass : (superclass : Option Name) → IsSomeAnd superclass (λ upper. Implements headers upper name) → IsAbove headers (IsParent superclass interfaces) name
  above_superclass superclass some =
      let found = and_some (λ (upper : Name). Implements headers upper name) superclass some in
      record { parent = found.0; is_parent = inl found.1; reached = found.2 }

  pub above_interface : (superclass : Option Name) → Any (λ upper. Implements headers upper name) interfaces → IsAbove headers (IsParent superclass interfaces) name
  above_interface superclass (k, upper, within, is, reached) = record { parent = upper; is_parent = inr (k, within, is); reached = reached }

  pub above_cases : (superclass : Option Name) → IsAbove headers (IsParent superclass interfaces) name
      → IsSomeAnd superclass (λ upper. Implements headers upper name) ⊎ Any (λ upper. Implements headers upper name) interfaces
  above_cases superclass above = elim above.is_parent [
    | inl super ↦ inl (some_and (λ (upper : Name). Implements headers upper name) superclass above.parent super above.reached)
    | inr listed ↦ inr (listed.0, above.parent, listed.1, listed.2, above.reached)
  ]

-- ---- names

only_name : (x y : Name) → Contains (x ∷ []) y → x ≡ y
only_name x y (zero, within, is) = is
only_name x y (suc k, within, is) = absurd (omega arith)

module _ (headers : List Header) (header : Header) where
  names_after : names (headers ++ header ∷ []) ≡ names headers ++ header.name ∷ []
  names_after = map-append (λ (h : Header). h.name) headers (header ∷ [])

  listed_before : (class : Name) → Contains (names headers) class → Contains (names (headers ++ header ∷ [])) class
  listed_before class there = subst (λ (ns : List Name). Contains ns class) (sym names_after) (Contains-append_left (names headers) (header.name ∷ []) class there)

  listed_last : Contains (names (headers ++ header ∷ [])) header.name
  listed_last = subst (λ (ns : List Name). Contains ns header.name) (sym names_after) (Contains-append_right (names headers) (header.name ∷ []) header.name (0, omega arith, refl))

  listed_cases : (class : Name) → Contains (names (headers ++ header ∷ [])) class → Contains (names headers) class ⊎ (header.name ≡ class)
  listed_cases class there =
      elim (Contains-append_cases (names headers) (header.name ∷ []) class (subst (λ (ns : List Name). Contains ns class) names_after there)) [
        | inl before ↦ inl before
        | inr last ↦ inr (only_name header.name class last)
      ]

interface_listed : (headers : List Header) (class : Name) → IsInterface headers class → Contains (names headers) class
interface_listed headers class (k, header, within, is, both) =
    (k, omega (arith, length-map headers (λ (h : Header). h.name)), get_or-map (λ (h : Header). h.name) headers k header class within ∙ ap (λ (h : Header). h.name) is ∙ both.0)

-- ---- final superclasses

module _ (headers : List Header) (header : Header) where
  own_parent : (upper : Name) → IsParent header.superclass header.interfaces upper → header.name ≡ upper → HasCircle (headers ++ header ∷ [])
  own_parent upper parent own = circle_closed headers header (record {
    parent = upper;
    is_parent = parent;
    reached = subst (λ (n : Name). Implements headers upper n) (sym own) (Implements-own headers upper);
  })

  super_last : (upper : Name) → header.superclass ≡ Some upper → HasSuperclass (headers ++ header ∷ []) header.name upper
  super_last upper super = Any-push (λ (h : Header). (h.name ≡ header.name) × (h.superclass ≡ Some upper)) headers header (refl, super)

  super_before : Any (λ other. other.superclass ≡ Some header.name) headers → (lower : Name) × HasSuperclass (headers ++ header ∷ []) lower header.name
  super_before (k, lower, within, is, super) =
      (lower.name, Any-before (λ (h : Header). (h.name ≡ lower.name) × (h.superclass ≡ Some header.name)) headers header (k, lower, within, is, (refl, super)))

  listed_in_last : (upper : Name) → Contains header.interfaces upper → HasInterface (headers ++ header ∷ []) header.name upper
  listed_in_last upper there = Any-push (λ (h : Header). (h.name ≡ header.name) × Contains h.interfaces upper) headers header (refl, there)

  listed_in_before : Any (λ other. Contains other.interfaces header.name) headers → (lower : Name) × HasInterface (headers ++ header ∷ []) lower header.name
  listed_in_before (k, lower, within, is, there) =
      (lower.name, Any-before (λ (h : Header). (h.name ≡ lower.name) × Contains h.interfaces header.name) headers header (k, lower, within, is, (refl, there)))

  super_cases : (lower upper : Name) → HasSuperclass (headers ++ header ∷ []) lower upper → HasSuperclass headers lower upper ⊎ ((header.name ≡ lower) × (header.superclass ≡ Some upper))
  super_cases lower upper = Any-push_cases (λ (h : Header). (h.name ≡ lower) × (h.superclass ≡ Some upper)) headers header

  listed_in_cases : (lower upper : Name) → HasInterface (headers ++ header ∷ []) lower upper → HasInterface headers lower upper ⊎ ((header.name ≡ lower) × Contains header.interfaces upper)
  listed_in_cases lower upper = Any-push_cases (λ (h : Header). (h.name ≡ lower) × Contains h.interfaces upper) headers header

  final_cases : (upper : Name) → IsFinal (headers ++ header ∷ []) upper → IsFinal headers upper ⊎ ((header.name ≡ upper) × IsBitSet header.flags 4)
  final_cases upper = Any-push_cases (λ (h : Header). (h.name ≡ upper) × IsBitSet h.flags 4) headers header

  interface_cases : (upper : Name) → IsInterface (headers ++ header ∷ []) upper → IsInterface headers upper ⊎ ((header.name ≡ upper) × IsBitSet header.flags 9)
  interface_cases upper = Any-push_cases (λ (h : Header). (h.name ≡ upper) × IsBitSet h.flags 9) headers header

  has_super : (lower upper : Name) → header.name ≡ upper → HasSuperclass headers lower upper → Any (λ other. other.superclass ≡ Some header.name) headers
  has_super lower upper same (k, h, within, is, both) = (k, h, within, is, both.1 ∙ ap Some (sym same))

  has_listed : (lower upper : Name) → header.name ≡ upper → HasInterface headers lower upper → Any (λ other. Contains other.interfaces header.name) headers
  has_listed lower upper same (k, h, within, is, both) = (k, h, within, is, subst (λ (n : Name). Contains h.interfaces n) (sym same) both.1)

  pub final_by_super : IsSomeAnd header.superclass (IsFinal headers) → HasFinalSuper (headers ++ header ∷ [])
  final_by_super some =
      let found = and_some (IsFinal headers) header.superclass some in
      record {
        lower = header.name;
        upper = found.0;
        is_superclass = super_last found.0 found.1;
        is_final = Any-before (λ (h : Header). (h.name ≡ found.0) × IsBitSet h.flags 4) headers header found.2;
      }

  pub final_by_lower : IsBitSet header.flags 4 → Any (λ other. other.superclass ≡ Some header.name) headers → HasFinalSuper (headers ++ header ∷ [])
  final_by_lower final some =
      let found = super_before some in
      record {
        lower = found.0;
        upper = header.name;
        is_superclass = found.1;
        is_final = Any-push (λ (h : Header). (h.name ≡ header.name) × IsBitSet h.flags 4) headers header (refl, final);
      }

  pub final_found : IsLawful headers → ¬ HasCircle (headers ++ header ∷ []) → HasFinalSuper (headers ++ header ∷ [])
      → IsSomeAnd header.superclass (IsFinal headers) ⊎ (IsBitSet header.flags 4 × Any (λ other. other.superclass ≡ Some header.name) headers)
  final_found lawful no_circle wrong = elim (super_cases wrong.lower wrong.upper wrong.is_superclass) [
    | inl before ↦ elim (final_cases wrong.upper wrong.is_final) [
      | inl final ↦ absurd (lawful.no_final_super (record { lower = wrong.lower; upper = wrong.upper; is_superclass = before; is_final = final }))
      | inr own ↦ inr (own.1, has_super wrong.lower wrong.upper own.0 before)
    ]
    | inr last ↦ elim (final_cases wrong.upper wrong.is_final) [
      | inl final ↦ inl (some_and (IsFinal headers) header.superclass wrong.upper last.1 final)
      | inr own ↦ absurd (no_circle (own_parent wrong.upper (inl last.1) own.0))
    ]
  ]

  -- ---- kinds

  class_after : ¬ Contains (names headers) header.name → (class : Name) → IsClass headers class → IsClass (headers ++ header ∷ []) class
  class_after fresh class is = (
    listed_before headers header class is.0,
    λ interface. elim (interface_cases class interface) [
      | inl before ↦ is.1 before
      | inr own ↦ fresh (subst (λ (n : Name). Contains (names headers) n) (sym own.0) is.0)
    ],
  )

  own_class : ¬ Contains (names headers) header.name → ¬ IsBitSet header.flags 9 → IsClass (headers ++ header ∷ []) header.name
  own_class fresh plain = (
    listed_last headers header,
    λ interface. elim (interface_cases header.name interface) [ inl before ↦ fresh (interface_listed headers header.name before) | inr own ↦ plain own.1 ],
  )

  class_cases : (class : Name) → IsClass (headers ++ header ∷ []) class → IsClass headers class ⊎ ((header.name ≡ class) × ¬ IsBitSet header.flags 9)
  class_cases class is = elim (listed_cases headers header class is.0) [
    | inl before ↦ inl (before, λ interface. is.1 (Any-before (λ (h : Header). (h.name ≡ class) × IsBitSet h.flags 9) headers header interface))
    | inr own ↦ inr (own, λ bit. is.1 (Any-push (λ (h : Header). (h.name ≡ class) × IsBitSet h.flags 9) headers header (own, bit)))
  ]

  pub kind_by_super : IsSomeAnd header.superclass (IsInterface headers) → HasMismatch (headers ++ header ∷ [])
  kind_by_super some =
      let found = and_some (IsInterface headers) header.superclass some in
      inl (record {
        lower = header.name;
        upper = found.0;
        is_superclass = super_last found.0 found.1;
        is_interface = Any-before (λ (h : Header). (h.name ≡ found.0) × IsBitSet h.flags 9) headers header found.2;
      })

  pub kind_by_interface : ¬ Contains (names headers) header.name → Any (IsClass headers) header.interfaces → HasMismatch (headers ++ header ∷ [])
  kind_by_interface fresh (k, upper, within, is, class) =
      inr (record { lower = header.name; upper = upper; is_listed = listed_in_last upper (k, within, is); is_class = class_after fresh upper class })

  pub kind_by_lower : ¬ Contains (names headers) header.name → IsWantedOtherwise headers header → HasMismatch (headers ++ header ∷ [])
  kind_by_lower fresh (inl wanted) =
      let found = super_before wanted.1 in
      inl (record {
        lower = found.0;
        upper = header.name;
        is_superclass = found.1;
        is_interface = Any-push (λ (h : Header). (h.name ≡ header.name) × IsBitSet h.flags 9) headers header (refl, wanted.0);
      })
  kind_by_lower fresh (inr wanted) =
      let found = listed_in_before wanted.1 in
      inr (record { lower = found.0; upper = header.name; is_listed = found.1; is_class = own_class fresh wanted.0 })

  pub kind_found : IsLawful headers → ¬ HasCircle (headers ++ header ∷ []) → HasMismatch (headers ++ header ∷ [])
      → IsSomeAnd header.superclass (IsInterface headers) ⊎ (Any (IsClass headers) header.interfaces ⊎ IsWantedOtherwise headers header)
  kind_found lawful no_circle (inl wrong) = elim (super_cases wrong.lower wrong.upper wrong.is_superclass) [
    | inl before ↦ elim (interface_cases wrong.upper wrong.is_interface) [
      | inl interface ↦ absurd (lawful.no_wrong_kind (inl (inl (record { lower = wrong.lower; upper = wrong.upper; is_superclass = before; is_interface = interface }))))
      | inr own ↦ inr (inr (inl (own.1, has_super wrong.lower wrong.upper own.0 before)))
    ]
    | inr last ↦ elim (interface_cases wrong.upper wrong.is_interface) [
      | inl interface ↦ inl (some_and (IsInterface headers) header.superclass wrong.upper last.1 interface)
      | inr own ↦ absurd (no_circle (own_parent wrong.upper (inl last.1) own.0))
    ]
  ]
  kind_found lawful no_circle (inr wrong) = elim (listed_in_cases wrong.lower wrong.upper wrong.is_listed) [
    | inl before ↦ elim (class_cases wrong.upper wrong.is_class) [
      | inl class ↦ absurd (lawful.no_wrong_kind (inl (inr (record { lower = wrong.lower; upper = wrong.upper; is_listed = before; is_class = class }))))
      | inr own ↦ inr (inr (inr (own.1, has_listed wrong.lower wrong.upper own.0 before)))
    ]
    | inr last ↦ elim (class_cases wrong.upper wrong.is_class) [
      | inl class ↦ inr (inl (last.1.0, wrong.upper, last.1.1, last.1.2, class))
      | inr own ↦ absurd (no_circle (own_parent wrong.upper (inr last.1) own.0))
    ]
  ]

  -- ---- core classes

  pub core_broken : BreaksCore header → HasWrongKind (headers ++ header ∷ [])
  core_broken breaks = inr (Any-push BreaksCore headers header breaks)

  pub wrong_kind_cases : IsLawful headers → HasWrongKind (headers ++ header ∷ []) → HasMismatch (headers ++ header ∷ []) ⊎ BreaksCore header
  wrong_kind_cases lawful (inl mismatch) = inl mismatch
  wrong_kind_cases lawful (inr breaks) = elim (Any-push_cases BreaksCore headers header breaks) [ inl before ↦ absurd (lawful.no_wrong_kind (inr before)) | inr own ↦ inr own ]

-- ---- the least clash

at_least_one : (other : ClashKind) → 1 ≤ number_of other
at_least_one clash.Twice = omega arith
at_least_one clash.Cycle = omega arith
at_least_one clash.SuperIsFinal = omega arith
at_least_one clash.SuperKind = omega arith

module _ (headers : List Header) (header : Header) where
  pub least_twice : Contains (names headers) header.name → IsLeastClash headers header clash.Twice
  least_twice there = record { applies = there; least = λ other applies. at_least_one other }

  module _ (fresh : ¬ Contains (names headers) header.name) where
    from_cycle : (other : ClashKind) → Clashes headers header other → 2 ≤ number_of other
    from_cycle clash.Twice there = absurd (fresh there)
    from_cycle clash.Cycle wrong = omega arith
    from_cycle clash.SuperIsFinal wrong = omega arith
    from_cycle clash.SuperKind wrong = omega arith

    pub least_cycle : HasCircle (headers ++ header ∷ []) → IsLeastClash headers header clash.Cycle
    least_cycle wrong = record { applies = wrong; least = from_cycle }

    module _ (no_circle : ¬ HasCircle (headers ++ header ∷ [])) where
      from_final : (other : ClashKind) → Clashes headers header other → 3 ≤ number_of other
      from_final clash.Twice there = absurd (fresh there)
      from_final clash.Cycle wrong = absurd (no_circle wrong)
      from_final clash.SuperIsFinal wrong = omega arith
      from_final clash.SuperKind wrong = omega arith

      pub least_final : HasFinalSuper (headers ++ header ∷ []) → IsLeastClash headers header clash.SuperIsFinal
      least_final wrong = record { applies = wrong; least = from_final }

      module _ (no_final : ¬ HasFinalSuper (headers ++ header ∷ [])) where
        from_kind : (other : ClashKind) → Clashes headers header other → 4 ≤ number_of other
        from_kind clash.Twice there = absurd (fresh there)
        from_kind clash.Cycle wrong = absurd (no_circle wrong)
        from_kind clash.SuperIsFinal wrong = absurd (no_final wrong)
        from_kind clash.SuperKind wrong = omega arith

        pub least_kind : HasWrongKind (headers ++ header ∷ []) → IsLeastClash headers header clash.SuperKind
        least_kind wrong = record { applies = wrong; least = from_kind }

        pub may_be_added : ¬ HasWrongKind (headers ++ header ∷ []) → MayBeAdded headers header
        may_be_added no_kind clash.Twice = fresh
        may_be_added no_kind clash.Cycle = no_circle
        may_be_added no_kind clash.SuperIsFinal = no_final
        may_be_added no_kind clash.SuperKind = no_kind

-- ---- final by its header

-- of headers with distinct names the one at a class's place decides
pub final_here : (headers : List Header) (class : Name) (at : ℕ) (d : Header) → HasDistinctNames headers → slice_get (names headers) at ≡ Some class → at < length headers → IsFinal headers class ↔ IsBitSet (get_or headers at d).flags 4
final_here headers class at d distinct placed within = (
  λ final.
      let named : (get_or headers final.0 d).name ≡ class = ap (λ (h : Header). h.name) (get_or_default headers final.0 d final.1 final.2 ∙ final.3) ∙ final.4.0 in
      let low : ¬ (final.0 < at) = λ lt. distinct final.0 at d lt within (named ∙ sym here) in
      let high : ¬ (at < final.0) = λ lt. distinct at final.0 d lt final.2 (here ∙ sym named) in
      let same : final.0 ≡ at = omega arith in
      let one : final.1 ≡ get_or headers at d = sym (get_or_default headers final.0 d final.1 final.2 ∙ final.3) ∙ ap (λ (k : ℕ). get_or headers k d) same in
      subst (λ (h : Header). IsBitSet h.flags 4) one final.4.1,
  λ bit. (at, get_or headers at d, within, get_or_default headers at (get_or headers at d) d within, (here, bit)),
)
  where
    here : (get_or headers at d).name ≡ class
    here = same_Some (get_or headers at d).name class (sym (named_at headers at (get_or headers at d) (slice_get-get_or headers at d within)) ∙ placed)

pub final_answer : (headers list : List Header) (class : Name) (at : ℕ) (header : Header) (r : Bool) → HasDistinctNames headers → slice_get (names headers) at ≡ Some class → list ≡ headers → header ≡ get_or list at header
    → IsTrue r ↔ IsBitSet header.flags 4 → IsTrue r ↔ IsFinal headers class
final_answer headers list class at header r distinct placed same is exact =
    let within : at < length headers = omega (arith, slice_get_within (names headers) at class placed, length-map headers (λ (h : Header). h.name)) in
    let here = final_here headers class at header distinct placed within in
    let there : IsTrue r ↔ IsBitSet (get_or headers at header).flags 4 = subst (λ (h : Header). IsTrue r ↔ IsBitSet h.flags 4) (is ∙ ap (λ (l : List Header). get_or l at header) same) exact in
    (λ yes. here.1 (there.0 yes), λ final. there.1 (here.0 final))

-- ---- one more header

pub lawful_after : (headers : List Header) (header : Header) → IsLawful headers → MayBeAdded headers header → IsLawful (headers ++ header ∷ [])
lawful_after headers header lawful free = record {
  distinct = HasDistinctNames-push headers header lawful.distinct (free clash.Twice);
  no_circle = free clash.Cycle;
  no_final_super = free clash.SuperIsFinal;
  no_wrong_kind = free clash.SuperKind;
}

pub world_after : (headers headers' : List Header) (members members' : List ClassMembers) (header : Header) (brought : ClassMembers) → IsWorld (record { headers = headers; members = members }) → MayBeAdded headers header
    → headers' ≡ headers ++ header ∷ [] → members' ≡ members ++ brought ∷ [] → IsWorld (record { headers = headers'; members = members' })
world_after headers headers' members members' header brought world free is are = record {
  lawful = subst IsLawful (sym is) (lawful_after headers header world.lawful free);
  paired = ap length are ∙ length_push members brought ∙ ap (λ n. n + 1) world.paired ∙ sym (length_push headers header) ∙ sym (ap length is);
}

pub may_add_in : (headers seen : List Header) (header : Header) → headers ≡ seen → MayBeAdded seen header → MayBeAdded headers header
may_add_in headers seen header same free = subst (λ (hs : List Header). MayBeAdded hs header) (sym same) free
