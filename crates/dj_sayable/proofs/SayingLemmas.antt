-- What can be said, by what is looked up.
use Rattle.std.proofs.Common.{◌≡◌, ◌↔◌, zero, suc, ◌++◌, Bool, true, false, not, IsTrue, List, [], ◌∷◌, Any, Contains, refl, sym, subst, inl, inr, arith}
use Rattle.std.specs.Prelude.{codes}
use Rattle.dj_names.specs.declared.header.Header.{Header}
use Rattle.dj_names.specs.declared.members.ClassMembers.{ClassMembers}
use Rattle.dj_names.specs.Headers.{Name, names, Implements}
use Rattle.dj_names.specs.Sayable.{IsSayable}
use Rattle.dj_kinds.specs.Access.{package_of}
use Rattle.dj_sayable.specs.declared.scope.Scope.{Scope}
use Rattle.dj_sayable.specs.Above.{IsAtOrAbove}
use Rattle.dj_sayable.specs.Saying.{HasPackage, DeclaresField, HasFieldInScope, HasClassInFront, IsUnobscured, IsTakenForPackage, CanBeSaid, first_segment}
use Rattle.dj_sayable.specs.Scopes.{IsScope}
use Rattle.dj_sayable.specs.Gathering.{Gains}

-- ---- tests

pub untrue : (b : Bool) (P : Type 0) → IsTrue b ↔ P → IsTrue (not b) ↔ ¬ P
untrue true P is = (λ yes. absurd cc, λ none. absurd (none (is.0 refl)))
untrue false P is = (λ yes. λ holds. (let also = is.1 holds in cc), λ none. refl)

not_true : (b : Bool) → IsTrue (not b) ↔ ¬ IsTrue b
not_true b = untrue b (IsTrue b) (λ yes. yes, λ yes. yes)

-- the fields that the classes above a class declare are those in scope
pub scope_fields : (headers : List Header) (members : List ClassMembers) (class : Name) (above fields : List Name)
    → ((name : Name) → Contains above name ↔ IsAtOrAbove headers (Contains (class ∷ [])) name) → Gains [] fields (λ field. Any (DeclaresField headers members field) above)
    → (field : Name) → Contains fields field ↔ HasFieldInScope headers members class field
scope_fields headers members class above fields are gains field = (
  λ has. elim ((gains.each field).0 has) [
    | inl none ↦ absurd (let w = none.1 in omega arith)
    | inr some ↦
        let owner = some.1 in
        let at : IsAtOrAbove headers (Contains (class ∷ [])) owner = (are owner).0 (some.0, some.2, some.3) in
        record { owner = owner; above = subst (λ (n : Name). Implements headers n owner) (sym (only at.lower at.is_one)) at.above; declares = some.4 }
  ],
  λ in_scope.
      let has : Contains above in_scope.owner = (are in_scope.owner).1 record { lower = class; is_one = (0, omega arith, refl); above = in_scope.above } in
      (gains.each field).1 (inr (has.0, in_scope.owner, has.1, has.2, in_scope.declares)),
)
  where
    only : (x : Name) → Contains (class ∷ []) x → class ≡ x
    only x (zero, within, is) = is
    only x (suc k, within, is) = absurd (omega arith)

module _ (headers : List Header) (members : List ClassMembers) (class name : Name) (scope : Scope) (is_scope : IsScope headers members class scope) where
  pub no_field_by : (among : Bool) (first : Name) → first ≡ first_segment name → IsTrue among ↔ Contains scope.fields first → IsTrue (not among) ↔ ¬ HasFieldInScope headers members class (first_segment name)
  no_field_by among first is found = (
    λ yes in_scope. (not_true among).0 yes (found.1 (subst (Contains scope.fields) (sym is) ((is_scope.fields (first_segment name)).1 in_scope))),
    λ free. (not_true among).1 (λ has. free ((is_scope.fields (first_segment name)).0 (subst (Contains scope.fields) is (found.0 has)))),
  )

  pub unobscured_by : (hidden : Bool) → IsSayable name → ¬ HasFieldInScope headers members class (first_segment name) → IsTrue hidden ↔ HasClassInFront headers name → IsTrue (not hidden) ↔ IsUnobscured headers members class name
  unobscured_by hidden sayable free is = (
    λ yes. record { sayable = sayable; no_field = free; no_class = λ has. (not_true hidden).0 yes (is.1 has) },
    λ all. (not_true hidden).1 (λ has. all.no_class (is.0 has)),
  )

  pub said_packaged : (r : Bool) → IsUnobscured headers members class name → HasPackage name → IsTrue r ↔ IsTakenForPackage headers class name → IsTrue r ↔ CanBeSaid headers members class name
  said_packaged r free packaged taken = (
    λ yes. record { unobscured = free; packaged = λ _. taken.0 yes; unpackaged = λ none. absurd (none packaged) },
    λ said. taken.1 (said.packaged packaged),
  )

  pub said_unpackaged : (r : Bool) → IsUnobscured headers members class name → ¬ HasPackage name → IsTrue r ↔ ¬ HasPackage class → IsTrue r ↔ CanBeSaid headers members class name
  said_unpackaged r free none own = (
    λ yes. record { unobscured = free; packaged = λ packaged. absurd (none packaged); unpackaged = λ _. own.0 yes },
    λ said. own.1 (said.unpackaged none),
  )

-- the two classes that a first segment could be taken for have no header
pub taken_by : (headers : List Header) (class name beside core : Name) (r : Bool) → beside ≡ package_of class ++ first_segment name → core ≡ codes "java/lang/" ++ first_segment name
    → IsTrue r ↔ (¬ Contains (names headers) beside × ¬ Contains (names headers) core) → IsTrue r ↔ IsTakenForPackage headers class name
taken_by headers class name beside core r is_beside is_core is = (
  λ yes. record { none_beside = λ has. (is.0 yes).0 (subst (Contains (names headers)) (sym is_beside) has); none_of_core = λ has. (is.0 yes).1 (subst (Contains (names headers)) (sym is_core) has) },
  λ taken. is.1 (λ has. taken.none_beside (subst (Contains (names headers)) is_beside has), λ has. taken.none_of_core (subst (Contains (names headers)) is_core has)),
)
