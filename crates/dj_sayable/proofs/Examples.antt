-- Names that can and can't be said at worked examples: a wrong definition is refused here.
use Rattle.std.proofs.Common.{◌≡◌, ℕ, zero, suc, List, [], ◌∷◌, ◌++◌, length, get_or, Option, Some, None, inl, refl, ap, arith}
use Rattle.std.proofs.lemmas.List.{length-append}
use Rattle.std.specs.Prelude.{codes}
use Rattle.dj_names.specs.declared.header.Header.{Header}
use Rattle.dj_names.specs.declared.members.ClassMembers.{ClassMembers}
use Rattle.dj_names.specs.declared.members.Field.{Field}
use Rattle.dj_names.specs.declared.types.JType.TheVariants as kind
use Rattle.dj_names.specs.Headers.{Name}
use Rattle.dj_names.specs.Assignable.{object_name}
use Rattle.dj_sayable.specs.Saying.{HasPackage, HasFieldInScope, HasClassInFront, IsUnobscured, IsTakenForPackage, CanBeSaid, first_segment}

-- a public class
abbrev header : Name → Option Name → Header
header name superclass = record { name = name; superclass = superclass; interfaces = []; flags = 0x0021 }

-- a class with fields of these names alone
abbrev with_fields : List Field → ClassMembers
with_fields fields = record { fields = fields; methods = []; named = [] }

-- a field of type int
abbrev int_field : Name → Field
int_field name = record { flags = 0; name = name; descriptor = kind.Int; constant = None }

-- `class a.B extends a.A`, where `a.A` has a field `java`; `class a.c`; and `class D` without a package
abbrev some_headers : List Header
some_headers =
    header object_name None
    ∷ header (codes "a/A") (Some object_name)
    ∷ header (codes "a/B") (Some (codes "a/A"))
    ∷ header (codes "a/c") (Some object_name)
    ∷ header (codes "D") (Some object_name)
    ∷ []

-- their members
abbrev some_members : List ClassMembers
some_members = with_fields [] ∷ with_fields (int_field (codes "java") ∷ []) ∷ with_fields [] ∷ with_fields [] ∷ with_fields [] ∷ []

a_first_segment : first_segment (codes "java/lang/String") ≡ codes "java"
a_first_segment = refl

one_segment : first_segment (codes "D") ≡ codes "D"
one_segment = refl

-- a field above the class has the name of the package's first segment
field_in_scope : HasFieldInScope some_headers some_members (codes "a/B") (codes "java")
field_in_scope = record {
  owner = codes "a/A";
  above = record { path = codes "a/A" ∷ []; is_path = (inl (2, header (codes "a/B") (Some (codes "a/A")), omega arith, refl, (refl, refl)), refl) };
  declares = record { at = 1; declared = with_fields (int_field (codes "java") ∷ []); there = record { named = refl; there = refl }; named = (0, omega arith, refl) };
}

-- so the class can't say java/lang/String
obscured_by_a_field : ¬ CanBeSaid some_headers some_members (codes "a/B") (codes "java/lang/String")
obscured_by_a_field said = said.unobscured.no_field field_in_scope

-- a class of the package has the name of a package's first segment
taken_for_a_class : ¬ IsTakenForPackage some_headers (codes "a/A") (codes "c/E")
taken_for_a_class taken = taken.none_beside (3, omega arith, refl)

-- ---- the classes `a.b`, `C` in a package of that name too, and `q.D`

abbrev same_names : List Header
same_names =
    header object_name None
    ∷ header (codes "a/b") (Some object_name)
    ∷ header (codes "a/b/C") (Some object_name)
    ∷ header (codes "q/D") (Some object_name)
    ∷ []

a_class_in_front : HasClassInFront same_names (codes "a/b/C")
a_class_in_front = record { front = codes "a/b"; rest = codes "C"; parts = refl; packaged = (1, omega arith, refl); there = (1, omega arith, refl) }

-- `a.b.C` would be a member of `a.b`: no class can say it
hidden_by_a_class : (members : List ClassMembers) (class : Name) → ¬ CanBeSaid same_names members class (codes "a/b/C")
hidden_by_a_class members class said = said.unobscured.no_class a_class_in_front

-- nor can it stand in a package `a.b`
no_such_package : (members : List ClassMembers) → ¬ IsUnobscured same_names members (codes "a/b/C") (codes "a/b/C")
no_such_package members free = free.no_class a_class_in_front

-- a class `a` without a package is no such front of `a.b`: the rule on first segments tells whether it hides it
one_segment_in_front : ¬ HasClassInFront (header (codes "a") (Some object_name) ∷ same_names) (codes "a/b")
one_segment_in_front has = none has.front has.rest has.parts has.packaged
  where
    none : (front rest : List ℕ) → codes "a/b" ≡ front ++ 47 ∷ rest → HasPackage front → ⊥
    none [] rest parts packaged = (let within = packaged.1 in omega arith)
    none (x ∷ []) rest parts (zero, within, slash) = (let first = ap (λ (units : List ℕ). get_or units 0 0) parts in omega (arith, first, slash))
    none (x ∷ []) rest parts (suc k, within, slash) = omega (arith, within)
    none (x ∷ y ∷ []) rest parts packaged = (let third = ap (λ (units : List ℕ). get_or units 2 0) parts in omega (arith, third))
    none (x ∷ y ∷ z ∷ front) rest parts packaged = (let whole = ap length parts in let more = length-append front (47 ∷ rest) in omega (arith, whole, more))
