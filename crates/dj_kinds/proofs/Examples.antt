-- Orders of search and packages at worked examples, by computation: a wrong definition is refused here.
use Rattle.std.proofs.Common.{◌≡◌, ℕ, false, List, [], ◌∷◌, Option, Some, None, bytes_eq, inl, inr, refl, sym, ap₂, ◌∙◌, arith}
use Rattle.std.specs.Prelude.{codes}
use Rattle.std.proofs.lemmas.Bool.{both_ways, false≢true}
use Rattle.std.proofs.lemmas.Slice.Eq.{bytes_eq-Decides}
use Rattle.dj_names.specs.declared.header.Header.{Header}
use Rattle.dj_names.specs.declared.members.MethodHead.{MethodHead}
use Rattle.dj_names.specs.Headers.{Name}
use Rattle.dj_names.specs.Types.{Int, Method, view_descriptor}
use Rattle.dj_names.specs.Assignable.{object_name}
use Rattle.dj_kinds.specs.Search.{classes_then_interfaces, method_order, field_order}
use Rattle.dj_kinds.specs.Own.{is_false_constructor, IsSeen}
use Rattle.dj_kinds.specs.Access.{package_of}
use Rattle.dj_kinds.specs.Inherited.{IsInherited}

-- a public class, or with 0x0601 an interface
abbrev header : Name → Option Name → List Name → ℕ → Header
header name superclass interfaces flags = record { name = name; superclass = superclass; interfaces = interfaces; flags = flags }

-- `class B extends A implements J`, `class A implements I`, `interface J extends I`
abbrev family : List Header
family =
    header object_name None [] 0x0021
    ∷ header (codes "B") (Some (codes "A")) (codes "J" ∷ []) 0x0021
    ∷ header (codes "A") (Some object_name) (codes "I" ∷ []) 0x0021
    ∷ header (codes "J") (Some object_name) (codes "I" ∷ []) 0x0601
    ∷ header (codes "I") (Some object_name) [] 0x0601
    ∷ []

-- the classes come before all interfaces
a_method : method_order family (codes "m") (codes "B") ≡ codes "B" ∷ codes "A" ∷ object_name ∷ codes "J" ∷ codes "I" ∷ codes "I" ∷ []
a_method = refl

-- a constructor is the class's own
a_constructor : method_order family (codes "<init>") (codes "B") ≡ codes "B" ∷ []
a_constructor = refl

-- each class comes with its interfaces, before its superclass
a_field : field_order family (codes "B") ≡ codes "B" ∷ codes "J" ∷ codes "I" ∷ codes "A" ∷ codes "I" ∷ object_name ∷ []
a_field = refl

-- a search that starts at an interface goes to its superclass Object first
an_interface : classes_then_interfaces family (codes "J") ≡ codes "J" ∷ object_name ∷ codes "I" ∷ []
an_interface = refl

-- a class that isn't there is searched alone, and has nothing
a_missing_class : classes_then_interfaces family (codes "K") ≡ codes "K" ∷ []
a_missing_class = refl

-- a circle is cut
a_circle : classes_then_interfaces (header (codes "A") (Some (codes "A")) [] 0x0021 ∷ []) (codes "A") ≡ codes "A" ∷ codes "A" ∷ []
a_circle = refl

a_package : package_of (codes "java/lang/String") ≡ codes "java/lang/"
a_package = refl

the_unnamed_package : package_of (codes "Main") ≡ []
the_unnamed_package = refl

-- ---- inheritance

-- `class q.D extends t.C`, `class t.C extends q.P`, `class q.S extends q.P`
abbrev packages : List Header
packages =
    header (codes "q/P") (Some object_name) [] 0x0021
    ∷ header (codes "q/S") (Some (codes "q/P")) [] 0x0021
    ∷ header (codes "t/C") (Some (codes "q/P")) [] 0x0021
    ∷ header (codes "q/D") (Some (codes "t/C")) [] 0x0021
    ∷ []

-- what has package access stays in the package
in_its_package : IsInherited packages (codes "q/S") (codes "q/P") 0x0000
in_its_package = inr (inr (inr (λ bit. bit refl, record { path = codes "q/P" ∷ []; is_path = (((1, header (codes "q/S") (Some (codes "q/P")) [] 0x0021, omega arith, refl, (refl, refl)), refl), refl) })))

-- what is protected goes on
into_another_package : IsInherited packages (codes "t/C") (codes "q/P") 0x0004
into_another_package = inr (inr (inl (λ none. absurd cc, record { path = codes "q/P" ∷ []; is_path = ((2, header (codes "t/C") (Some (codes "q/P")) [] 0x0021, omega arith, refl, (refl, refl)), refl) })))

-- what is private is its class's alone
private_alone : ¬ IsInherited packages (codes "q/S") (codes "q/P") 0x0002
private_alone (inl same) = both_ways (bytes_eq (codes "q/S") (codes "q/P")) refl ((bytes_eq-Decides (codes "q/S") (codes "q/P")).1 same)
private_alone (inr (inl public)) = public refl
private_alone (inr (inr (inl protected))) = protected.0 refl
private_alone (inr (inr (inr kept))) = kept.0 (λ none. absurd cc)

-- ---- constructors

-- a method of a constructor's name that has a result is no constructor, and no search sees it
with_a_result : (start class : Name) (method : MethodHead) → method.name ≡ codes "<init>" → view_descriptor method.descriptor ≡ Method [] (Some Int) → ¬ IsSeen family start class method
with_a_result start class method named is seen = false≢true (sym seen.2 ∙ ap₂ is_false_constructor named is)

without_one : is_false_constructor (codes "<init>") (Method (Int ∷ []) None) ≡ false
without_one = refl

another_name : is_false_constructor (codes "init") (Method [] (Some Int)) ≡ false
another_name = refl
