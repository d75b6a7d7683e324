-- Where the machine's search for a method begins, in headers of which none clashes with another.
use Rattle.std.proofs.Common.{◌≡◌, ◌⊎◌, suc, Bool, true, false, not, ◌&&◌, ◌||◌, List, [], ◌∷◌, Contains, Option, Some, None, inl, inr, refl, sym, ap, subst, ◌∙◌, arith}
use Rattle.std.specs.Prelude.{if◌then◌else◌}
use Rattle.std.specs.List.{list_any}
use Rattle.std.proofs.lemmas.Bool.{cases_Bool}
use Rattle.dj_names.specs.declared.header.Header.{Header}
use Rattle.dj_names.specs.Headers.{Name, names, HasSuperclass, HasInterface, HasParent, IsPath, IsSubclass, Implements}
use Rattle.dj_names.specs.MethodNames.{is_constructor}
use Rattle.dj_names.specs.Types as types
use Rattle.dj_names.specs.Types.{JType, Class, Array}
use Rattle.dj_headers.proofs.PathLemmas.{Implements-own}
use Rattle.dj_values.specs.Fits.{class_of}
use Rattle.dj_values.specs.Deciding.{is_name, is_some_and, is_subclass}
use Rattle.dj_values.proofs.Deciding.{Decides-name, Decides-subclass}
use Rattle.dj_kinds.specs.Search.{header_of, superclass_in, interfaces_in, interfaces_of}
use Rattle.dj_world.specs.Clashes.{IsLawful}
use Rattle.dj_instructions.specs.Instructions.{MethodRef}
use Rattle.dj_bytecode.specs.Objects.{special_owner}
use Rattle.dj_bytecode.specs.Objects as machine
use Rattle.dj_worlds_load.proofs.Loading.{loadable}

one_class : (one other : Name) → Class one ≡ Class other → one ≡ other
one_class one other e = cc

-- ---- parents by headers

-- the superclass that the header of a class names
pub super_is : (headers : List Header) (class upper : Name) → superclass_in (header_of headers class) ≡ Some upper → HasSuperclass headers class upper
super_is [] class upper e = absurd (cc)
super_is (header ∷ headers) class upper e = by (is_name header.name class) refl e (super_is headers class upper)
  where
    by : (test : Bool) → is_name header.name class ≡ test → superclass_in (if test then Some header else header_of headers class) ≡ Some upper
        → (superclass_in (header_of headers class) ≡ Some upper → HasSuperclass headers class upper) → HasSuperclass (header ∷ headers) class upper
    by true same e later = (0, header, omega arith, refl, ((Decides-name header.name class).0 same, e))
    by false differ e later = let (k, one, within, is, holds) = later e in (suc k, one, omega (arith, within), is, holds)

among : (list : List Name) (name : Name) → list_any (λ one. is_name one name) list ≡ true → Contains list name
among [] name e = absurd (cc)
among (first ∷ rest) name e = by (is_name first name) refl e (among rest name)
  where
    by : (test : Bool) → is_name first name ≡ test → (test || list_any (λ one. is_name one name) rest) ≡ true → (list_any (λ one. is_name one name) rest ≡ true → Contains rest name) → Contains (first ∷ rest) name
    by true same e later = (0, omega arith, (Decides-name first name).0 same)
    by false differ e later = let (k, within, is) = later e in (suc k, omega (arith, within), is)

-- an interface that it lists
pub interface_is : (headers : List Header) (class upper : Name) → list_any (λ one. is_name one upper) (interfaces_of headers class) ≡ true → HasInterface headers class upper
interface_is [] class upper e = absurd (cc)
interface_is (header ∷ headers) class upper e = by (is_name header.name class) refl e (interface_is headers class upper)
  where
    by : (test : Bool) → is_name header.name class ≡ test → list_any (λ one. is_name one upper) (interfaces_in (if test then Some header else header_of headers class)) ≡ true
        → (list_any (λ one. is_name one upper) (interfaces_of headers class) ≡ true → HasInterface headers class upper) → HasInterface (header ∷ headers) class upper
    by true same e later = (0, header, omega arith, refl, ((Decides-name header.name class).0 same, among header.interfaces upper e))
    by false differ e later = let (k, one, within, is, holds) = later e in (suc k, one, omega (arith, within), is, holds)

superclass_alike : (headers : List Header) (class : Name) → machine.superclass_in headers class ≡ superclass_in (header_of headers class)
superclass_alike [] class = refl
superclass_alike (header ∷ headers) class = by (is_name header.name class) (superclass_alike headers class)
  where
    by : (test : Bool) → machine.superclass_in headers class ≡ superclass_in (header_of headers class)
        → (if test then header.superclass else machine.superclass_in headers class) ≡ superclass_in (if test then Some header else header_of headers class)
    by true rest = refl
    by false rest = rest

-- ---- the search

-- it begins in the superclass, as the owner is that, or above it
pub record BeginsAbove (headers : List Header) (class : Name) (method : MethodRef) : Type 0 where
  pub superclass : Name
  pub is : superclass_in (header_of headers class) ≡ Some superclass
  pub begins : special_owner headers class method ≡ Class superclass
  pub owner : Name
  pub owned : method.owner ≡ Class owner
  pub below : IsSubclass headers superclass owner

and_parts : (one other : Bool) → one && other ≡ true → (one ≡ true) × (other ≡ true)
and_parts true other e = (refl, e)
and_parts false other e = absurd (cc)

-- the class that a type is and that passes a test
class_that : (test : Name → Bool) (type : JType) → is_some_and (class_of type) test ≡ true → (name : Name) × (type ≡ Class name) × (test name ≡ true)
class_that test types.Boolean e = absurd (cc)
class_that test types.Byte e = absurd (cc)
class_that test types.Char e = absurd (cc)
class_that test types.Short e = absurd (cc)
class_that test types.Int e = absurd (cc)
class_that test types.Long e = absurd (cc)
class_that test types.Float e = absurd (cc)
class_that test types.Double e = absurd (cc)
class_that test (Class name) e = (name, refl, e)
class_that test (Array element) e = absurd (cc)

-- or in the owner
pub begins : (headers : List Header) (class : Name) (method : MethodRef) → (special_owner headers class method ≡ method.owner) ⊎ BeginsAbove headers class method
begins headers class method = by (machine.superclass_in headers class) refl
  where
    above : Name → Bool
    above superclass = is_some_and (class_of method.owner) (λ owner. is_subclass headers superclass owner)

    start_by : Option Name → JType
    start_by None = method.owner
    start_by (Some superclass) = if not (is_constructor method.name) && above superclass then Class superclass else method.owner

    start_of : (found : Option Name) → machine.superclass_in headers class ≡ found → special_owner headers class method ≡ start_by found
    start_of None none = rw none refl
    start_of (Some superclass) some = rw some refl

    by_test : (superclass : Name) → machine.superclass_in headers class ≡ Some superclass → (test : Bool) → (not (is_constructor method.name) && above superclass) ≡ test
        → (special_owner headers class method ≡ method.owner) ⊎ BeginsAbove headers class method
    by_test superclass some true e =
        let (owner, owned, below) = class_that (λ owner. is_subclass headers superclass owner) method.owner (and_parts (not (is_constructor method.name)) (above superclass) e).1 in
        inr (record {
          superclass = superclass;
          is = sym (superclass_alike headers class) ∙ some;
          begins = start_of (Some superclass) some ∙ ap (λ test. if test then Class superclass else method.owner) e;
          owner = owner;
          owned = owned;
          below = (Decides-subclass headers superclass owner).0 below;
        })
    by_test superclass some false e = inl (start_of (Some superclass) some ∙ ap (λ test. if test then Class superclass else method.owner) e)

    by : (found : Option Name) → machine.superclass_in headers class ≡ found → (special_owner headers class method ≡ method.owner) ⊎ BeginsAbove headers class method
    by None none = inl (start_of None none)
    by (Some superclass) some = by_test superclass some (not (is_constructor method.name) && above superclass) refl

-- ---- lawful headers

-- a way along superclasses is one along parents
up_as_parent : (headers : List Header) (lower upper : Name) (path : List Name) → IsPath (HasSuperclass headers) lower path upper → IsPath (HasParent headers) lower path upper
up_as_parent headers lower upper [] same = same
up_as_parent headers lower upper (next ∷ path) steps = (inl steps.0, up_as_parent headers next upper path steps.1)

-- above a class stands what is itself a superclass
last_step : (headers : List Header) (lower next upper : Name) (path : List Name) → HasSuperclass headers lower next → IsPath (HasSuperclass headers) next path upper → (below : Name) × HasSuperclass headers below upper
last_step headers lower next upper [] step same = (lower, subst (HasSuperclass headers lower) same step)
last_step headers lower next upper (further ∷ path) step steps = last_step headers next further upper path steps.0 steps.1

module _ (headers : List Header) (lawful : IsLawful headers) where
  no_circle : (lower upper : Name) → HasParent headers lower upper → Implements headers upper lower → ⊥
  no_circle lower upper parent back = lawful.no_circle (record { lower = lower; upper = upper; is_parent = parent; back = back })

  -- no class is its own superclass or interface
  pub never_own_super : (class : Name) → ¬ (superclass_in (header_of headers class) ≡ Some class)
  never_own_super class e = no_circle class class (inl (super_is headers class class e)) (Implements-own headers class)

  pub never_own_interface : (class : Name) → list_any (λ one. is_name one class) (interfaces_of headers class) ≡ false
  never_own_interface class = elim (cases_Bool (list_any (λ one. is_name one class) (interfaces_of headers class))) [
    | inl itself ↦ absurd (no_circle class class (inr (interface_is headers class class itself)) (Implements-own headers class))
    | inr other ↦ other
  ]

  -- a method of the class itself is looked for there
  pub begins_here : (class : Name) (method : MethodRef) → method.owner ≡ Class class → special_owner headers class method ≡ method.owner
  begins_here class method owner = elim (begins headers class method) [
    | inl here ↦ here
    | inr above ↦ absurd (no_circle class above.superclass (inl (super_is headers class above.superclass above.is)) (record {
      path = above.below.path;
      is_path = subst (IsPath (HasParent headers) above.superclass above.below.path) (one_class above.owner class (sym above.owned ∙ owner)) (up_as_parent headers above.superclass above.owner above.below.path above.below.is_path);
    }))
  ]

  -- what is listed as an interface is no superclass
  never_both : (lower other upper : Name) → HasSuperclass headers lower upper → HasInterface headers other upper → Contains (names headers) upper → ⊥
  never_both lower other upper super interface there = (loadable headers lawful).extended lower upper super ((loadable headers lawful).listed other upper interface there)

  -- so where the search begins in the superclass, the owner is no interface that the class lists
  pub not_listed : (class above named : Name) (method : MethodRef) → superclass_in (header_of headers class) ≡ Some above → special_owner headers class method ≡ Class above → method.owner ≡ Class named
      → list_any (λ one. is_name one named) (interfaces_of headers class) ≡ true → Contains (names headers) named → ⊥
  not_listed class above named method superclass owner named_is listed there = elim (begins headers class method) [
    | inl here ↦ (
        let same : above ≡ named = one_class above named (sym owner ∙ here ∙ named_is) in
        never_both class class named (subst (HasSuperclass headers class) same (super_is headers class above superclass)) (interface_is headers class named listed) there)
    | inr up ↦ (
        let last = last_step headers class up.superclass up.owner up.below.path (super_is headers class up.superclass up.is) up.below.is_path in
        never_both last.0 class named (subst (HasSuperclass headers last.0) (one_class up.owner named (sym up.owned ∙ named_is)) last.1) (interface_is headers class named listed) there)
  ]
