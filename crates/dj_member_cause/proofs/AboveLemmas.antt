-- Which methods are meant behind `super`.
use Rattle.std.proofs.Common.{◌≡◌, Bool, true, false, if◌then◌else◌, List, [], ◌∷◌, Option, Some, None, refl, sym, ap, subst, ◌∙◌}
use Rattle.std.specs.Prelude.{option_and_then}
use Rattle.std.specs.List.{list_any}
use Rattle.std.proofs.lemmas.Option.{same_Some}
use Rattle.dj_names.specs.declared.header.Header.{Header}
use Rattle.dj_names.specs.Headers.{Name}
use Rattle.dj_names.specs.MethodNames.{is_constructor}
use Rattle.dj_names.specs.Types.{JType, Class, parameters_of}
use Rattle.dj_values.specs.Values.{InvokeKind, Special}
use Rattle.dj_values.specs.Deciding.{is_name, is_some_and, is_interface}
use Rattle.dj_kinds.specs.Search.{header_of, superclass_in, interfaces_of}
use Rattle.dj_bytecode.specs.Objects as machine
use Rattle.dj_bytecode.specs.Objects.{special_owner}
use Rattle.dj_instructions.specs.Instructions.{MethodRef}
use Rattle.dj_meaning.specs.Members.{has_flag}
use Rattle.dj_meaning.specs.Calls.{MethodIn}
use Rattle.dj_meaning.specs.Targets.{by_flags, of_super}
use Rattle.dj_static.specs.declared.classes.Classes.{Classes}
use Rattle.dj_meant.specs.Meant.{exact, asked_of, is_abstract_above, is_of_interface, IsOfSuper, IsOfInterface}
use Rattle.dj_member_cause.specs.Deciding.{members_in, starts_above, MeansAbove}
use Rattle.dj_member_cause.proofs.Asking.{asked_by, asked_to, asked_from}
use Rattle.dj_member_cause.proofs.MethodLemmas.{found_in, means_asked, asked_means}

module _ (classes : Classes) (method : MethodRef) where
  abbrev above_way : MethodIn → Option InvokeKind
  above_way one = by_flags classes.headers.now one Special

  -- what a call behind `super` of a class asks for
  abbrev asks_above : Name → Type 0
  asks_above above = asked_by (Class above) above_way (found_in classes method (Class above) None) ≡ Some (asked_of Special (Class above) method)

  -- it means a method of this kind there
  pub record Above (class : Name) : Type 0 where
    pub one : MethodIn
    pub is : MeansAbove classes (Class class) method one

  meant_from : (class : Name) (above : Above class) → asks_above class
  meant_from class above =
      asked_from (Class class) Special method above_way (found_in classes method (Class class) None) (means_asked classes method (Class class) None Special above_way above.one above.is.means above.is.special)

  concrete_from : (class : Name) (above : Above class) → is_abstract_above classes.headers.now (members_in classes) classes.from.now class method ≡ false
  concrete_from class above = ap (λ found. is_some_and found (λ (one : MethodIn). has_flag 0x0400 one.method.flags)) above.is.means.meant ∙ above.is.concrete

  above_to : (class : Name) → asks_above class → is_abstract_above classes.headers.now (members_in classes) classes.from.now class method ≡ false → Above class
  above_to class asks concrete =
      let asked = asked_to (Class class) Special method above_way (found_in classes method (Class class) None) asks in
      record {
        one = asked.one;
        is = record {
          means = asked_means classes method (Class class) None Special above_way asked;
          special = asked.how;
          concrete = sym (ap (λ found. is_some_and found (λ (one : MethodIn). has_flag 0x0400 one.method.flags)) asked.is) ∙ concrete;
        };
      }

  -- ---- of the superclass

  behind_super : (class : Name) → superclass_in (header_of classes.headers.now classes.from.now) ≡ Some class
      → of_super classes.headers.now (members_in classes) classes.from.now None method.name (exact (parameters_of method.descriptor)) ≡ asked_by (Class class) above_way (found_in classes method (Class class) None)
  behind_super class e = ap (option_and_then (λ above. asked_by (Class above) above_way (found_in classes method (Class above) None))) e

  pub super_from : (class : Name) → is_constructor method.name ≡ false → is_interface classes.headers.now classes.from.now ≡ false → superclass_in (header_of classes.headers.now classes.from.now) ≡ Some class
      → special_owner classes.headers.now classes.from.now method ≡ Class class → Above class → IsOfSuper classes.headers.now (members_in classes) classes.from.now method
  super_from class plain in_class superclass owner above = record {
    plain = plain;
    in_class = in_class;
    above = class;
    superclass = superclass;
    owner = owner;
    meant = behind_super class superclass ∙ meant_from class above;
    concrete = concrete_from class above;
  }

  module _ (class : Name) (superclass : superclass_in (header_of classes.headers.now classes.from.now) ≡ Some class) (is : IsOfSuper classes.headers.now (members_in classes) classes.from.now method) where
    same_above : is.above ≡ class
    same_above = same_Some is.above class (sym is.superclass ∙ superclass)

    pub super_owner : special_owner classes.headers.now classes.from.now method ≡ Class class
    super_owner = is.owner ∙ ap Class same_above

    pub super_above : Above class
    super_above = subst Above same_above (above_to is.above (sym (behind_super is.above is.superclass) ∙ is.meant) is.concrete)

  -- ---- of an interface

  pub interface_from : (class : Name) → is_constructor method.name ≡ false → method.owner ≡ Class class → special_owner classes.headers.now classes.from.now method ≡ method.owner
      → list_any (λ name. is_name name class) (interfaces_of classes.headers.now classes.from.now) ≡ true → (above : Above class) → is_interface classes.headers.now above.one.owner ≡ true
      → IsOfInterface classes.headers.now (members_in classes) classes.from.now method
  interface_from class plain owner own listed above default = record {
    plain = plain;
    interface = class;
    owner = owner;
    own = own;
    listed = listed;
    meant = meant_from class above;
    concrete = concrete_from class above;
    default = ap (λ found. is_some_and found (λ (one : MethodIn). is_interface classes.headers.now one.owner)) above.is.means.meant ∙ default;
  }

  module _ (class : Name) (owner : method.owner ≡ Class class) (is : IsOfInterface classes.headers.now (members_in classes) classes.from.now method) where
    one_class : (first second : Name) → Class first ≡ Class second → first ≡ second
    one_class first second same = cc

    same_interface : is.interface ≡ class
    same_interface = one_class is.interface class (sym is.owner ∙ owner)

    pub interface_listed : list_any (λ name. is_name name class) (interfaces_of classes.headers.now classes.from.now) ≡ true
    interface_listed = subst (λ name. list_any (λ one. is_name one name) (interfaces_of classes.headers.now classes.from.now) ≡ true) same_interface is.listed

    pub interface_above : Above class
    interface_above = subst Above same_interface (above_to is.interface is.meant is.concrete)

    -- an interface declares the method that is meant
    pub interface_default : (one : MethodIn) → MeansAbove classes (Class class) method one → is_interface classes.headers.now one.owner ≡ true
    interface_default one above =
        sym (ap (λ found. is_some_and found (λ (other : MethodIn). is_interface classes.headers.now other.owner)) above.means.meant)
        ∙ subst (λ name. is_of_interface classes.headers.now (members_in classes) classes.from.now name method ≡ true) same_interface is.default

-- ---- where the machine's search begins

superclass_alike : (headers : List Header) (class : Name) → machine.superclass_in headers class ≡ superclass_in (header_of headers class)
superclass_alike [] class = refl
superclass_alike (header ∷ headers) class = by (is_name header.name class) (superclass_alike headers class)
  where
    by : (test : Bool) → machine.superclass_in headers class ≡ superclass_in (header_of headers class)
        → (if test then header.superclass else machine.superclass_in headers class) ≡ superclass_in (if test then Some header else header_of headers class)
    by true rest = refl
    by false rest = rest

module _ (headers : List Header) (class : Name) (method : MethodRef) where
  -- by the superclass
  abbrev start_by : Option Name → JType
  start_by None = method.owner
  start_by (Some superclass) = if starts_above headers superclass method then Class superclass else method.owner

  start_of : (found : Option Name) → machine.superclass_in headers class ≡ found → special_owner headers class method ≡ start_by found
  start_of None none = rw none refl
  start_of (Some superclass) some = rw some refl

  start_is : (found : Option Name) → found ≡ superclass_in (header_of headers class) → start_by found ≡ special_owner headers class method
  start_is found is = sym (start_of found (superclass_alike headers class ∙ sym is))

  pub start_nowhere : None ≡ superclass_in (header_of headers class) → method.owner ≡ special_owner headers class method
  start_nowhere is = start_is None is

  pub start_above : (superclass : Name) → Some superclass ≡ superclass_in (header_of headers class) → true ≡ starts_above headers superclass method → Class superclass ≡ special_owner headers class method
  start_above superclass is above = ap (λ test. if test then Class superclass else method.owner) above ∙ start_is (Some superclass) is

  pub start_here : (superclass : Name) → Some superclass ≡ superclass_in (header_of headers class) → false ≡ starts_above headers superclass method → method.owner ≡ special_owner headers class method
  start_here superclass is other = ap (λ test. if test then Class superclass else method.owner) other ∙ start_is (Some superclass) is
