-- Which methods instructions mean, by what the search for one answers.
use Rattle.std.proofs.Common.{◌≡◌, ◌↔◌, Bool, true, false, IsTrue, Option, Some, None, refl, sym, ap, subst, ◌∙◌, inl, inr}
use Rattle.std.specs.Prelude.{option_and_then, codes, if◌then◌else◌}
use Rattle.std.proofs.lemmas.Option.{same_Some}
use Rattle.std.proofs.lemmas.Slice.Eq.{bytes_eq-Decides}
use Rattle.dj_names.specs.Headers.{Name}
use Rattle.dj_names.specs.MethodNames.{is_constructor}
use Rattle.dj_names.specs.Types.{JType, Class, parameters_of}
use Rattle.dj_values.specs.Values.{InvokeKind, Static, Special}
use Rattle.dj_kinds.specs.Search.{header_of, superclass_in}
use Rattle.dj_instructions.specs.Instructions.{MethodRef}
use Rattle.dj_meaning.specs.Members.{is_of_class}
use Rattle.dj_meaning.specs.Calls.{MethodIn}
use Rattle.dj_meaning.specs.Targets.{Target, target, by_flags, object_kind, of_construct}
use Rattle.dj_typing.specs.Expressions.{is_abstract}
use Rattle.dj_static.specs.declared.classes.Classes.{Classes}
use Rattle.dj_static.specs.Targets.{meant_in}
use Rattle.dj_meant.specs.Meant.{exact, asked_of, IsOfObject, IsOfClass, IsOfNew, IsOfConstruct}
use Rattle.dj_member_cause.specs.Deciding.{members_in, Means, MeansConstructor, BeginsIn}
use Rattle.dj_member_cause.proofs.Asking.{static_kind, constructor_kind, static_asked, constructor_asked, constructor_flags, constructor_is, IsAsked, asked_to, asked_from}

module _ (classes : Classes) (method : MethodRef) where
  -- the method that a call by exact types means in a class
  abbrev pub found_in : JType → Option JType → Option MethodIn
  found_in receiver through = meant_in classes.headers.now classes.members.now classes.from.now receiver through method.name (exact (parameters_of method.descriptor))

  module _ (receiver : JType) (through : Option JType) (kind : InvokeKind) (How : MethodIn → Option InvokeKind) where
    pub means_asked : (one : MethodIn) → Means classes receiver through method one → How one ≡ Some kind → IsAsked kind method How (found_in receiver through)
    means_asked one means how = record { one = one; is = means.meant; how = how; name = means.name; descriptor = means.descriptor }

    pub asked_means : (asked : IsAsked kind method How (found_in receiver through)) → Means classes receiver through method asked.one
    asked_means asked = record { meant = asked.is; name = asked.name; descriptor = asked.descriptor }

    -- none is meant
    pub told_none : ((one : MethodIn) → ¬ Means classes receiver through method one) → ¬ IsAsked kind method How (found_in receiver through)
    told_none none asked = none asked.one (asked_means asked)

    -- one is meant, and may be called so
    pub told_some : (one : MethodIn) → Means classes receiver through method one → (answer : Bool) → IsTrue answer ↔ (How one ≡ Some kind) → IsTrue answer ↔ IsAsked kind method How (found_in receiver through)
    told_some one means answer told = (
      λ yes. means_asked one means (told.0 yes),
      λ asked. told.1 (subst (λ o. How o ≡ Some kind) (same_Some asked.one one (sym asked.is ∙ means.meant)) asked.how),
    )

  -- ---- a method of an object

  abbrev pub object_way : MethodIn → Option InvokeKind
  object_way one = by_flags classes.headers.now one (object_kind classes.headers.now method.owner one)

  pub object_from : (kind : InvokeKind) → IsAsked kind method object_way (found_in method.owner (Some method.owner)) → IsOfObject classes.headers.now (members_in classes) classes.from.now kind method
  object_from kind asked = record { meant = asked_from method.owner kind method object_way (found_in method.owner (Some method.owner)) asked }

  pub object_to : (kind : InvokeKind) → IsOfObject classes.headers.now (members_in classes) classes.from.now kind method → IsAsked kind method object_way (found_in method.owner (Some method.owner))
  object_to kind is = asked_to method.owner kind method object_way (found_in method.owner (Some method.owner)) is.meant

  -- ---- a static method

  pub class_from : (class : Name) → method.owner ≡ Class class → IsAsked Static method static_kind (found_in method.owner None) → IsOfClass classes.headers.now (members_in classes) classes.from.now method
  class_from class owner asked = record {
    class = class;
    owner = owner;
    meant =
        static_asked (Class class) (found_in (Class class) None)
        ∙ asked_from (Class class) Static method static_kind (found_in (Class class) None) (subst (λ type. IsAsked Static method static_kind (found_in type None)) owner asked);
  }

  pub class_to : IsOfClass classes.headers.now (members_in classes) classes.from.now method → IsAsked Static method static_kind (found_in method.owner None)
  class_to is =
      subst (λ type. IsAsked Static method static_kind (found_in type None)) (sym is.owner)
      (asked_to (Class is.class) Static method static_kind (found_in (Class is.class) None) (sym (static_asked (Class is.class) (found_in (Class is.class) None)) ∙ is.meant))

  -- ---- constructors

  -- the constructor that is meant in a class
  abbrev pub found_init : JType → Option JType → Option MethodIn
  found_init receiver through = meant_in classes.headers.now classes.members.now classes.from.now receiver through (codes "<init>") (exact (parameters_of method.descriptor))

  module _ (constructs : is_constructor method.name ≡ true) where
    init : (receiver : JType) (through : Option JType) → found_in receiver through ≡ found_init receiver through
    init receiver through =
        ap (λ name. meant_in classes.headers.now classes.members.now classes.from.now receiver through name (exact (parameters_of method.descriptor)))
        ((bytes_eq-Decides method.name (codes "<init>")).0 constructs)

    -- it is meant as one of a class
    constructor_from : (class : Name) (through : Option JType) → method.owner ≡ Class class → MeansConstructor classes through method
        → option_and_then (λ (one : MethodIn). if is_of_class one.method.flags then None else Some (target (Class class) one Special)) (found_init (Class class) through) ≡ Some (asked_of Special (Class class) method)
    constructor_from class through owner is =
        constructor_asked (Class class) (found_init (Class class) through)
        ∙ asked_from (Class class) Special method constructor_kind (found_init (Class class) through)
        (subst (IsAsked Special method constructor_kind) (ap (λ type. found_in type through) owner ∙ init (Class class) through)
        (means_asked method.owner through Special constructor_kind is.one is.means (constructor_is is.one is.instance)))

    constructor_to : (class : Name) (through : Option JType) → method.owner ≡ Class class
        → option_and_then (λ (one : MethodIn). if is_of_class one.method.flags then None else Some (target (Class class) one Special)) (found_init (Class class) through) ≡ Some (asked_of Special (Class class) method)
        → MeansConstructor classes through method
    constructor_to class through owner is =
        let asked : IsAsked Special method constructor_kind (found_in method.owner through) =
        subst (IsAsked Special method constructor_kind) (sym (ap (λ type. found_in type through) owner ∙ init (Class class) through))
        (asked_to (Class class) Special method constructor_kind (found_init (Class class) through) (sym (constructor_asked (Class class) (found_init (Class class) through)) ∙ is)) in
        record { one = asked.one; means = asked_means method.owner through Special constructor_kind asked; instance = constructor_flags asked.one Special asked.how }

    pub new_from : (class : Name) → method.owner ≡ Class class → is_abstract classes.headers.now class ≡ false → MeansConstructor classes (Some method.owner) method → IsOfNew classes.headers.now (members_in classes) classes.from.now method
    new_from class owner concrete is = record {
      class = class;
      owner = owner;
      constructs = constructs;
      concrete = concrete;
      meant = constructor_from class (Some (Class class)) owner (subst (λ type. MeansConstructor classes (Some type) method) owner is);
    }

    pub new_to : IsOfNew classes.headers.now (members_in classes) classes.from.now method → MeansConstructor classes (Some method.owner) method
    new_to is = subst (λ type. MeansConstructor classes (Some type) method) (sym is.owner) (constructor_to is.class (Some (Class is.class)) is.owner is.meant)

    pub construct_from : (class : Name) → method.owner ≡ Class class → BeginsIn classes class → MeansConstructor classes None method → IsOfConstruct classes.headers.now (members_in classes) classes.from.now method
    construct_from class owner (inl same) is = record {
      constructs = constructs;
      own = true;
      class = class;
      owner = owner;
      meant =
          ap (λ name. option_and_then (λ (one : MethodIn). if is_of_class one.method.flags then None else Some (target (Class name) one Special)) (found_init (Class name) None)) (sym same)
          ∙ constructor_from class None owner is;
    }
    construct_from class owner (inr superclass) is = record {
      constructs = constructs;
      own = false;
      class = class;
      owner = owner;
      meant =
          ap (option_and_then (λ name. option_and_then (λ (one : MethodIn). if is_of_class one.method.flags then None else Some (target (Class name) one Special)) (found_init (Class name) None))) superclass
          ∙ constructor_from class None owner is;
    }

    -- what `this(..)` or `super(..)` asks for
    abbrev constructor_of : Name → Option Target
    constructor_of name = option_and_then (λ (one : MethodIn). if is_of_class one.method.flags then None else Some (target (Class name) one Special)) (found_init (Class name) None)

    one_class : (first second : Name) → Class first ≡ Class second → first ≡ second
    one_class first second same = cc

    -- it is asked for in the class of its target
    asked_there : (name class : Name) → constructor_of name ≡ Some (asked_of Special (Class class) method) → name ≡ class
    asked_there name class is = by (found_init (Class name) None) is
      where
        by_kind : (one : MethodIn) (test : Bool) → (if test then None else Some (target (Class name) one Special)) ≡ Some (asked_of Special (Class class) method) → name ≡ class
        by_kind one true e = absurd (cc)
        by_kind one false e = one_class name class (ap (λ (t : Target). t.owner) (same_Some (target (Class name) one Special) (asked_of Special (Class class) method) e))

        by : (found : Option MethodIn) → option_and_then (λ (one : MethodIn). if is_of_class one.method.flags then None else Some (target (Class name) one Special)) found ≡ Some (asked_of Special (Class class) method) → name ≡ class
        by None e = absurd (cc)
        by (Some one) e = by_kind one (is_of_class one.method.flags) e

    record Construct (class : Name) : Type 0 where
      begins : BeginsIn classes class
      constructs_so : MeansConstructor classes None method

    own_to : (class : Name) → method.owner ≡ Class class → constructor_of classes.from.now ≡ Some (asked_of Special (Class class) method) → Construct class
    own_to class owner is =
        let same = asked_there classes.from.now class is in
        record { begins = inl (sym same); constructs_so = constructor_to class None owner (subst (λ name. constructor_of name ≡ Some (asked_of Special (Class class) method)) same is) }

    above_to : (class : Name) (superclass : Option Name) → superclass_in (header_of classes.headers.now classes.from.now) ≡ superclass → method.owner ≡ Class class
        → option_and_then constructor_of superclass ≡ Some (asked_of Special (Class class) method) → Construct class
    above_to class None e owner is = absurd (cc)
    above_to class (Some name) e owner is =
        let same = asked_there name class is in
        record { begins = inr (e ∙ ap Some same); constructs_so = constructor_to class None owner (subst (λ one. constructor_of one ≡ Some (asked_of Special (Class class) method)) same is) }

    construct_by : (own : Bool) (class : Name) → method.owner ≡ Class class → of_construct classes.headers.now (members_in classes) classes.from.now own (exact (parameters_of method.descriptor)) ≡ Some (asked_of Special (Class class) method) → Construct class
    construct_by true class owner is = own_to class owner is
    construct_by false class owner is = above_to class (superclass_in (header_of classes.headers.now classes.from.now)) refl owner is

    construct_to : (is : IsOfConstruct classes.headers.now (members_in classes) classes.from.now method) → Construct is.class
    construct_to is = construct_by is.own is.class is.owner is.meant

    pub construct_begins : (class : Name) → method.owner ≡ Class class → IsOfConstruct classes.headers.now (members_in classes) classes.from.now method → BeginsIn classes class
    construct_begins class owner is = subst (BeginsIn classes) (one_class is.class class (sym is.owner ∙ owner)) (construct_to is).begins

    pub construct_means : IsOfConstruct classes.headers.now (members_in classes) classes.from.now method → MeansConstructor classes None method
    construct_means is = (construct_to is).constructs_so
