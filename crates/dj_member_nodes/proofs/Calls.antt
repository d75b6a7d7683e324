-- The calls and births that stand for instructions keep the rules.
use Rattle.std.proofs.Common.{ℕ, ◌+◌, ◌≡◌, Bool, true, false, not, ◌&&◌, length, List, [], ◌∷◌, map, Option, Some, None, option_and_then, option_map, is_some, IfSome, refl, sym, ap, ◌∙◌, subst, codes}
use Rattle.std.specs.Prelude.{if◌then◌else◌}
use Rattle.std.specs.List.{list_any}
use Rattle.std.proofs.lemmas.Bool.{and_parts, and_from}
use Rattle.dj_names.specs.declared.header.Header.{Header}
use Rattle.dj_names.specs.Headers.{Name}
use Rattle.dj_names.specs.MethodNames.{is_constructor}
use Rattle.dj_names.specs.Types as types
use Rattle.dj_names.specs.Types.{JType, Boolean, Byte, Char, Short, Int, Long, Float, Double, Class, Array, StaticType, Of, parameters_of, result_of}
use Rattle.dj_kinds.specs.Search.{header_of, superclass_in, interfaces_of}
use Rattle.dj_kinds.specs.Choice.{searched_class}
use Rattle.dj_syntax.specs.Trees.{Exp, Exps, This, Call, StaticCall, SuperCall, New}
use Rattle.dj_syntax.specs.Weight.{weight_of_exp}
use Rattle.dj_instructions.specs.Instructions.{MethodRef}
use Rattle.dj_values.specs.Values.{InvokeKind, Static, Special}
use Rattle.dj_values.specs.Fits.{class_of}
use Rattle.dj_values.specs.Deciding.{is_name, is_type, is_reference, is_some_and, is_interface, is_array_clone}
use Rattle.dj_bytecode.specs.Objects.{special_owner}
use Rattle.dj_meaning.specs.Calls.{MethodIn, chosen}
use Rattle.dj_meaning.specs.Members.{Members, has_flag}
use Rattle.dj_meaning.specs.Targets.{Target, result, of_object, of_class, of_super, of_new}
use Rattle.dj_meaning.specs.StaticTypes.{Scope, plain, typed, object_target, class_target, super_target, new_target, type_of, types_of}
use Rattle.dj_meaning.specs.Variables.{EachInExp}
use Rattle.dj_places.specs.Rules.{Holds}
use Rattle.dj_typing.specs.Sites.{Site, context_of, may_name, may_name_type}
use Rattle.dj_typing.specs.Operands.{if_typed}
use Rattle.dj_typing.specs.Expressions.{is_whole_static, is_meant, gives_value, above_of, means_abstract, has_super, is_abstract, effect_types}
use Rattle.dj_blocks_formed.specs.Formed.{constants_of}
use Rattle.dj_members_shown.specs.Alone.{is_alone_in}
use Rattle.dj_members_shown.specs.Choosing.{ChooseAlike, ChooseAlikeIn}
use Rattle.dj_members_shown.specs.Casts.{dressed}
use Rattle.dj_members_shown.specs.Meant.{exact, asked_of, IsOfObject, IsOfClass, IsOfNew, IsOfSuper, IsOfInterface}
use Rattle.dj_members_shown.specs.Operands.{all_dressed, dressed_types}
use Rattle.dj_members_shown.proofs.Dressing.{one-type, dressed-choose}
use Rattle.dj_members_shown.proofs.Suiting.{call-type, static-call-type, super-call-type}
use Rattle.dj_members_shown.proofs.Targets.{then_alike, meant_alike, object_alike, class_alike, new_alike, super_alike}
use Rattle.dj_rebuilding.specs.Pending.{Typed, and_then}
use Rattle.dj_rebuilding.specs.Agreeing.{IsBelow}
use Rattle.dj_blocks_formed.specs.Ruled.{IsRuled, AreRuledOperands}
use Rattle.dj_blocks_formed.proofs.Stored.{Keeps}
use Rattle.dj_blocks_formed.proofs.Spilled.{named-whole}
use Rattle.dj_blocks_formed.proofs.Blocks.{made-if, both-are}
use Rattle.dj_member_nodes.specs.Going.{fits_in, all_fit, may_be_given, exps_of, froms_of}
use Rattle.dj_member_nodes.specs.Nodes.{given_to, object_call, class_call, is_this, is_above, super_call, birth_of}
use Rattle.dj_member_nodes.specs.Named.{MethodIsNamed}
use Rattle.dj_member_nodes.proofs.Fitting.{all-fit-many, given-fit}
use Rattle.dj_member_nodes.proofs.Dressed.{IsDressed, pinned-ruled, AreDressed, all-dressed-ruled}

-- an expression calls what is asked for, and keeps the rules, alone as a statement, and where it gives a value
pub record IsCall (site : Site) (n : ℕ) (scope : Scope) (given : Option JType) (exp : Exp) : Type 0 where
  pub small : EachInExp (IsBelow n) exp
  pub typed : type_of (context_of site) scope exp ≡ typed given
  pub does : (place : ℕ) → Holds (effect_types site scope place exp)
  pub gives : is_some given ≡ true → Keeps site scope exp

-- what follows from what is so where something is there
if-both : {A : Type 0} {P Q : A → Type 0} (found : Option A) → IfSome found P → ((one : A) → P one → Q one) → IfSome found Q
if-both None holds follows = tt
if-both (Some one) holds follows = follows one holds

-- what arguments choose alike through a class, if there is one
choose-in : (world : List Header) (members : List Members) (name : Name) (searched : Option Name) (froms : List StaticType) (tos : List JType) → length froms ≡ length tos
    → ChooseAlikeIn world members name searched (dressed_types world (is_alone_in world members name searched tos) froms tos) tos
choose-in world members name None froms tos same = record { alike = tt }
choose-in world members name (Some class) froms tos same = record { alike = dressed-choose world members name class froms tos same }

module _ (site : Site) (n : ℕ) (scope : Scope) where
  -- the dressed types of arguments
  abbrev given_types : MethodRef → Name → Option Name → List Typed → List StaticType
  given_types method name searched are = dressed_types site.headers (is_alone_in site.headers site.members name searched (parameters_of method.descriptor)) (froms_of are) (parameters_of method.descriptor)

  abbrev arguments_to : MethodRef → Name → Option Name → List Typed → Exps
  arguments_to method name searched are = given_to (constants_of site) method name searched are

  choose : (method : MethodRef) (name : Name) (searched : Option Name) (are : List Typed) → all_fit site.headers are (parameters_of method.descriptor) ≡ true
      → ChooseAlikeIn site.headers site.members name searched (given_types method name searched are) (parameters_of method.descriptor)
  choose method name searched are fit = choose-in site.headers site.members name searched (froms_of are) (parameters_of method.descriptor) (all-fit-many site.headers are (parameters_of method.descriptor) fit)

  arguments-ruled : (method : MethodRef) (name : Name) (searched : Option Name) (are : List Typed) → AreRuledOperands site n scope are → all_fit site.headers are (parameters_of method.descriptor) ≡ true → MethodIsNamed site method
      → AreDressed site n scope (given_types method name searched are) (arguments_to method name searched are)
  arguments-ruled method name searched are h fit named =
      all-dressed-ruled site n scope (is_alone_in site.headers site.members name searched (parameters_of method.descriptor)) are (parameters_of method.descriptor) h fit named.parameters

  -- what is given can be named
  result-whole : (given : Option JType) → IfSome given (λ type. may_name_type site type ≡ true) → if_typed (typed given) (is_whole_static site.headers) ≡ true
  result-whole None named = refl
  result-whole (Some type) named = named-whole site type named

  pub asked-named : (kind : InvokeKind) (method : MethodRef) → MethodIsNamed site method → IfSome (result (asked_of kind method.owner method)) (λ type. may_name_type site type ≡ true)
  asked-named kind method named = by (is_array_clone method.owner method.name (parameters_of method.descriptor))
    where
      by : (test : Bool) → IfSome (if test then Some method.owner else result_of method.descriptor) (λ type. may_name_type site type ≡ true)
      by true = named.owner
      by false = named.result

  -- ---- methods of objects

  pub object-called : (kind : InvokeKind) (method : MethodRef) → IsOfObject site.headers site.members site.class kind method → MethodIsNamed site method → is_constructor method.name ≡ false → (are : List Typed) (exp : Exp) → object_call (constants_of site) method are ≡ Some exp → AreRuledOperands site n scope are
      → IsCall site n scope (result (asked_of kind method.owner method)) exp
  object-called kind method is named plain_name [] exp e h = absurd (cc)
  object-called kind method is named plain_name (object ∷ are) exp e h =
      let searched = searched_class method.owner in
      let first = dressed site.headers false object.0 method.owner object.1 in
      let rest = arguments_to method method.name searched are in
      let given = given_types method method.name searched are in
      let m = made-if (is_reference method.owner && (fits_in site.headers object.0 method.owner && may_be_given site.headers are (parameters_of method.descriptor))) (Some (Call first method.name rest)) exp e in
      let fits = and_parts (is_reference method.owner) (fits_in site.headers object.0 method.owner && may_be_given site.headers are (parameters_of method.descriptor)) m.0 in
      let parts = and_parts (fits_in site.headers object.0 method.owner) (may_be_given site.headers are (parameters_of method.descriptor)) fits.1 in
      let fit = given-fit site.headers are (parameters_of method.descriptor) parts.1 in
      let same : Call first method.name rest ≡ exp = (let some = m.1 in cc) in
      let one = pinned-ruled site n scope object.0 method.owner object.1 h.0 parts.0 named.owner in
      let more = arguments-ruled method method.name searched are h.1 fit named in
      let meant : of_object site.headers site.members site.class method.name given method.owner ≡ Some (asked_of kind method.owner method) =
      object_alike site.headers site.members site.class given (parameters_of method.descriptor) method.name method.owner (choose method method.name searched are fit) ∙ is.meant in
      let target : object_target (context_of site) method.name (plain (type_of (context_of site) scope first)) (types_of (context_of site) scope rest) ≡ Some (asked_of kind method.owner method) =
      ap (λ found. object_target (context_of site) method.name (plain found) (types_of (context_of site) scope rest)) one.typed ∙ ap (object_target (context_of site) method.name (Some method.owner)) more.typed ∙ meant in
      let type = call-type (context_of site) scope kind method first rest given one.typed more.typed meant in
      let does : (place : ℕ) → Holds (effect_types site scope place (Call first method.name rest)) = (λ place. (
        (
          named.name plain_name,
          (
            ap (λ found. if_typed found (λ type. is_meant (types_of (context_of site) scope rest) (object_target (context_of site) method.name (plain (Some type)) (types_of (context_of site) scope rest)))) one.typed
                ∙ ap (λ found. is_meant found (object_target (context_of site) method.name (Some method.owner) found)) more.typed ∙ ap is_some meant,
            ap (λ found. if_typed found (is_whole_static site.headers)) type ∙ result-whole (result (asked_of kind method.owner method)) (asked-named kind method named),
          ),
        ),
        (one.keeps (place + 1), more.keeps (place + 1 + weight_of_exp first)),
      )) in
      subst (IsCall site n scope (result (asked_of kind method.owner method))) same (record {
        small = (one.small, more.small);
        typed = type;
        does = does;
        gives = λ some place. (ap gives_value target ∙ some, does place);
      })

  -- ---- static methods

  class-called-at : (method : MethodRef) (is : IsOfClass site.headers site.members site.class method) → MethodIsNamed site method → is_constructor method.name ≡ false → (are : List Typed) → all_fit site.headers are (parameters_of method.descriptor) ≡ true → AreRuledOperands site n scope are
      → IsCall site n scope (result_of method.descriptor) (StaticCall is.class method.name (arguments_to method method.name (Some is.class) are))
  class-called-at method is named plain_name are fit h =
      let rest = arguments_to method method.name (Some is.class) are in
      let given = given_types method method.name (Some is.class) are in
      let more = arguments-ruled method method.name (Some is.class) are h fit named in
      let meant : of_class site.headers site.members site.class is.class method.name given ≡ Some (asked_of Static (Class is.class) method) =
      class_alike site.headers site.members site.class given (parameters_of method.descriptor) is.class method.name (choose method method.name (Some is.class) are fit).alike ∙ is.meant in
      let target : class_target (context_of site) is.class method.name (types_of (context_of site) scope rest) ≡ Some (asked_of Static (Class is.class) method) = ap (class_target (context_of site) is.class method.name) more.typed ∙ meant in
      let type = static-call-type (context_of site) scope is.class method rest given more.typed meant in
      let may : may_name site is.class ≡ true = sym (ap (may_name_type site) is.owner) ∙ named.owner in
      let does : (place : ℕ) → Holds (effect_types site scope place (StaticCall is.class method.name rest)) = (λ place. (
        (
          and_from (may_name site is.class) (site.can_name method.name) may (named.name plain_name),
          (
            ap (λ found. is_meant found (class_target (context_of site) is.class method.name found)) more.typed ∙ ap is_some meant,
            ap (λ found. if_typed found (is_whole_static site.headers)) type ∙ result-whole (result_of method.descriptor) named.result,
          ),
        ),
        more.keeps (place + 1),
      )) in
      record { small = more.small; typed = type; does = does; gives = λ some place. (ap gives_value target ∙ some, does place) }

  pub class-called : (method : MethodRef) → IsOfClass site.headers site.members site.class method → MethodIsNamed site method → is_constructor method.name ≡ false → (are : List Typed) (exp : Exp) → class_call (constants_of site) method are ≡ Some exp → AreRuledOperands site n scope are
      → IsCall site n scope (result_of method.descriptor) exp
  class-called method is named plain_name are exp e h =
      let m = made-if (may_be_given site.headers are (parameters_of method.descriptor)) (and_then (class_of method.owner) (λ class. Some (StaticCall class method.name (arguments_to method method.name (Some class) are)))) exp e in
      let b = both-are (class_of method.owner) (λ class. Some (StaticCall class method.name (arguments_to method method.name (Some class) are))) exp m.1 in
      let same : StaticCall b.one method.name (arguments_to method method.name (Some b.one) are) ≡ exp = (let some = b.then_is in cc) in
      let class_is : is.class ≡ b.one = (let some : Some is.class ≡ Some b.one = sym (ap class_of is.owner) ∙ b.is in cc) in
      subst (IsCall site n scope (result_of method.descriptor)) same
      (subst (λ class. IsCall site n scope (result_of method.descriptor) (StaticCall class method.name (arguments_to method method.name (Some class) are))) class_is (class-called-at method is named plain_name are (given-fit site.headers are (parameters_of method.descriptor) m.0) h))

  -- ---- behind `super`

  -- the class or interface that is named behind it
  abbrev above_class : Option Name → Option Name
  above_class None = superclass_in (header_of site.headers site.class)
  above_class (Some interface) = Some interface

  -- no method is abstract that is chosen alike
  concrete-alike : (method : MethodRef) (above : Option Name) (given : List StaticType) → ChooseAlikeIn site.headers site.members method.name (above_class above) given (parameters_of method.descriptor)
      → means_abstract site above method.name (Some (exact (parameters_of method.descriptor))) ≡ false → means_abstract site above method.name (Some given) ≡ false
  concrete-alike method None given alike concrete =
      ap (λ found. is_some_and found (λ (one : MethodIn). has_flag 0x0400 one.method.flags))
      (then_alike (λ class. chosen site.headers site.members (record { from = site.class; class = class; through = None; name = method.name; arguments = given }))
      (λ class. chosen site.headers site.members (record { from = site.class; class = class; through = None; name = method.name; arguments = exact (parameters_of method.descriptor) })) (superclass_in (header_of site.headers site.class))
      (if-both (superclass_in (header_of site.headers site.class)) alike.alike (λ class one. meant_alike site.headers site.members site.class given (parameters_of method.descriptor) None method.name class one))) ∙ concrete
  concrete-alike method (Some interface) given alike concrete =
      ap (λ found. is_some_and found (λ (one : MethodIn). has_flag 0x0400 one.method.flags)) (meant_alike site.headers site.members site.class given (parameters_of method.descriptor) None method.name interface alike.alike) ∙ concrete

  pub super-called-at : (method : MethodRef) (above : Option Name) (owner : Name) → has_super site above ≡ true → site.has_this ≡ true
      → of_super site.headers site.members site.class above method.name (exact (parameters_of method.descriptor)) ≡ Some (asked_of Special (Class owner) method)
      → means_abstract site above method.name (Some (exact (parameters_of method.descriptor))) ≡ false → MethodIsNamed site method → is_constructor method.name ≡ false
      → (are : List Typed) → all_fit site.headers are (parameters_of method.descriptor) ≡ true → AreRuledOperands site n scope are
      → IsCall site n scope (result_of method.descriptor) (SuperCall above method.name (arguments_to method method.name (above_class above) are))
  super-called-at method above owner super this is concrete named plain_name are fit h =
      let rest = arguments_to method method.name (above_class above) are in
      let given = given_types method method.name (above_class above) are in
      let more = arguments-ruled method method.name (above_class above) are h fit named in
      let alike = choose method method.name (above_class above) are fit in
      let meant : of_super site.headers site.members site.class above method.name given ≡ Some (asked_of Special (Class owner) method) = by above alike ∙ is in
      let target : super_target (context_of site) above method.name (types_of (context_of site) scope rest) ≡ Some (asked_of Special (Class owner) method) = ap (super_target (context_of site) above method.name) more.typed ∙ meant in
      let type = super-call-type (context_of site) scope above owner method rest given more.typed meant in
      let does : (place : ℕ) → Holds (effect_types site scope place (SuperCall above method.name rest)) = (λ place. (
        (
          and_from (site.has_this && has_super site above) (site.can_name method.name) (and_from site.has_this (has_super site above) this super) (named.name plain_name),
          (
            and_from (is_meant (types_of (context_of site) scope rest) (super_target (context_of site) above method.name (types_of (context_of site) scope rest))) (not (means_abstract site above method.name (types_of (context_of site) scope rest)))
                (ap (λ found. is_meant found (super_target (context_of site) above method.name found)) more.typed ∙ ap is_some meant)
                (ap (λ found. not (means_abstract site above method.name found)) more.typed ∙ ap not (concrete-alike method above given alike concrete)),
            ap (λ found. if_typed found (is_whole_static site.headers)) type ∙ result-whole (result_of method.descriptor) named.result,
          ),
        ),
        more.keeps (place + 1),
      )) in
      record { small = more.small; typed = type; does = does; gives = λ some place. (ap gives_value target ∙ some, does place) }
    where
      by : (above : Option Name) → ChooseAlikeIn site.headers site.members method.name (above_class above) (given_types method method.name (above_class above) are) (parameters_of method.descriptor)
          → of_super site.headers site.members site.class above method.name (given_types method method.name (above_class above) are) ≡ of_super site.headers site.members site.class above method.name (exact (parameters_of method.descriptor))
      by None alike = super_alike site.headers site.members site.class (given_types method method.name (above_class None) are) (parameters_of method.descriptor) None method.name alike
      by (Some interface) alike = super_alike site.headers site.members site.class (given_types method method.name (above_class (Some interface)) are) (parameters_of method.descriptor) (Some interface) method.name alike

  -- ---- births

  birth-at : (method : MethodRef) (is : IsOfNew site.headers site.members site.class method) → MethodIsNamed site method → (are : List Typed) → all_fit site.headers are (parameters_of method.descriptor) ≡ true → AreRuledOperands site n scope are
      → IsRuled site n scope (Of (Class is.class)) (New is.class (arguments_to method (codes "<init>") (Some is.class) are))
  birth-at method is named are fit h =
      let rest = arguments_to method (codes "<init>") (Some is.class) are in
      let given = given_types method (codes "<init>") (Some is.class) are in
      let more = arguments-ruled method (codes "<init>") (Some is.class) are h fit named in
      let meant : of_new site.headers site.members site.class is.class given ≡ Some (asked_of Special (Class is.class) method) =
      new_alike site.headers site.members site.class given (parameters_of method.descriptor) is.class (choose method (codes "<init>") (Some is.class) are fit).alike ∙ is.meant in
      let may : may_name site is.class ≡ true = sym (ap (may_name_type site) is.owner) ∙ named.owner in
      record {
        entry = record { small = more.small; typed = refl };
        keeps = λ place. (
          may,
          (
            and_from (not (is_abstract site.headers is.class)) (is_meant (types_of (context_of site) scope rest) (new_target (context_of site) is.class (types_of (context_of site) scope rest))) (ap not is.concrete)
                (ap (λ found. is_meant found (new_target (context_of site) is.class found)) more.typed ∙ ap is_some meant),
            more.keeps (place + 1),
          ),
        );
        named = may;
      }

  pub birth-ruled : (method : MethodRef) → IsOfNew site.headers site.members site.class method → MethodIsNamed site method → (class : Name) (are : List Typed) (exp : Exp) → birth_of (constants_of site) method class are ≡ Some exp → AreRuledOperands site n scope are → IsRuled site n scope (Of (Class class)) exp
  birth-ruled method is named class are exp e h =
      let fit_all = may_be_given site.headers are (parameters_of method.descriptor) in
      let m = made-if (is_constructor method.name && (is_type method.owner (Class class) && fit_all)) (Some (New class (arguments_to method (codes "<init>") (Some class) are))) exp e in
      let a = and_parts (is_constructor method.name) (is_type method.owner (Class class) && fit_all) m.0 in
      let b = and_parts (is_type method.owner (Class class)) fit_all a.1 in
      let same : New class (arguments_to method (codes "<init>") (Some class) are) ≡ exp = (let some = m.1 in cc) in
      let class_is : is.class ≡ class = (let some : Some is.class ≡ Some class = sym (ap class_of is.owner) ∙ ap class_of (one-type method.owner (Class class) b.0) in cc) in
      subst (IsRuled site n scope (Of (Class class))) same
      (subst (λ one. IsRuled site n scope (Of (Class one)) (New one (arguments_to method (codes "<init>") (Some one) are))) class_is (birth-at method is named are (given-fit site.headers are (parameters_of method.descriptor) b.1) h))
