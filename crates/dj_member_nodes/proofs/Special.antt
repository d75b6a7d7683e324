-- Calls by `invokespecial` keep the rules: of a method of the class itself, or behind `super`.
use Rattle.std.proofs.Common.{ℕ, ◌≡◌, Bool, true, false, not, ◌&&◌, List, [], ◌∷◌, Option, Some, None, option_and_then, refl, sym, ap, ◌∙◌, subst}
use Rattle.std.specs.Prelude.{if◌then◌else◌}
use Rattle.std.specs.List.{list_any}
use Rattle.std.proofs.lemmas.Bool.{and_parts, and_from, true≢false}
use Rattle.dj_names.specs.Headers.{Name}
use Rattle.dj_names.specs.MethodNames.{is_constructor}
use Rattle.dj_names.specs.Types.{Class, StaticType, parameters_of, result_of}
use Rattle.dj_kinds.specs.Search.{header_of, superclass_in, interfaces_of}
use Rattle.dj_syntax.specs.Trees.{Exp, Exps, Text, Truth, This, Variable, ClassOf, Field, Static, Element, Call, StaticCall, SuperCall, New, NewArray, Cast, InstanceOf, Negative, Not, Binary, Choice, Assign}
use Rattle.dj_syntax.specs.Trees as trees
use Rattle.dj_instructions.specs.Instructions.{MethodRef}
use Rattle.dj_values.specs.Values.{Special}
use Rattle.dj_values.specs.Fits.{class_of}
use Rattle.dj_values.specs.Deciding.{is_name, is_type, is_some_and, is_interface, is_array_clone}
use Rattle.dj_bytecode.specs.Objects.{special_owner}
use Rattle.dj_meaning.specs.Targets.{Target, target, by_flags, result, of_super}
use Rattle.dj_meaning.specs.Calls.{chosen}
use Rattle.dj_meaning.specs.StaticTypes.{Scope}
use Rattle.dj_typing.specs.Sites.{Site, is_whole, may_name_type}
use Rattle.dj_typing.specs.Expressions.{has_super, means_abstract}
use Rattle.dj_blocks_formed.specs.Formed.{constants_of}
use Rattle.dj_members_shown.specs.Meant.{exact, asked_of, Receiver, IsLawful, lawful_new, lawful_construct, lawful_private, lawful_super, lawful_interface}
use Rattle.dj_members_shown.proofs.Dressing.{one-type, type-itself}
use Rattle.dj_rebuilding.specs.Pending.{Typed, and_then}
use Rattle.dj_blocks_formed.specs.Ruled.{IsRuled, AreRuledOperands}
use Rattle.dj_blocks_formed.proofs.Blocks.{made-if, both-are}
use Rattle.dj_member_nodes.specs.Going.{may_be_given}
use Rattle.dj_member_nodes.specs.Nodes.{given_to, object_call, is_this, is_above, super_call, special_call}
use Rattle.dj_member_nodes.specs.Named as behind_super
use Rattle.dj_member_nodes.specs.Named.{MethodIsNamed, RootsAreNamed, IsBehindSuper}
use Rattle.dj_member_nodes.proofs.Fitting.{given-fit}
use Rattle.dj_member_nodes.proofs.Calls.{IsCall, object-called, super-called-at}

-- `this` may stand where it keeps the rules
this-there : (site : Site) (n : ℕ) (scope : Scope) (type : StaticType) (exp : Exp) → is_this exp ≡ true → IsRuled site n scope type exp → site.has_this ≡ true
this-there site n scope type (trees.Int number) e h = absurd (cc)
this-there site n scope type (trees.Long number) e h = absurd (cc)
this-there site n scope type (Text units) e h = absurd (cc)
this-there site n scope type (Truth known) e h = absurd (cc)
this-there site n scope type trees.Null e h = absurd (cc)
this-there site n scope type This e h = (h.keeps 0).0
this-there site n scope type (Variable variable) e h = absurd (cc)
this-there site n scope type (ClassOf kind) e h = absurd (cc)
this-there site n scope type (Field object name) e h = absurd (cc)
this-there site n scope type (Static class name) e h = absurd (cc)
this-there site n scope type (Element array index) e h = absurd (cc)
this-there site n scope type (Call object name arguments) e h = absurd (cc)
this-there site n scope type (StaticCall class name arguments) e h = absurd (cc)
this-there site n scope type (SuperCall above name arguments) e h = absurd (cc)
this-there site n scope type (New class arguments) e h = absurd (cc)
this-there site n scope type (NewArray kind sizes more) e h = absurd (cc)
this-there site n scope type (Cast kind operand) e h = absurd (cc)
this-there site n scope type (InstanceOf operand kind) e h = absurd (cc)
this-there site n scope type (Negative operand) e h = absurd (cc)
this-there site n scope type (Not operand) e h = absurd (cc)
this-there site n scope type (Binary operator first second) e h = absurd (cc)
this-there site n scope type (Choice test first second) e h = absurd (cc)
this-there site n scope type (Assign variable new) e h = absurd (cc)

-- one class of two types
pub same-class : (first second : Name) → Class first ≡ Class second → first ≡ second
same-class first second e = let some : Some first ≡ Some second = ap class_of e in cc

module _ (site : Site) (n : ℕ) (scope : Scope) (roots : RootsAreNamed site) (method : MethodRef) (named : MethodIsNamed site method)
    (concrete : is_constructor method.name ≡ false → (above : Option Name) → IsBehindSuper site method above → means_abstract site above method.name (Some (exact (parameters_of method.descriptor))) ≡ false) where
  abbrev Called : Exp → Type 0
  Called exp = IsCall site n scope (result_of method.descriptor) exp

  -- the superclass from which on the machine looks
  record LooksAbove : Type 0 where
    in_class : is_interface site.headers site.class ≡ false
    above : Name
    superclass : superclass_in (header_of site.headers site.class) ≡ Some above
    owner : special_owner site.headers site.class method ≡ Class above

  not-true : (test : Bool) → not test ≡ true → test ≡ false
  not-true true e = absurd (cc)
  not-true false e = refl

  looks-above : is_above (constants_of site) method ≡ true → LooksAbove
  looks-above e =
      let parts = and_parts (not (is_interface site.headers site.class)) (is_some_and (superclass_in (header_of site.headers site.class)) (λ above. is_type (special_owner site.headers site.class method) (Class above))) e in
      by (not-true (is_interface site.headers site.class) parts.0) (superclass_in (header_of site.headers site.class)) refl parts.1
    where
      by : is_interface site.headers site.class ≡ false → (found : Option Name) → superclass_in (header_of site.headers site.class) ≡ found → is_some_and found (λ above. is_type (special_owner site.headers site.class method) (Class above)) ≡ true → LooksAbove
      by plain None is f = absurd (cc)
      by plain (Some above) is f = record { in_class = plain; above = above; superclass = is; owner = one-type (special_owner site.headers site.class method) (Class above) f }

  above-looks : is_interface site.headers site.class ≡ false → (above : Name) → superclass_in (header_of site.headers site.class) ≡ Some above → special_owner site.headers site.class method ≡ Class above → is_above (constants_of site) method ≡ true
  above-looks plain above superclass owner =
      and_from (not (is_interface site.headers site.class)) (is_some_and (superclass_in (header_of site.headers site.class)) (λ one. is_type (special_owner site.headers site.class method) (Class one))) (ap not plain)
      (ap (λ found. is_some_and found (λ one. is_type (special_owner site.headers site.class method) (Class one))) superclass ∙ ap (λ type. is_type type (Class above)) owner ∙ type-itself (Class above))

  -- what a call behind `super` is made of
  record IsSuper (above : Option Name) : Type 0 where
    owner : Name
    super : has_super site above ≡ true
    meant : of_super site.headers site.members site.class above method.name (exact (parameters_of method.descriptor)) ≡ Some (asked_of Special (Class owner) method)
    stands : IsBehindSuper site method above

  -- behind `super` by either way
  super-called : is_constructor method.name ≡ false → (is_above (constants_of site) method ≡ true → IsSuper None) → (is_above (constants_of site) method ≡ false → (interface : Name) → class_of method.owner ≡ Some interface → IsSuper (Some interface))
      → (are : List Typed) (exp : Exp) → super_call (constants_of site) method are ≡ Some exp → AreRuledOperands site n scope are → Called exp
  super-called plain_name class interface [] exp e h = absurd (cc)
  super-called plain_name class interface (object ∷ are) exp e h = by (is_above (constants_of site) method) refl m.1
    where
      fit_all : Bool
      fit_all = may_be_given site.headers are (parameters_of method.descriptor)

      rest : Option Name → Exps
      rest searched = given_to (constants_of site) method method.name searched are

      chosen_way : Bool → Option Exp
      chosen_way test = if test then Some (SuperCall None method.name (rest (superclass_in (header_of site.headers site.class)))) else and_then (class_of method.owner) (λ interface. Some (SuperCall (Some interface) method.name (rest (Some interface))))

      m : (is_this object.1 && fit_all ≡ true) × (chosen_way (is_above (constants_of site) method) ≡ Some exp)
      m = made-if (is_this object.1 && fit_all) (chosen_way (is_above (constants_of site) method)) exp e

      parts : (is_this object.1 ≡ true) × (fit_all ≡ true)
      parts = and_parts (is_this object.1) fit_all m.0

      by : (test : Bool) → is_above (constants_of site) method ≡ test → chosen_way test ≡ Some exp → Called exp
      by true at f =
          let one = class at in
          let same : SuperCall None method.name (rest (superclass_in (header_of site.headers site.class))) ≡ exp = cc in
          subst Called same (super-called-at site n scope method None one.owner one.super (this-there site n scope object.0 object.1 parts.0 h.0) one.meant (concrete plain_name None one.stands) named plain_name are (given-fit site.headers are (parameters_of method.descriptor) parts.1) h.1)
      by false at f =
          let b = both-are (class_of method.owner) (λ interface. Some (SuperCall (Some interface) method.name (rest (Some interface)))) exp f in
          let one = interface at b.one b.is in
          let same : SuperCall (Some b.one) method.name (rest (Some b.one)) ≡ exp = (let some = b.then_is in cc) in
          subst Called same (super-called-at site n scope method (Some b.one) one.owner one.super (this-there site n scope object.0 object.1 parts.0 h.0) one.meant (concrete plain_name (Some b.one) one.stands) named plain_name are (given-fit site.headers are (parameters_of method.descriptor) parts.1) h.1)

  abbrev by_owner : Bool → List Typed → Option Exp
  by_owner test are = if test then object_call (constants_of site) method are else super_call (constants_of site) method are

  abbrev by_name : Bool → List Typed → Option Exp
  by_name test are = if test then None else by_owner (is_type method.owner (Class site.class)) are

  -- a name that isn't a constructor's
  named-plainly : is_constructor method.name ≡ false → (are : List Typed) (exp : Exp) → special_call (constants_of site) method are ≡ Some exp → by_owner (is_type method.owner (Class site.class)) are ≡ Some exp
  named-plainly plain_name are exp e = sym (ap (λ test. by_name test are) plain_name) ∙ e

  no-constructor : is_constructor method.name ≡ true → (are : List Typed) (exp : Exp) → special_call (constants_of site) method are ≡ Some exp → ⊥
  no-constructor constructs are exp e = let none : None ≡ Some exp = sym (ap (λ test. by_name test are) constructs) ∙ e in absurd (cc)

  pub special-called : (receiver : Receiver) → IsLawful site.headers site.members site.class method receiver → (are : List Typed) (exp : Exp) → special_call (constants_of site) method are ≡ Some exp → AreRuledOperands site n scope are → Called exp
  special-called receiver (lawful_new is) are exp e h = absurd (no-constructor is.constructs are exp e)
  special-called receiver (lawful_construct is) are exp e h = absurd (no-constructor is.constructs are exp e)
  special-called receiver (lawful_private owner plain_name is) are exp e h =
      let own : is_type method.owner (Class site.class) ≡ true = ap (λ type. is_type type (Class site.class)) owner ∙ type-itself (Class site.class) in
      let made : object_call (constants_of site) method are ≡ Some exp = sym (ap (λ test. by_owner test are) own) ∙ named-plainly plain_name are exp e in
      let plain_result : result (asked_of Special method.owner method) ≡ result_of method.descriptor =
      ap (λ type. if is_array_clone type method.name (parameters_of method.descriptor) then Some method.owner else result_of method.descriptor) owner in
      subst (λ given. IsCall site n scope given exp) plain_result (object-called site n scope Special method is named plain_name are exp made h)
  special-called receiver (lawful_super is) are exp e h = by (is_type method.owner (Class site.class)) refl (named-plainly is.plain are exp e)
    where
      by : (test : Bool) → is_type method.owner (Class site.class) ≡ test → by_owner test are ≡ Some exp → Called exp
      by true at f =
          let owner = one-type method.owner (Class site.class) at in
          let same = same-class site.class is.above (sym owner ∙ sym (roots.own method owner) ∙ is.owner) in
          absurd (roots.above (is.superclass ∙ ap Some (sym same)))
      by false at f =
          super-called is.plain (λ above. record { owner = is.above; super = ap not is.in_class; meant = is.meant; stands = behind_super.class is.in_class is.superclass is.owner })
          (λ other interface named_so. absurd (true≢false (sym (above-looks is.in_class is.above is.superclass is.owner) ∙ other))) are exp f h
  special-called receiver (lawful_interface is) are exp e h = by (is_type method.owner (Class site.class)) refl (named-plainly is.plain are exp e)
    where
      from_above : Name → Option Target
      from_above above =
          option_and_then (λ one. option_and_then (λ kind. Some (target (Class above) one kind)) (by_flags site.headers one Special))
          (chosen site.headers site.members (record { from = site.class; class = above; through = None; name = method.name; arguments = exact (parameters_of method.descriptor) }))

      lists : Bool
      lists = list_any (λ listed. is_name listed is.interface) (interfaces_of site.headers site.class)

      says : has_super site (Some is.interface) ≡ true
      says = and_from lists (site.can_say is.interface) is.listed
          (and_parts (site.can_say is.interface) (is_whole site.headers is.interface) (sym (ap (may_name_type site) is.owner) ∙ named.owner)).0

      behind : (found : Option Name) → superclass_in (header_of site.headers site.class) ≡ found → found ≡ Some is.interface → of_super site.headers site.members site.class None method.name (exact (parameters_of method.descriptor)) ≡ Some (asked_of Special (Class is.interface) method)
      behind found at same = ap (option_and_then from_above) (at ∙ same) ∙ is.meant

      by : (test : Bool) → is_type method.owner (Class site.class) ≡ test → by_owner test are ≡ Some exp → Called exp
      by true at f =
          let same = same-class site.class is.interface (sym (one-type method.owner (Class site.class) at) ∙ is.owner) in
          absurd (true≢false (sym is.listed ∙ ap (λ class. list_any (λ name. is_name name class) (interfaces_of site.headers site.class)) (sym same) ∙ roots.listed))
      by false at f =
          super-called is.plain
          (λ above. let looks = looks-above above in
          let same = same-class looks.above is.interface (sym looks.owner ∙ is.own ∙ is.owner) in
          record { owner = is.interface; super = ap not looks.in_class; meant = behind (superclass_in (header_of site.headers site.class)) refl (looks.superclass ∙ ap Some same); stands = behind_super.class looks.in_class looks.superclass looks.owner })
          (λ other interface named_so.
          let same : is.interface ≡ interface = (let some : Some is.interface ≡ Some interface = sym (ap class_of is.owner) ∙ named_so in cc) in
          subst (λ one. IsSuper (Some one)) same (record { owner = is.interface; super = says; meant = is.meant; stands = behind_super.interface is.owner is.listed })) are exp f h
