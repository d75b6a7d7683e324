-- By which expression `invokespecial` is rebuilt: a call on an object of a private method of this class, or one behind `super`.
use Rattle.std.proofs.Common.{◌≡◌, Bool, true, false, not, if◌then◌else◌, inl, inr, ◌⊎◌, List, Option, Some, None, option_and_then, refl, sym, ap, subst, ◌∙◌}
use Rattle.std.specs.List.{list_any}
use Rattle.std.proofs.lemmas.Bool.{and_parts, and_from, not-true, true≢false}
use Rattle.dj_names.specs.Headers.{Name}
use Rattle.dj_names.specs.MethodNames.{is_constructor}
use Rattle.dj_names.specs.Types.{Class, parameters_of}
use Rattle.dj_kinds.specs.Search.{header_of, superclass_in, interfaces_of}
use Rattle.dj_syntax.specs.Trees.{Exp}
use Rattle.dj_instructions.specs.Instructions.{MethodRef}
use Rattle.dj_values.specs.Values.{Special}
use Rattle.dj_values.specs.Fits.{class_of}
use Rattle.dj_values.specs.Deciding.{is_name, is_type, is_interface, is_some_and}
use Rattle.dj_bytecode.specs.Objects.{special_owner}
use Rattle.dj_meaning.specs.Calls.{chosen}
use Rattle.dj_meaning.specs.Targets.{Target, target, by_flags}
use Rattle.dj_typing.specs.Sites.{Site}
use Rattle.dj_rebuilding.specs.Pending.{Typed}
use Rattle.dj_blocks_formed.specs.Formed.{constants_of}
use Rattle.dj_members_shown.specs.Meant.{exact, asked_of, is_abstract_above, Receiver, IsOfObject, IsOfSuper, IsOfInterface, IsLawful, lawful_new, lawful_construct, lawful_private, lawful_super, lawful_interface}
use Rattle.dj_members_shown.proofs.Dressing.{one-type, type-itself}
use Rattle.dj_member_nodes.specs.Nodes.{object_call, super_call, special_call, is_above}
use Rattle.dj_member_nodes.specs.Named.{RootsAreNamed}
use Rattle.dj_member_nodes.proofs.Special.{same-class}

module _ (site : Site) (roots : RootsAreNamed site) (method : MethodRef) where
  -- the superclass from which on the machine looks
  record LooksAbove : Type 0 where
    in_class : is_interface site.headers site.class ≡ false
    above : Name
    superclass : superclass_in (header_of site.headers site.class) ≡ Some above
    owner : special_owner site.headers site.class method ≡ Class above

  looks-above : is_above (constants_of site) method ≡ true → LooksAbove
  looks-above e =
      let parts = and_parts (not (is_interface site.headers site.class)) (is_some_and (superclass_in (header_of site.headers site.class)) (λ above. is_type (special_owner site.headers site.class method) (Class above))) e in
      by (not-true (is_interface site.headers site.class) parts.0) (superclass_in (header_of site.headers site.class)) refl parts.1
    where
      by : is_interface site.headers site.class ≡ false → (found : Option Name) → superclass_in (header_of site.headers site.class) ≡ found → is_some_and found (λ above. is_type (special_owner site.headers site.class method) (Class above)) ≡ true → LooksAbove
      by plain None is f = absurd (cc)
      by plain (Some above) is f = record { in_class = plain; above = above; superclass = is; owner = one-type (special_owner site.headers site.class method) (Class above) f }

  above-looks : is_interface site.headers site.class ≡ false → (above : Name) → superclass_in (header_of site.headers site.class) ≡ Some above → special_owner site.headers site.class method ≡ Class above → is_above (constants_of site) method ≡ true
  above-looks plain above superclass owner =
      and_from (not (is_interface site.headers site.class)) (is_some_and (superclass_in (header_of site.headers site.class)) (λ one. is_type (special_owner site.headers site.class method) (Class one))) (ap not plain)
      (ap (λ found. is_some_and found (λ one. is_type (special_owner site.headers site.class method) (Class one))) superclass ∙ ap (λ type. is_type type (Class above)) owner ∙ type-itself (Class above))

  -- ---- the ways

  -- a private method of this class
  pub record IsPrivate (are : List Typed) (exp : Exp) : Type 0 where
    pub owner : method.owner ≡ Class site.class
    pub is : IsOfObject site.headers site.members site.class Special method
    pub made : object_call (constants_of site) method are ≡ Some exp

  -- one behind `super`: of the superclass, or of an interface
  pub record IsBehind (are : List Typed) (exp : Exp) : Type 0 where
    pub class : is_above (constants_of site) method ≡ true → IsOfSuper site.headers site.members site.class method
    pub interface : is_above (constants_of site) method ≡ false → (interface : Name) → class_of method.owner ≡ Some interface → IsOfInterface site.headers site.members site.class method
    pub made : super_call (constants_of site) method are ≡ Some exp

  abbrev by_owner : Bool → List Typed → Option Exp
  by_owner test are = if test then object_call (constants_of site) method are else super_call (constants_of site) method are

  abbrev by_name : Bool → List Typed → Option Exp
  by_name test are = if test then None else by_owner (is_type method.owner (Class site.class)) are

  -- a name that isn't a constructor's
  named-plainly : is_constructor method.name ≡ false → (are : List Typed) (exp : Exp) → special_call (constants_of site) method are ≡ Some exp → by_owner (is_type method.owner (Class site.class)) are ≡ Some exp
  named-plainly plain_name are exp e = sym (ap (λ test. by_name test are) plain_name) ∙ e

  no-constructor : is_constructor method.name ≡ true → (are : List Typed) (exp : Exp) → special_call (constants_of site) method are ≡ Some exp → ⊥
  no-constructor constructs are exp e = let none : None ≡ Some exp = sym (ap (λ test. by_name test are) constructs) ∙ e in absurd (cc)

  -- a default method that is looked for from the superclass on is one of the superclass too
  as-super : IsOfInterface site.headers site.members site.class method → is_above (constants_of site) method ≡ true → IsOfSuper site.headers site.members site.class method
  as-super is above =
      let looks = looks-above above in
      let same = same-class looks.above is.interface (sym looks.owner ∙ is.own ∙ is.owner) in
      record {
        plain = is.plain;
        in_class = looks.in_class;
        above = looks.above;
        superclass = looks.superclass;
        owner = looks.owner;
        meant = ap (option_and_then from_above) looks.superclass ∙ subst (λ class. from_above class ≡ Some (asked_of Special (Class class) method)) (sym same) is.meant;
        concrete = subst (λ class. is_abstract_above site.headers site.members site.class class method ≡ false) (sym same) is.concrete;
      }
    where
      from_above : Name → Option Target
      from_above above =
          option_and_then (λ one. option_and_then (λ kind. Some (target (Class above) one kind)) (by_flags site.headers one Special))
          (chosen site.headers site.members (record { from = site.class; class = above; through = None; name = method.name; arguments = exact (parameters_of method.descriptor) }))

  pub special-way : (receiver : Receiver) → IsLawful site.headers site.members site.class method receiver → (are : List Typed) (exp : Exp) → special_call (constants_of site) method are ≡ Some exp → IsPrivate are exp ⊎ IsBehind are exp
  special-way receiver (lawful_new is) are exp e = absurd (no-constructor is.constructs are exp e)
  special-way receiver (lawful_construct is) are exp e = absurd (no-constructor is.constructs are exp e)
  special-way receiver (lawful_private owner plain_name is) are exp e =
      let own : is_type method.owner (Class site.class) ≡ true = ap (λ type. is_type type (Class site.class)) owner ∙ type-itself (Class site.class) in
      inl (record { owner = owner; is = is; made = sym (ap (λ test. by_owner test are) own) ∙ named-plainly plain_name are exp e })
  special-way receiver (lawful_super is) are exp e = by (is_type method.owner (Class site.class)) refl (named-plainly is.plain are exp e)
    where
      by : (test : Bool) → is_type method.owner (Class site.class) ≡ test → by_owner test are ≡ Some exp → IsPrivate are exp ⊎ IsBehind are exp
      by true at f =
          let owner = one-type method.owner (Class site.class) at in
          let same = same-class site.class is.above (sym owner ∙ sym (roots.own method owner) ∙ is.owner) in
          absurd (roots.above (is.superclass ∙ ap Some (sym same)))
      by false at f = inr (record { class = λ above. is; interface = λ other interface named. absurd (true≢false (sym (above-looks is.in_class is.above is.superclass is.owner) ∙ other)); made = f })
  special-way receiver (lawful_interface is) are exp e = by (is_type method.owner (Class site.class)) refl (named-plainly is.plain are exp e)
    where
      by : (test : Bool) → is_type method.owner (Class site.class) ≡ test → by_owner test are ≡ Some exp → IsPrivate are exp ⊎ IsBehind are exp
      by true at f =
          let same = same-class site.class is.interface (sym (one-type method.owner (Class site.class) at) ∙ is.owner) in
          absurd (true≢false (sym is.listed ∙ ap (λ class. list_any (λ name. is_name name class) (interfaces_of site.headers site.class)) (sym same) ∙ roots.listed))
      by false at f = inr (record { class = as-super is; interface = λ other interface named. is; made = f })
