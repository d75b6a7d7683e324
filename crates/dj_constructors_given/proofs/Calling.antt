-- The call of another constructor on `this` names this class where source says `this(..)`, and the one above it where source says `super(..)`.
use Rattle.std.proofs.Common.{◌≡◌, Bool, true, false, List, [], ◌∷◌, Option, Some, None, inl, inr, refl, sym, ap, subst, ◌∙◌}
use Rattle.std.specs.Prelude.{if◌then◌else◌, map, codes}
use Rattle.std.specs.Option.{option_and_then}
use Rattle.std.proofs.lemmas.Bool.{cases_Bool}
use Rattle.dj_names.specs.declared.header.Header.{Header}
use Rattle.dj_names.specs.Headers.{Name}
use Rattle.dj_names.specs.Types.{JType, Class, Of, parameters_of}
use Rattle.dj_instructions.specs.Instructions.{MethodRef}
use Rattle.dj_kinds.specs.Search.{header_of, superclass_in}
use Rattle.dj_values.specs.Values.{Special}
use Rattle.dj_values.specs.Deciding.{is_type}
use Rattle.dj_meaning.specs.Members.{Members, is_of_class}
use Rattle.dj_meaning.specs.Calls.{MethodIn, chosen}
use Rattle.dj_meaning.specs.Targets.{Target, target, of_construct}
use Rattle.dj_typing.specs.Sites.{Site}
use Rattle.dj_widened.specs.Meant.{AreAllWhole}
use Rattle.dj_blocks_formed.proofs.Spilled.{named-whole}
use Rattle.dj_meant.specs.Meant.{exact, asked_of, IsOfConstruct}
use Rattle.dj_members_shown.proofs.Dressing.{one-type, type-itself}
use Rattle.dj_member_nodes.specs.Named.{AreNamed}

one_class : (one other : Name) → Class one ≡ Class other → one ≡ other
one_class one other e = cc

one_target : (one other : Target) → Some one ≡ Some other → one ≡ other
one_target one other e = cc

-- a constructor that is found in a class is called by that class's name
owner_same : (class named : Name) (method : MethodRef) (found : Option MethodIn)
    → option_and_then (λ (one : MethodIn). if is_of_class one.method.flags then None else Some (target (Class class) one Special)) found ≡ Some (asked_of Special (Class named) method) → class ≡ named
owner_same class named method None e = absurd (cc)
owner_same class named method (Some one) e = by (is_of_class one.method.flags) e
  where
    by : (of_class : Bool) → (if of_class then None else Some (target (Class class) one Special)) ≡ Some (asked_of Special (Class named) method) → class ≡ named
    by true e = absurd (cc)
    by false e = one_class class named (ap (λ (one : Target). one.owner) (one_target (target (Class class) one Special) (asked_of Special (Class named) method) e))

module _ (headers : List Header) (members : List Members) (from : Name) (method : MethodRef) (is : IsOfConstruct headers members from method) where
  abbrev named : Option Target
  named = Some (asked_of Special (Class is.class) method)

  -- the constructor that source means in a class
  abbrev found_in : Name → Option MethodIn
  found_in class = chosen headers members (record { from = from; class = class; through = None; name = codes "<init>"; arguments = exact (parameters_of method.descriptor) })

  abbrev meant_in : Name → Option Target
  meant_in class = option_and_then (λ (one : MethodIn). if is_of_class one.method.flags then None else Some (target (Class class) one Special)) (found_in class)

  -- of this class
  this_class : meant_in from ≡ named → from ≡ is.class
  this_class meant = owner_same from is.class method (found_in from) meant

  -- of the one above it
  super_class : (found : Option Name) → option_and_then meant_in found ≡ named → found ≡ Some is.class
  super_class None meant = absurd (cc)
  super_class (Some upper) meant = ap Some (owner_same upper is.class method (found_in upper) meant)

  abbrev IsMeant : Bool → Type 0
  IsMeant own = of_construct headers members from own (exact (parameters_of method.descriptor)) ≡ named

  -- so the name tells which of them it is, as no class is its own superclass
  pub told_by : ¬ (superclass_in (header_of headers from) ≡ Some from) → is.own ≡ is_type method.owner (Class from)
  told_by no_circle = by is.own refl
    where
      by : (own : Bool) → is.own ≡ own → is.own ≡ is_type method.owner (Class from)
      by true own =
          let same : method.owner ≡ Class from = is.owner ∙ ap Class (sym (this_class (subst IsMeant own is.meant))) in
          own ∙ sym (ap (λ type. is_type type (Class from)) same ∙ type-itself (Class from))
      by false own = elim (cases_Bool (is_type method.owner (Class from))) [
        | inl same ↦ absurd (no_circle (super_class (superclass_in (header_of headers from)) (subst IsMeant own is.meant) ∙ ap Some (one_class is.class from (sym is.owner ∙ one-type method.owner (Class from) same))))
        | inr other ↦ own ∙ sym other
      ]

-- types that can be named are whole
pub all_whole : (site : Site) (parameters : List JType) → AreNamed site parameters → AreAllWhole site.headers (map Of parameters)
all_whole site [] may_name = tt
all_whole site (first ∷ rest) may_name = (named-whole site first may_name.0, all_whole site rest may_name.1)
