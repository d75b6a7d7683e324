-- The rules on an expression, looked at one by one.
use Rattle.std.proofs.Common.{◌≡◌, ℕ, ◌==◌, Bool, not, List, [], ◌∷◌, length, Option, Some, None, refl, ap, ◌∙◌, arith}
use Rattle.std.specs.Prelude.{option_map, is_some}
use Rattle.std.proofs.lemmas.Bool.{false_from_ne_true, eqb-true}
use Rattle.dj_names.specs.Headers.{Name}
use Rattle.dj_names.specs.Types as types
use Rattle.dj_names.specs.Types.{StaticType, Of}
use Rattle.dj_syntax.specs.declared.expression.Exp as code_exp
use Rattle.dj_syntax.specs.Trees.{view_exps}
use Rattle.dj_syntax.specs.WellFormedTrees.{has_no_exp}
use Rattle.dj_meaning.specs.Fields.{KnownField, Selection, selected}
use Rattle.dj_meaning.specs.StaticTypes.{plain, typed, selection_type, object_target}
use Rattle.dj_meaning.specs.Targets.{Target}
use Rattle.dj_places.specs.declared.kind.TypeKind.{TypeKind}
use Rattle.dj_places.specs.declared.kind.TypeKind.TheVariants as kinds
use Rattle.dj_typing.specs.Sites.{Site, context_of}
use Rattle.dj_typing.specs.Operands.{if_typed}
use Rattle.dj_typing.specs.Expressions.{selects, gives_value, is_meant}
use Rattle.dj_checked.specs.declared.walk.Walk.{Walk}
use Rattle.dj_checked.specs.Walks.{step, note, note_whole, note_value, field_type, is_called}

-- ---- what a type tells of what it is the type of

is_some_selection : (found : Option Selection) → is_some (typed (option_map selection_type found)) ≡ is_some found
is_some_selection None = refl
is_some_selection (Some selection) = refl

pub is_some_field : (found : Option KnownField) → is_some (typed (option_map (λ (field : KnownField). field.type) found)) ≡ is_some found
is_some_field None = refl
is_some_field (Some field) = refl

-- a name selects something where what it selects has a type
pub selects_is : (site : Site) (name : Name) (object found : Option StaticType) → found ≡ field_type site name object → if_typed object (λ _. is_some found) ≡ if_typed object (selects site name)
selects_is site name None found is = refl
selects_is site name (Some types.Null) found is = ap is_some is
selects_is site name (Some (Of type)) found is = ap is_some is ∙ is_some_selection (selected site.headers site.members site.class name type)

-- some method is meant where there is a target
pub called_is : (site : Site) (name : Name) (object : Option StaticType) (given : Option (List StaticType)) (target : Option Target)
    → target ≡ object_target (context_of site) name (plain object) given → if_typed object (λ _. is_meant given target) ≡ is_called site name object given
called_is site name None given target is = refl
called_is site name (Some type) given target is = ap (is_meant given) is

-- there is a size
pub sized_is : (sizes : List code_exp.Exp) (count : ℕ) → count ≡ length sizes → not (count == 0) ≡ not (has_no_exp (view_exps sizes))
sized_is [] count is = ap (λ (n : ℕ). not (n == 0)) is
sized_is (size ∷ sizes) count is = ap not (false_from_ne_true (count == 0) (λ same. let none : count ≡ 0 = eqb-true count 0 same in absurd (omega (arith, is, none))))

-- ---- rules, one behind another

-- on an expression without parts
pub leaf_noted : (rules : ℕ → Option StaticType → Walk → Walk) (before : Walk) (type : Option StaticType) {start behind : Walk} {place : ℕ} {found : Option StaticType}
    → start ≡ step before → place ≡ before.place → found ≡ type → behind ≡ rules place found start → behind ≡ rules before.place type (step before)
leaf_noted rules before type begun at typed noted = noted ∙ (λ i. rules (at i) (typed i) (begun i))

module _ (place : ℕ) (kind other : TypeKind) (before : Walk) (kept also : Bool) where
  pub both_noted : {one two : Walk} {first second : Bool} → one ≡ note place kind first before → first ≡ kept → two ≡ note place other second one → second ≡ also
      → two ≡ note place other also (note place kind kept before)
  both_noted noted is more so = more ∙ (λ i. note place other (so i) ((noted ∙ (λ j. note place kind (is j) before)) i))

  pub whole_noted : (site : Site) (type : Option StaticType) {one two three : Walk} {first second : Bool} {found : Option StaticType} → one ≡ note place kind first before → first ≡ kept
      → two ≡ note place other second one → second ≡ also → three ≡ note_whole site place found two → found ≡ type
      → three ≡ note_whole site place type (note place other also (note place kind kept before))
  whole_noted site type noted is more so last typed = last ∙ (λ i. note_whole site place (typed i) (both_noted noted is more so i))

-- the rule on the value of a call, behind those on the call itself
pub value_noted : (place : ℕ) (target : Option Target) {last before base : Walk} {gives : Bool} → last ≡ note place kinds.WrongType gives before → gives ≡ gives_value target → before ≡ base → last ≡ note_value place target base
value_noted place target noted is before = noted ∙ (λ i. note place kinds.WrongType (is i) (before i))
