-- One walk over the statements of a body finds the first fault of the rules on them.
use Rattle.std.proofs.Common.{◌≡◌, ◌+◌, ℕ, Bool, not, ◌&&◌, [], ◌∷◌, Option, Some, None, refl, sym, ap, ◌∙◌, arith}
use Rattle.dj_names.specs.Types.{Class}
use Rattle.dj_syntax.specs.Trees.{Exp, Text, Truth, Null, This, Variable, ClassOf, Field, Static, Element, Call, StaticCall, SuperCall, New, NewArray, Cast, InstanceOf, Negative, Not, Binary, Choice, Assign, Exps, Stm, Block, Labelled, Declare, Set, SetField, SetStatic, SetElement, Run, If, While, Switch, Throw, Rethrow, Try, Synchronized, Construct, Do, For, Finally, Stms, Empty, And, Groups, NoGroups, AndGroup, Catches, NoCatches, AndCatch, Body}
use Rattle.dj_syntax.specs.Trees as trees
use Rattle.dj_syntax.specs.Weight.{weight_of, weight_of_exp, weight_of_exps, weight_of_value, weight_of_stms, weight_of_groups, weight_of_catches}
use Rattle.dj_syntax.specs.WellFormedTrees.{is_call, is_declaration, has_no_group, has_no_catch}
use Rattle.dj_values.specs.Deciding.{is_reference}
use Rattle.dj_meaning.specs.StaticTypes.{Scope, with_type, typed, type_of}
use Rattle.dj_meaning.specs.Declarations.{declared, within, behind}
use Rattle.dj_meaning.specs.Statements.{Place, First, Behind, Elsewhere}
use Rattle.dj_places.specs.Places.{told}
use Rattle.dj_places.specs.declared.kind.TypeKind.TheVariants as kinds
use Rattle.dj_reach.specs.declared.jump.Jump.TheVariants.{Break, Continue}
use Rattle.dj_reach.specs.Jumps.{is_one_of}
use Rattle.dj_faults.specs.declared.fault.Fault.{Fault}
use Rattle.dj_faults.specs.Faults.{lower, first_fault}
use Rattle.dj_faults.specs.FirstFault.{IsFirstFault}
use Rattle.dj_faults.proofs.FaultLemmas.{lower_assoc, none_broken, first_is}
use Rattle.dj_places.specs.Rules.{Rules, Rule, ◌and◌, Holds}
use Rattle.dj_thrown.specs.Bodies.{scope_in}
use Rattle.dj_typing.specs.Sites.{Site, context_of, may_name}
use Rattle.dj_typing.specs.Operands.{is_of, if_typed}
use Rattle.dj_typing.specs.Expressions.{goes, exp_types}
use Rattle.dj_typed.specs.Stores.{may_set_of, may_set_static, set_type, set_static_type}
use Rattle.dj_typed.specs.Switches.{are_formed}
use Rattle.dj_typed.specs.Statements.{Around, with_targets, in_loop, exp_goes, option_goes, option_types, is_test, is_named, is_new, throwable, returns, sets_element, is_on_int, may_construct, means_constructor, without_this, are_new_catches, are_exceptions, stm_types, list_types, catches_types, groups_types, all_types}
use Rattle.dj_checked.specs.declared.walk.Walk.{Walk}
use Rattle.dj_checked.specs.Walks.{step, note, pass_exp, opening}
use Rattle.dj_checked.proofs.CheckedLaw.{Passes, in_turn, ends_at, finds, nothing, stepped, found_at, one_rule, two_rules, three_rules, one_alone, two_alone, exp_passes, exps_pass, effect_passes}
use Rattle.dj_body_types.specs.Walks.{pass_option, pass_label, pass_test, pass_on, pass_try, pass_monitor, pass_for, pass, pass_list, pass_catches, pass_groups, pass_all}

-- what is found of two rules in front of other parts
two_in_front : (a b c d : Option Fault) → lower (lower a (lower b c)) d ≡ lower a (lower b (lower c d))
two_in_front a b c d = lower_assoc a (lower b c) d ∙ ap (lower a) (lower_assoc b c d)

option_passes : (site : Site) (scope : Scope) (exp : Option Exp) (walk : Walk) (place : ℕ) → walk.place ≡ told place
    → Passes walk (pass_option site scope exp walk) (place + weight_of_value exp) (first_fault (option_types site scope place exp))
option_passes site scope None walk place is = nothing walk place is
option_passes site scope (Some exp) walk place is = exp_passes site scope exp walk place is

mutual
  pub passes : (around : Around) (at : Place) (scope : Scope) (statement : Stm) (walk : Walk) (place : ℕ) → walk.place ≡ told place
      → Passes walk (pass around at scope statement walk) (place + weight_of statement) (first_fault (stm_types around at scope place statement))
  passes around at scope (Block list) walk place is =
      let begins = stepped walk place is in
      let one = passes_list around scope list (step walk) (place + 1) begins.place in
      ends_at (in_turn begins one) (place + (1 + weight_of_stms list)) (omega arith)
  passes around at scope (Labelled label statement) walk place is =
      let named = not (is_declaration statement) in
      let free = not (is_one_of (Break label) around.targets) in
      let begins = two_alone walk place is kinds.Name kinds.Label named free in
      let inner = with_targets (Break label ∷ []) around in
      let one = passes inner (Behind label) scope statement (pass_label around.targets label statement walk) (place + 1) begins.place in
      finds (ends_at (in_turn begins one) (place + (1 + weight_of statement)) (omega arith)) _
      (lower_assoc (found_at place kinds.Name named) (found_at place kinds.Label free) (first_fault (stm_types inner (Behind label) scope (place + 1) statement)))
  passes around at scope (Declare variable kind initial) walk place is =
      let begins = stepped walk place is in
      let open_scope = with_type variable kind scope in
      let one = option_passes around.site open_scope initial (step walk) (place + 1) begins.place in
      let all = ends_at (in_turn begins one) (place + (1 + weight_of_value initial)) (omega arith) in
      two_rules all place walk.place is kinds.Name kinds.WrongType (is_new around.site scope variable kind) (option_goes around.site open_scope initial (Some kind))
  passes around at scope (Set variable new) walk place is =
      let begins = stepped walk place is in
      let one = exp_passes around.site scope new (step walk) (place + 1) begins.place in
      let all = ends_at (in_turn begins one) (place + (1 + weight_of_exp new)) (omega arith) in
      two_rules all place walk.place is kinds.Name kinds.WrongType (is_named around.site scope variable) (exp_goes around.site scope new (scope variable))
  passes around at scope (SetField object name new) walk place is =
      let begins = stepped walk place is in
      let one = exp_passes around.site scope object (step walk) (place + 1) begins.place in
      let two = exp_passes around.site scope new (pass_exp around.site scope object (step walk)) (place + 1 + weight_of_exp object) one.place in
      let all = ends_at (in_turn begins (in_turn one two)) (place + (1 + (weight_of_exp object + weight_of_exp new))) (omega arith) in
      let found = type_of (context_of around.site) scope object in
      three_rules all place walk.place is kinds.Name kinds.Access kinds.WrongType (around.site.can_name name) (if_typed found (may_set_of around.site name)) (exp_goes around.site scope new (set_type around.site name found))
  passes around at scope (SetStatic class name new) walk place is =
      let begins = stepped walk place is in
      let one = exp_passes around.site scope new (step walk) (place + 1) begins.place in
      let all = ends_at (in_turn begins one) (place + (1 + weight_of_exp new)) (omega arith) in
      three_rules all place walk.place is kinds.Name kinds.Access kinds.WrongType (may_name around.site class && around.site.can_name name) (may_set_static around.site class name)
      (exp_goes around.site scope new (set_static_type around.site class name))
  passes around at scope (SetElement array index new) walk place is =
      let begins = stepped walk place is in
      let one = exp_passes around.site scope array (step walk) (place + 1) begins.place in
      let two = exp_passes around.site scope index (pass_exp around.site scope array (step walk)) (place + 1 + weight_of_exp array) one.place in
      let three = exp_passes around.site scope new (pass_exp around.site scope index (pass_exp around.site scope array (step walk))) (place + 1 + weight_of_exp array + weight_of_exp index) two.place in
      let all = ends_at (in_turn begins (in_turn one (in_turn two three))) (place + (1 + (weight_of_exp array + (weight_of_exp index + weight_of_exp new)))) (omega arith) in
      one_rule all place walk.place is kinds.WrongType (sets_element around.site scope array index new)
  passes around at scope (Run call) walk place is =
      let begins = stepped walk place is in
      let one = effect_passes around.site scope call (step walk) (place + 1) begins.place in
      let all = ends_at (in_turn begins one) (place + (1 + weight_of_exp call)) (omega arith) in
      one_rule all place walk.place is kinds.Name (is_call call)
  passes around at scope (If test first second) walk place is =
      let begins = stepped walk place is in
      let one = exp_passes around.site scope test (step walk) (place + 1) begins.place in
      let tested = one_rule (in_turn begins one) place walk.place is kinds.WrongType (is_test around.site scope test) in
      let start = pass_test around.site scope walk.place test (step walk) in
      let two = passes_list around scope first start (place + 1 + weight_of_exp test) tested.place in
      let three = passes_list around scope second (pass_list around scope first start) (place + 1 + weight_of_exp test + weight_of_stms first) two.place in
      finds (ends_at (in_turn tested (in_turn two three)) (place + (1 + (weight_of_exp test + (weight_of_stms first + weight_of_stms second)))) (omega arith)) _
      (lower_assoc (found_at place kinds.WrongType (is_test around.site scope test)) (first_fault (exp_types around.site scope (place + 1) test)) _)
  passes around at scope (While test body) walk place is =
      let begins = stepped walk place is in
      let one = exp_passes around.site scope test (step walk) (place + 1) begins.place in
      let tested = one_rule (in_turn begins one) place walk.place is kinds.WrongType (is_test around.site scope test) in
      let two = passes_list (in_loop at around) scope body (pass_test around.site scope walk.place test (step walk)) (place + 1 + weight_of_exp test) tested.place in
      finds (ends_at (in_turn tested two) (place + (1 + (weight_of_exp test + weight_of_stms body))) (omega arith)) _
      (lower_assoc (found_at place kinds.WrongType (is_test around.site scope test)) (first_fault (exp_types around.site scope (place + 1) test)) _)
  passes around at scope (Switch on groups) walk place is =
      let begins = stepped walk place is in
      let formed = not (has_no_group groups) && are_formed groups in
      let one = exp_passes around.site scope on (step walk) (place + 1) begins.place in
      let asked = two_rules (in_turn begins one) place walk.place is kinds.Name kinds.WrongType formed (is_on_int around.site scope on groups) in
      let two = passes_groups around scope groups (pass_on around.site scope on groups walk) (place + 1 + weight_of_exp on) asked.place in
      finds (ends_at (in_turn asked two) (place + (1 + (weight_of_exp on + weight_of_groups groups))) (omega arith)) _
      (two_in_front (found_at place kinds.Name formed) (found_at place kinds.WrongType (is_on_int around.site scope on groups)) (first_fault (exp_types around.site scope (place + 1) on)) _)
  passes around at scope (trees.Break label) walk place is = one_alone walk place is kinds.Label (is_one_of (Break label) around.targets)
  passes around at scope (trees.Continue label) walk place is = one_alone walk place is kinds.Label (is_one_of (Continue label) around.targets)
  passes around at scope (trees.Return value) walk place is =
      let begins = stepped walk place is in
      let one = option_passes around.site scope value (step walk) (place + 1) begins.place in
      let all = ends_at (in_turn begins one) (place + (1 + weight_of_value value)) (omega arith) in
      one_rule all place walk.place is kinds.WrongType (returns around.site scope around.result value)
  passes around at scope (Throw exception) walk place is =
      let begins = stepped walk place is in
      let one = exp_passes around.site scope exception (step walk) (place + 1) begins.place in
      let all = ends_at (in_turn begins one) (place + (1 + weight_of_exp exception)) (omega arith) in
      one_rule all place walk.place is kinds.WrongType (exp_goes around.site scope exception throwable)
  passes around at scope (Rethrow variable) walk place is =
      two_alone walk place is kinds.Name kinds.WrongType (is_named around.site scope variable) (goes around.site.headers (typed (scope variable)) throwable)
  passes around at scope (Try body catches) walk place is =
      let new = not (has_no_catch catches) && are_new_catches around.site scope catches in
      let thrown = are_exceptions around.site.headers catches in
      let begins = two_alone walk place is kinds.Name kinds.Catch new thrown in
      let start = pass_try around.site scope catches walk in
      let one = passes_list around scope body start (place + 1) begins.place in
      let two = passes_catches around scope catches (pass_list around scope body start) (place + 1 + weight_of_stms body) one.place in
      finds (ends_at (in_turn begins (in_turn one two)) (place + (1 + (weight_of_stms body + weight_of_catches catches))) (omega arith)) _
      (lower_assoc (found_at place kinds.Name new) (found_at place kinds.Catch thrown) _)
  passes around at scope (Synchronized monitor body) walk place is =
      let begins = stepped walk place is in
      let locked = if_typed (type_of (context_of around.site) scope monitor) (is_of is_reference) in
      let one = exp_passes around.site scope monitor (step walk) (place + 1) begins.place in
      let held = one_rule (in_turn begins one) place walk.place is kinds.WrongType locked in
      let two = passes_list around scope body (pass_monitor around.site scope monitor walk) (place + 1 + weight_of_exp monitor) held.place in
      finds (ends_at (in_turn held two) (place + (1 + (weight_of_exp monitor + weight_of_stms body))) (omega arith)) _
      (lower_assoc (found_at place kinds.WrongType locked) (first_fault (exp_types around.site scope (place + 1) monitor)) _)
  passes around at scope (Construct own arguments) walk place is =
      let begins = stepped walk place is in
      let one = exps_pass (without_this around.site) scope arguments (step walk) (place + 1) begins.place in
      let all = ends_at (in_turn begins one) (place + (1 + weight_of_exps arguments)) (omega arith) in
      one_rule all place walk.place is kinds.Call (may_construct around.constructs at && means_constructor around.site scope own arguments)
  passes around at scope (Do body test) walk place is =
      let begins = stepped walk place is in
      let one = passes_list (in_loop at around) scope body (step walk) (place + 1) begins.place in
      let two = exp_passes around.site scope test (pass_list (in_loop at around) scope body (step walk)) (place + 1 + weight_of_stms body) one.place in
      let all = ends_at (in_turn begins (in_turn one two)) (place + (1 + (weight_of_stms body + weight_of_exp test))) (omega arith) in
      one_rule all place walk.place is kinds.WrongType (is_test around.site scope test)
  passes around at scope (For test variable next body) walk place is =
      let begins = stepped walk place is in
      let one = exp_passes around.site scope test (step walk) (place + 1) begins.place in
      let two = exp_passes around.site scope next (pass_exp around.site scope test (step walk)) (place + 1 + weight_of_exp test) one.place in
      let named = is_named around.site scope variable in
      let right = is_test around.site scope test && exp_goes around.site scope next (scope variable) in
      let head = two_rules (in_turn begins (in_turn one two)) place walk.place is kinds.Name kinds.WrongType named right in
      let three = passes_list (in_loop at around) scope body (pass_for around.site scope test variable next walk) (place + 1 + weight_of_exp test + weight_of_exp next) head.place in
      finds (ends_at (in_turn head three) (place + (1 + (weight_of_exp test + (weight_of_exp next + weight_of_stms body)))) (omega arith)) _
      (two_in_front (found_at place kinds.Name named) (found_at place kinds.WrongType right) _ _
      ∙ ap (λ found. lower (found_at place kinds.Name named) (lower (found_at place kinds.WrongType right) found))
      (lower_assoc (first_fault (exp_types around.site scope (place + 1) test)) (first_fault (exp_types around.site scope (place + 1 + weight_of_exp test) next)) _))
  passes around at scope (Finally body last) walk place is =
      let begins = stepped walk place is in
      let one = passes_list around scope body (step walk) (place + 1) begins.place in
      let two = passes_list around scope last (pass_list around scope body (step walk)) (place + 1 + weight_of_stms body) one.place in
      ends_at (in_turn begins (in_turn one two)) (place + (1 + (weight_of_stms body + weight_of_stms last))) (omega arith)

  pub passes_list : (around : Around) (scope : Scope) (list : Stms) (walk : Walk) (place : ℕ) → walk.place ≡ told place
      → Passes walk (pass_list around scope list walk) (place + weight_of_stms list) (first_fault (list_types around scope place list))
  passes_list around scope Empty walk place is = nothing walk place is
  passes_list around scope (And first rest) walk place is =
      let x = passes around Elsewhere scope first walk place is in
      let y = passes_list around (within (declared first) scope) rest (pass around Elsewhere scope first walk) (place + weight_of first) x.place in
      ends_at (in_turn x y) (place + (weight_of first + weight_of_stms rest)) (omega arith)

  passes_catches : (around : Around) (scope : Scope) (catches : Catches) (walk : Walk) (place : ℕ) → walk.place ≡ told place
      → Passes walk (pass_catches around scope catches walk) (place + weight_of_catches catches) (first_fault (catches_types around scope place catches))
  passes_catches around scope NoCatches walk place is = nothing walk place is
  passes_catches around scope (AndCatch class variable body rest) walk place is =
      let inner = with_type variable (Class class) scope in
      let x = passes_list around inner body walk place is in
      let y = passes_catches around scope rest (pass_list around inner body walk) (place + weight_of_stms body) x.place in
      ends_at (in_turn x y) (place + (weight_of_stms body + weight_of_catches rest)) (omega arith)

  passes_groups : (around : Around) (scope : Scope) (groups : Groups) (walk : Walk) (place : ℕ) → walk.place ≡ told place
      → Passes walk (pass_groups around scope groups walk) (place + weight_of_groups groups) (first_fault (groups_types around scope place groups))
  passes_groups around scope NoGroups walk place is = nothing walk place is
  passes_groups around scope (AndGroup labels body rest) walk place is =
      let x = passes_list around scope body walk place is in
      let y = passes_groups around (behind body scope) rest (pass_list around scope body walk) (place + weight_of_stms body) x.place in
      ends_at (in_turn x y) (place + (weight_of_stms body + weight_of_groups rest)) (omega arith)

pub all_passes : (around : Around) (scope : Scope) (list : Stms) (walk : Walk) → walk.place ≡ 0
    → Passes walk (pass_all around scope list walk) (weight_of_stms list) (first_fault (all_types around scope list))
all_passes around scope Empty walk is = ends_at (nothing walk 0 is) 0 (omega arith)
all_passes around scope (And first rest) walk is =
    let x = ends_at (passes around First scope first walk 0 is) (weight_of first) (omega arith) in
    let y = passes_list around (within (declared first) scope) rest (pass around First scope first walk) (weight_of first) x.place in
    ends_at (in_turn x y) (weight_of first + weight_of_stms rest) refl

-- the rules on a whole body
module _ (around : Around) (body : Body) (named begins : Bool) where
  abbrev own : Rules
  own = Rule 0 kinds.Name named and Rule 0 kinds.Call begins and all_types around (scope_in body) body.statements

  abbrev start : Walk
  start = note 0 kinds.Call begins (note 0 kinds.Name named opening)

  fault_is : (ended : Walk) → ended ≡ pass_all around (scope_in body) body.statements start → ended.fault ≡ first_fault own
  fault_is ended walked =
      ap (λ (walk : Walk). walk.fault) walked ∙ (all_passes around (scope_in body) body.statements start refl).fault
      ∙ lower_assoc (found_at 0 kinds.Name named) (found_at 0 kinds.Call begins) (first_fault (all_types around (scope_in body) body.statements))

  pub body_kept : (ended : Walk) → ended ≡ pass_all around (scope_in body) body.statements start → ended.fault ≡ None → Holds own
  body_kept ended walked none = none_broken own (sym (fault_is ended walked) ∙ none)

  pub body_broken : (ended : Walk) → ended ≡ pass_all around (scope_in body) body.statements start → (fault : Fault) → ended.fault ≡ Some fault → IsFirstFault own fault
  body_broken ended walked fault some = first_is own fault (sym (fault_is ended walked) ∙ some)
