-- One walk past an expression finds the first fault of the rules on it.
use Rattle.std.proofs.Common.{◌≡◌, ◌+◌, ℕ, Bool, not, ◌&&◌, Option, Some, None, refl, sym, ap, ◌∙◌, arith}
use Rattle.std.specs.Prelude.{is_some}
use Rattle.dj_syntax.specs.Trees.{Exp, Text, Truth, Null, This, Variable, ClassOf, Field, Static, Element, Call, StaticCall, SuperCall, New, NewArray, Cast, InstanceOf, Negative, Not, Binary, Choice, Assign, Exps, NoExps, AndExp}
use Rattle.dj_syntax.specs.Trees as trees
use Rattle.dj_syntax.specs.WellFormedTrees.{has_no_exp}
use Rattle.dj_syntax.specs.Weight.{weight_of_exp, weight_of_exps}
use Rattle.dj_values.specs.Deciding.{is_array, is_reference}
use Rattle.dj_meaning.specs.Fields.{named_field}
use Rattle.dj_meaning.specs.StaticTypes.{Scope, type_of, types_of, new_target}
use Rattle.dj_places.specs.Places.{told}
use Rattle.dj_places.specs.Rules.{Rule, Holds}
use Rattle.dj_places.specs.declared.kind.TypeKind.{TypeKind}
use Rattle.dj_places.specs.declared.kind.TypeKind.TheVariants as kinds
use Rattle.dj_places.proofs.RuleLemmas.{told_later}
use Rattle.dj_faults.specs.declared.fault.Fault.{Fault}
use Rattle.dj_faults.specs.Faults.{lower, fault_at, first_fault}
use Rattle.dj_faults.specs.FirstFault.{IsFirstFault}
use Rattle.dj_faults.proofs.FaultLemmas.{lower_none, lower_assoc, lower_then, none_broken, first_is}
use Rattle.dj_typing.specs.Sites.{Site, context_of, may_name, may_name_type}
use Rattle.dj_typing.specs.Casting.{is_number, may_be_of, may_cast}
use Rattle.dj_typing.specs.Operands.{is_of, operands_of, takes, agree, if_typed, if_both}
use Rattle.dj_typing.specs.Expressions.{goes, is_condition, is_index, are_indexes, is_whole_static, selects, gives_value, is_meant, meant_of_object, meant_of_class, meant_above, means_abstract, has_super, is_abstract, exp_types, exps_types, effect_types}
use Rattle.dj_checked.specs.declared.walk.Walk.{Walk}
use Rattle.dj_checked.specs.Walks.{step, note, is_called, pass_exp, pass_exps, pass_effect, opening}
use Rattle.dj_checked.proofs.OrderLemmas.{lower_comm}

-- which of two counts first is one, so a fault may be put in front
in_front : (a b c : Option Fault) → lower a (lower b c) ≡ lower b (lower a c)
in_front a b c = sym (lower_assoc a b c) ∙ ap (λ x. lower x c) (lower_comm a b) ∙ lower_assoc b a c

-- to which place it comes, and the first fault on the way
pub record Passes (before behind : Walk) (end : ℕ) (found : Option Fault) : Type 0 where
  pub place : behind.place ≡ told end
  pub fault : behind.fault ≡ lower before.fault found

-- one part behind another
pub in_turn : {before between behind : Walk} {middle end : ℕ} {found more : Option Fault} → Passes before between middle found → Passes between behind end more
    → Passes before behind end (lower found more)
in_turn {before} {between} {behind} {middle} {end} {found} {more} x y = record { place = y.place; fault = lower_then before.fault between.fault behind.fault found more x.fault y.fault }

-- the end is told in another way, and so is what is found
pub ends_at : {before behind : Walk} {end : ℕ} {found : Option Fault} → Passes before behind end found → (place : ℕ) → end ≡ place → Passes before behind place found
ends_at x place is = record { place = x.place ∙ ap told is; fault = x.fault }

pub finds : {before behind : Walk} {end : ℕ} {found : Option Fault} → Passes before behind end found → (other : Option Fault) → found ≡ other → Passes before behind end other
finds {before} x other is = record { place = x.place; fault = x.fault ∙ ap (lower before.fault) is }

-- nothing on the way
pub nothing : (walk : Walk) (place : ℕ) → walk.place ≡ told place → Passes walk walk (place + 0) None
nothing walk place is = record { place = is ∙ ap told (omega arith); fault = sym (lower_none walk.fault) }

pub stepped : (walk : Walk) (place : ℕ) → walk.place ≡ told place → Passes walk (step walk) (place + 1) None
stepped walk place is = record { place = told_later place 1 walk.place is; fault = sym (lower_none walk.fault) }

-- ---- the rules on an expression, looked at behind those on its parts

-- what is found of one rule
abbrev pub found_at : ℕ → TypeKind → Bool → Option Fault
found_at place kind kept = first_fault (Rule place kind kept)

-- one rule more: the order of places and kinds counts, and not that of looking
pub one_rule : {before between : Walk} {end : ℕ} {parts : Option Fault} → Passes before between end parts → (place at : ℕ) → at ≡ told place → (kind : TypeKind) (kept : Bool)
    → Passes before (note at kind kept between) end (lower (found_at place kind kept) parts)
one_rule {before} {between} {end} {parts} x place at is kind kept = record {
  place = x.place;
  fault =
      lower_then before.fault between.fault (lower between.fault (fault_at at kind kept)) parts (found_at place kind kept) x.fault
      (ap (λ (p : ℕ). lower between.fault (fault_at p kind kept)) is)
      ∙ ap (lower before.fault) (lower_comm parts (found_at place kind kept));
}

-- two, of which the first was looked at first
pub two_rules : {before between : Walk} {end : ℕ} {parts : Option Fault} → Passes before between end parts → (place at : ℕ) → at ≡ told place → (kind other : TypeKind) (kept also : Bool)
    → Passes before (note at other also (note at kind kept between)) end (lower (found_at place kind kept) (lower (found_at place other also) parts))
two_rules {parts = parts} x place at is kind other kept also =
    finds (one_rule (one_rule x place at is kind kept) place at is other also) _ (in_front (found_at place other also) (found_at place kind kept) parts)

pub three_rules : {before between : Walk} {end : ℕ} {parts : Option Fault} → Passes before between end parts → (place at : ℕ) → at ≡ told place → (kind other last : TypeKind) (kept also last_kept : Bool)
    → Passes before (note at last last_kept (note at other also (note at kind kept between))) end (lower (found_at place kind kept) (lower (found_at place other also) (lower (found_at place last last_kept) parts)))
three_rules {parts = parts} x place at is kind other last kept also last_kept =
    finds (one_rule (two_rules x place at is kind other kept also) place at is last last_kept) _
    (in_front (found_at place last last_kept) (found_at place kind kept) (lower (found_at place other also) parts) ∙ ap (lower (found_at place kind kept)) (in_front (found_at place last last_kept) (found_at place other also) parts))

-- the same of an expression without parts
pub one_alone : (walk : Walk) (place : ℕ) → walk.place ≡ told place → (kind : TypeKind) (kept : Bool) → Passes walk (note walk.place kind kept (step walk)) (place + 1) (found_at place kind kept)
one_alone walk place is kind kept = finds (one_rule (stepped walk place is) place walk.place is kind kept) _ (lower_none (found_at place kind kept))

pub two_alone : (walk : Walk) (place : ℕ) → walk.place ≡ told place → (kind other : TypeKind) (kept also : Bool)
    → Passes walk (note walk.place other also (note walk.place kind kept (step walk))) (place + 1) (lower (found_at place kind kept) (found_at place other also))
two_alone walk place is kind other kept also =
    finds (two_rules (stepped walk place is) place walk.place is kind other kept also) _ (ap (lower (found_at place kind kept)) (lower_none (found_at place other also)))

three_alone : (walk : Walk) (place : ℕ) → walk.place ≡ told place → (kind other last : TypeKind) (kept also last_kept : Bool)
    → Passes walk (note walk.place last last_kept (note walk.place other also (note walk.place kind kept (step walk)))) (place + 1) (lower (found_at place kind kept) (lower (found_at place other also) (found_at place last last_kept)))
three_alone walk place is kind other last kept also last_kept =
    finds (three_rules (stepped walk place is) place walk.place is kind other last kept also last_kept) _
    (ap (λ x. lower (found_at place kind kept) (lower (found_at place other also) x)) (lower_none (found_at place last last_kept)))

-- the rules on a call, of which that on its value is looked at last
call_rules : {before between : Walk} {end : ℕ} {parts : Option Fault} → Passes before between end parts → (place at : ℕ) → at ≡ told place → (named called whole gives : Bool)
    → Passes before (note at kinds.WrongType gives (note at kinds.Name whole (note at kinds.Call called (note at kinds.Name named between)))) end
    (lower (found_at place kinds.WrongType gives) (lower (lower (found_at place kinds.Name named) (lower (found_at place kinds.Call called) (found_at place kinds.Name whole))) parts))
call_rules {parts = parts} x place at is named called whole gives =
    let one = found_at place kinds.Name named in
    let two = found_at place kinds.Call called in
    let three = found_at place kinds.Name whole in
    finds (one_rule (three_rules x place at is kinds.Name kinds.Call kinds.Name named called whole) place at is kinds.WrongType gives) _
    (ap (lower (found_at place kinds.WrongType gives)) (sym (lower_assoc one (lower two three) parts ∙ ap (lower one) (lower_assoc two three parts))))

mutual
  pub exp_passes : (site : Site) (scope : Scope) (exp : Exp) (walk : Walk) (place : ℕ) → walk.place ≡ told place
      → Passes walk (pass_exp site scope exp walk) (place + weight_of_exp exp) (first_fault (exp_types site scope place exp))
  exp_passes site scope (trees.Int number) walk place is = stepped walk place is
  exp_passes site scope (trees.Long number) walk place is = stepped walk place is
  exp_passes site scope (Text units) walk place is =
      one_alone walk place is kinds.Name (if_typed (type_of (context_of site) scope (Text units)) (is_whole_static site.headers))
  exp_passes site scope (Truth known) walk place is = stepped walk place is
  exp_passes site scope Null walk place is = stepped walk place is
  exp_passes site scope This walk place is =
      two_alone walk place is kinds.Name kinds.Name site.has_this (if_typed (type_of (context_of site) scope This) (is_whole_static site.headers))
  exp_passes site scope (Variable variable) walk place is =
      two_alone walk place is kinds.Name kinds.Name (is_some (scope variable)) (if_typed (type_of (context_of site) scope (Variable variable)) (is_whole_static site.headers))
  exp_passes site scope (ClassOf kind) walk place is =
      two_alone walk place is kinds.Name kinds.Name (is_reference kind && may_name_type site kind) (if_typed (type_of (context_of site) scope (ClassOf kind)) (is_whole_static site.headers))
  exp_passes site scope (Field object name) walk place is =
      let begins = stepped walk place is in
      let one = exp_passes site scope object (step walk) (place + 1) begins.place in
      let all = ends_at (in_turn begins one) (place + (1 + weight_of_exp object)) (omega arith) in
      three_rules all place walk.place is kinds.Name kinds.Access kinds.Name (site.can_name name) (if_typed (type_of (context_of site) scope object) (selects site name)) (if_typed (type_of (context_of site) scope (Field object name)) (is_whole_static site.headers))
  exp_passes site scope (Static class name) walk place is =
      three_alone walk place is kinds.Name kinds.Access kinds.Name (may_name site class && site.can_name name) (is_some (named_field site.headers site.members site.class class name)) (if_typed (type_of (context_of site) scope (Static class name)) (is_whole_static site.headers))
  exp_passes site scope (Element array index) walk place is =
      let begins = stepped walk place is in
      let one = exp_passes site scope array (step walk) (place + 1) begins.place in
      let two = exp_passes site scope index (pass_exp site scope array (step walk)) (place + 1 + weight_of_exp array) one.place in
      let all = ends_at (in_turn begins (in_turn one two)) (place + (1 + (weight_of_exp array + weight_of_exp index))) (omega arith) in
      three_rules all place walk.place is kinds.WrongType kinds.WrongType kinds.Name (if_typed (type_of (context_of site) scope array) (is_of is_array)) (is_index (type_of (context_of site) scope index)) (if_typed (type_of (context_of site) scope (Element array index)) (is_whole_static site.headers))
  exp_passes site scope (Call object name arguments) walk place is =
      let begins = stepped walk place is in
      let one = exp_passes site scope object (step walk) (place + 1) begins.place in
      let two = exps_pass site scope arguments (pass_exp site scope object (step walk)) (place + 1 + weight_of_exp object) one.place in
      let all = ends_at (in_turn begins (in_turn one two)) (place + (1 + (weight_of_exp object + weight_of_exps arguments))) (omega arith) in
      let types = types_of (context_of site) scope arguments in
      call_rules all place walk.place is (site.can_name name) (is_called site name (type_of (context_of site) scope object) types)
      (if_typed (type_of (context_of site) scope (Call object name arguments)) (is_whole_static site.headers)) (gives_value (meant_of_object site scope object name arguments))
  exp_passes site scope (StaticCall class name arguments) walk place is =
      let begins = stepped walk place is in
      let one = exps_pass site scope arguments (step walk) (place + 1) begins.place in
      let all = ends_at (in_turn begins one) (place + (1 + weight_of_exps arguments)) (omega arith) in
      let types = types_of (context_of site) scope arguments in
      call_rules all place walk.place is (may_name site class && site.can_name name) (is_meant types (meant_of_class site scope class name arguments))
      (if_typed (type_of (context_of site) scope (StaticCall class name arguments)) (is_whole_static site.headers)) (gives_value (meant_of_class site scope class name arguments))
  exp_passes site scope (SuperCall above name arguments) walk place is =
      let begins = stepped walk place is in
      let one = exps_pass site scope arguments (step walk) (place + 1) begins.place in
      let all = ends_at (in_turn begins one) (place + (1 + weight_of_exps arguments)) (omega arith) in
      let types = types_of (context_of site) scope arguments in
      call_rules all place walk.place is (site.has_this && has_super site above && site.can_name name)
      (is_meant types (meant_above site scope above name arguments) && not (means_abstract site above name types))
      (if_typed (type_of (context_of site) scope (SuperCall above name arguments)) (is_whole_static site.headers)) (gives_value (meant_above site scope above name arguments))
  exp_passes site scope (New class arguments) walk place is =
      let begins = stepped walk place is in
      let one = exps_pass site scope arguments (step walk) (place + 1) begins.place in
      let all = ends_at (in_turn begins one) (place + (1 + weight_of_exps arguments)) (omega arith) in
      two_rules all place walk.place is kinds.Name kinds.Call (may_name site class) (not (is_abstract site.headers class) && is_meant (types_of (context_of site) scope arguments) (new_target (context_of site) class (types_of (context_of site) scope arguments)))
  exp_passes site scope (NewArray kind sizes more) walk place is =
      let begins = stepped walk place is in
      let one = exps_pass site scope sizes (step walk) (place + 1) begins.place in
      let all = ends_at (in_turn begins one) (place + (1 + weight_of_exps sizes)) (omega arith) in
      two_rules all place walk.place is kinds.Name kinds.WrongType (may_name_type site kind && not (is_array kind) && not (has_no_exp sizes)) (are_indexes site scope sizes)
  exp_passes site scope (Cast kind operand) walk place is =
      let begins = stepped walk place is in
      let one = exp_passes site scope operand (step walk) (place + 1) begins.place in
      let all = ends_at (in_turn begins one) (place + (1 + weight_of_exp operand)) (omega arith) in
      two_rules all place walk.place is kinds.Name kinds.WrongType (may_name_type site kind) (if_typed (type_of (context_of site) scope operand) (λ type. may_cast site.headers type kind))
  exp_passes site scope (InstanceOf operand kind) walk place is =
      let begins = stepped walk place is in
      let one = exp_passes site scope operand (step walk) (place + 1) begins.place in
      let all = ends_at (in_turn begins one) (place + (1 + weight_of_exp operand)) (omega arith) in
      two_rules all place walk.place is kinds.Name kinds.WrongType (may_name_type site kind) (is_reference kind && if_typed (type_of (context_of site) scope operand) (λ type. may_be_of site.headers type kind))
  exp_passes site scope (Negative operand) walk place is =
      let begins = stepped walk place is in
      let one = exp_passes site scope operand (step walk) (place + 1) begins.place in
      let all = ends_at (in_turn begins one) (place + (1 + weight_of_exp operand)) (omega arith) in
      one_rule all place walk.place is kinds.WrongType (if_typed (type_of (context_of site) scope operand) (is_of is_number))
  exp_passes site scope (Not operand) walk place is =
      let begins = stepped walk place is in
      let one = exp_passes site scope operand (step walk) (place + 1) begins.place in
      let all = ends_at (in_turn begins one) (place + (1 + weight_of_exp operand)) (omega arith) in
      one_rule all place walk.place is kinds.WrongType (is_condition (type_of (context_of site) scope operand))
  exp_passes site scope (Binary operator left right) walk place is =
      let begins = stepped walk place is in
      let one = exp_passes site scope left (step walk) (place + 1) begins.place in
      let two = exp_passes site scope right (pass_exp site scope left (step walk)) (place + 1 + weight_of_exp left) one.place in
      let all = ends_at (in_turn begins (in_turn one two)) (place + (1 + (weight_of_exp left + weight_of_exp right))) (omega arith) in
      one_rule all place walk.place is kinds.WrongType (if_both (type_of (context_of site) scope left) (type_of (context_of site) scope right) (takes site.headers (operands_of operator)))
  exp_passes site scope (Choice test first second) walk place is =
      let begins = stepped walk place is in
      let one = exp_passes site scope test (step walk) (place + 1) begins.place in
      let two = exp_passes site scope first (pass_exp site scope test (step walk)) (place + 1 + weight_of_exp test) one.place in
      let three = exp_passes site scope second (pass_exp site scope first (pass_exp site scope test (step walk))) (place + 1 + weight_of_exp test + weight_of_exp first) two.place in
      let all = ends_at (in_turn begins (in_turn one (in_turn two three))) (place + (1 + (weight_of_exp test + (weight_of_exp first + weight_of_exp second)))) (omega arith) in
      two_rules all place walk.place is kinds.WrongType kinds.WrongType (is_condition (type_of (context_of site) scope test)) (if_both (type_of (context_of site) scope first) (type_of (context_of site) scope second) agree)
  exp_passes site scope (Assign variable new) walk place is =
      let begins = stepped walk place is in
      let one = exp_passes site scope new (step walk) (place + 1) begins.place in
      let all = ends_at (in_turn begins one) (place + (1 + weight_of_exp new)) (omega arith) in
      three_rules all place walk.place is kinds.Name kinds.WrongType kinds.Name (is_some (scope variable)) (goes site.headers (type_of (context_of site) scope new) (scope variable)) (if_typed (type_of (context_of site) scope (Assign variable new)) (is_whole_static site.headers))

  pub exps_pass : (site : Site) (scope : Scope) (exps : Exps) (walk : Walk) (place : ℕ) → walk.place ≡ told place
      → Passes walk (pass_exps site scope exps walk) (place + weight_of_exps exps) (first_fault (exps_types site scope place exps))
  exps_pass site scope NoExps walk place is = nothing walk place is
  exps_pass site scope (AndExp first rest) walk place is =
      let x = exp_passes site scope first walk place is in
      let y = exps_pass site scope rest (pass_exp site scope first walk) (place + weight_of_exp first) x.place in
      ends_at (in_turn x y) (place + (weight_of_exp first + weight_of_exps rest)) (omega arith)

-- the rules on a call itself
itself_rules : {before between : Walk} {end : ℕ} {parts : Option Fault} → Passes before between end parts → (place at : ℕ) → at ≡ told place → (named called whole : Bool)
    → Passes before (note at kinds.Name whole (note at kinds.Call called (note at kinds.Name named between))) end
    (lower (lower (found_at place kinds.Name named) (lower (found_at place kinds.Call called) (found_at place kinds.Name whole))) parts)
itself_rules {parts = parts} x place at is named called whole =
    let one = found_at place kinds.Name named in
    let two = found_at place kinds.Call called in
    let three = found_at place kinds.Name whole in
    finds (three_rules x place at is kinds.Name kinds.Call kinds.Name named called whole) _ (sym (lower_assoc one (lower two three) parts ∙ ap (lower one) (lower_assoc two three parts)))

-- a walk past an expression that is a statement of its own
pub effect_passes : (site : Site) (scope : Scope) (exp : Exp) (walk : Walk) (place : ℕ) → walk.place ≡ told place
    → Passes walk (pass_effect site scope exp walk) (place + weight_of_exp exp) (first_fault (effect_types site scope place exp))
effect_passes site scope (Call object name arguments) walk place is =
    let begins = stepped walk place is in
    let one = exp_passes site scope object (step walk) (place + 1) begins.place in
    let two = exps_pass site scope arguments (pass_exp site scope object (step walk)) (place + 1 + weight_of_exp object) one.place in
    let all = ends_at (in_turn begins (in_turn one two)) (place + (1 + (weight_of_exp object + weight_of_exps arguments))) (omega arith) in
    itself_rules all place walk.place is (site.can_name name) (is_called site name (type_of (context_of site) scope object) (types_of (context_of site) scope arguments))
    (if_typed (type_of (context_of site) scope (Call object name arguments)) (is_whole_static site.headers))
effect_passes site scope (StaticCall class name arguments) walk place is =
    let begins = stepped walk place is in
    let one = exps_pass site scope arguments (step walk) (place + 1) begins.place in
    let all = ends_at (in_turn begins one) (place + (1 + weight_of_exps arguments)) (omega arith) in
    itself_rules all place walk.place is (may_name site class && site.can_name name) (is_meant (types_of (context_of site) scope arguments) (meant_of_class site scope class name arguments))
    (if_typed (type_of (context_of site) scope (StaticCall class name arguments)) (is_whole_static site.headers))
effect_passes site scope (SuperCall above name arguments) walk place is =
    let begins = stepped walk place is in
    let one = exps_pass site scope arguments (step walk) (place + 1) begins.place in
    let all = ends_at (in_turn begins one) (place + (1 + weight_of_exps arguments)) (omega arith) in
    let types = types_of (context_of site) scope arguments in
    itself_rules all place walk.place is (site.has_this && has_super site above && site.can_name name) (is_meant types (meant_above site scope above name arguments) && not (means_abstract site above name types))
    (if_typed (type_of (context_of site) scope (SuperCall above name arguments)) (is_whole_static site.headers))
effect_passes site scope (trees.Int number) walk place is = exp_passes site scope (trees.Int number) walk place is
effect_passes site scope (trees.Long number) walk place is = exp_passes site scope (trees.Long number) walk place is
effect_passes site scope (Text units) walk place is = exp_passes site scope (Text units) walk place is
effect_passes site scope (Truth known) walk place is = exp_passes site scope (Truth known) walk place is
effect_passes site scope Null walk place is = exp_passes site scope Null walk place is
effect_passes site scope This walk place is = exp_passes site scope This walk place is
effect_passes site scope (Variable variable) walk place is = exp_passes site scope (Variable variable) walk place is
effect_passes site scope (ClassOf kind) walk place is = exp_passes site scope (ClassOf kind) walk place is
effect_passes site scope (Field object name) walk place is = exp_passes site scope (Field object name) walk place is
effect_passes site scope (Static class name) walk place is = exp_passes site scope (Static class name) walk place is
effect_passes site scope (Element array index) walk place is = exp_passes site scope (Element array index) walk place is
effect_passes site scope (New class arguments) walk place is = exp_passes site scope (New class arguments) walk place is
effect_passes site scope (NewArray kind sizes more) walk place is = exp_passes site scope (NewArray kind sizes more) walk place is
effect_passes site scope (Cast kind operand) walk place is = exp_passes site scope (Cast kind operand) walk place is
effect_passes site scope (InstanceOf operand kind) walk place is = exp_passes site scope (InstanceOf operand kind) walk place is
effect_passes site scope (Negative operand) walk place is = exp_passes site scope (Negative operand) walk place is
effect_passes site scope (Not operand) walk place is = exp_passes site scope (Not operand) walk place is
effect_passes site scope (Binary operator left right) walk place is = exp_passes site scope (Binary operator left right) walk place is
effect_passes site scope (Choice test first second) walk place is = exp_passes site scope (Choice test first second) walk place is
effect_passes site scope (Assign variable new) walk place is = exp_passes site scope (Assign variable new) walk place is

-- a walk past an expression finds the first fault of the rules on it
module _ (site : Site) (scope : Scope) (exp : Exp) (ended : Walk) (walked : ended ≡ pass_exp site scope exp opening) where
  fault_is : ended.fault ≡ first_fault (exp_types site scope 0 exp)
  fault_is = ap (λ (walk : Walk). walk.fault) walked ∙ (exp_passes site scope exp opening 0 refl).fault

  pub exp_kept : ended.fault ≡ None → Holds (exp_types site scope 0 exp)
  exp_kept none = none_broken (exp_types site scope 0 exp) (sym fault_is ∙ none)

  pub exp_broken : (fault : Fault) → ended.fault ≡ Some fault → IsFirstFault (exp_types site scope 0 exp) fault
  exp_broken fault some = first_is (exp_types site scope 0 exp) fault (sym fault_is ∙ some)
