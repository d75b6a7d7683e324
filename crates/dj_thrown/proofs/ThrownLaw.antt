-- One walk over a body finds what it throws, and the first of its catch clauses that breaks a rule.
use Rattle.std.proofs.Common.{◌≡◌, ◌+◌, ℕ, List, [], ◌∷◌, ◌++◌, Option, Some, None, refl, sym, ap, subst, ◌∙◌, arith}
use Rattle.std.proofs.lemmas.List.{append-nil, append_assoc}
use Rattle.dj_names.specs.Headers.{Name}
use Rattle.dj_names.specs.Types.{Class}
use Rattle.dj_syntax.specs.Trees.{Exp, Text, Truth, Null, This, Variable, ClassOf, Field, Static, Element, Call, StaticCall, SuperCall, New, NewArray, Cast, InstanceOf, Negative, Not, Binary, Choice, Assign, Exps, NoExps, AndExp, Stm, Block, Labelled, Declare, Set, SetField, SetStatic, SetElement, Run, If, While, Switch, Break, Continue, Return, Throw, Rethrow, Try, Synchronized, Construct, Do, For, Finally, Stms, Empty, And, Groups, NoGroups, AndGroup, Catches, NoCatches, AndCatch}
use Rattle.dj_syntax.specs.Trees as trees
use Rattle.dj_syntax.specs.Weight.{weight_of, weight_of_exp, weight_of_exps, weight_of_value, weight_of_stms, weight_of_groups, weight_of_catches}
use Rattle.dj_meaning.specs.StaticTypes.{Scope, with_type, plain, type_of, types_of}
use Rattle.dj_meaning.specs.Declarations.{declared, within, behind}
use Rattle.dj_places.specs.Places.{told}
use Rattle.dj_places.specs.declared.kind.TypeKind.TheVariants.{Catch}
use Rattle.dj_places.proofs.RuleLemmas.{told_later}
use Rattle.dj_reach.specs.Reach.{list_completes}
use Rattle.dj_faults.specs.declared.fault.Fault.{Fault}
use Rattle.dj_faults.specs.Faults.{lower, fault_at, first_fault}
use Rattle.dj_faults.proofs.FaultLemmas.{lower_none, lower_assoc, lower_then}
use Rattle.dj_thrown.specs.declared.throwing.Throwing.{Throwing}
use Rattle.dj_thrown.specs.declared.throwing.Held.{Held}
use Rattle.dj_thrown.specs.declared.walk.Walk.{Walk}
use Rattle.dj_thrown.specs.Settings.{Setting, context_of, around}
use Rattle.dj_thrown.specs.Listed.{object_listed, class_listed, super_listed, new_listed, construct_listed}
use Rattle.dj_thrown.specs.Throws.{thrown_at, left, holding, throw_throws, exp_throws, exps_throw, option_throws, through, throws, list_throws, catches_throw, groups_throw}
use Rattle.dj_thrown.specs.Catching.{may_all_catch, catching, list_catching, catches_catching, groups_catching}
use Rattle.dj_thrown.specs.Bodies.{all_told}
use Rattle.dj_thrown.specs.Walks.{step, throw_all, with_thrown, note, pass_exp, pass_exps, pass_option, pass, pass_list, pass_catches, pass_groups, opening}
use Rattle.dj_thrown.proofs.ToldLemmas.{told_append, told_at, told_through, told_left, told_holding, told_may_all}

-- to which place it comes, the first fault on the way, and what is thrown on it
pub record Passes (before behind : Walk) (end : ℕ) (found : Option Fault) (thrown : List Throwing) : Type 0 where
  pub place : behind.place ≡ told end
  pub fault : behind.fault ≡ lower before.fault found
  pub adds : behind.thrown ≡ before.thrown ++ all_told thrown

-- one part behind another
in_turn : {before between behind : Walk} {middle end : ℕ} {found more : Option Fault} {first second : List Throwing}
    → Passes before between middle found first → Passes between behind end more second → Passes before behind end (lower found more) (first ++ second)
in_turn {before} {between} {behind} {middle} {end} {found} {more} {first} {second} x y = record {
  place = y.place;
  fault = lower_then before.fault between.fault behind.fault found more x.fault y.fault;
  adds =
      y.adds ∙ ap (λ list. list ++ all_told second) x.adds ∙ append_assoc before.thrown (all_told first) (all_told second)
      ∙ ap (λ list. before.thrown ++ list) (sym (told_append first second));
}

-- the end is told in another way
ends_at : {before behind : Walk} {end : ℕ} {found : Option Fault} {thrown : List Throwing} → Passes before behind end found thrown → (place : ℕ) → end ≡ place → Passes before behind place found thrown
ends_at x place is = record { place = x.place ∙ ap told is; fault = x.fault; adds = x.adds }

-- nothing on the way
nothing : (walk : Walk) (place : ℕ) → walk.place ≡ told place → Passes walk walk (place + 0) None []
nothing walk place is = record { place = is ∙ ap told (omega arith); fault = sym (lower_none walk.fault); adds = sym (append-nil walk.thrown) }

stepped : (walk : Walk) (place : ℕ) → walk.place ≡ told place → Passes walk (step walk) (place + 1) None []
stepped walk place is = record { place = told_later place 1 walk.place is; fault = sym (lower_none walk.fault); adds = sym (append-nil walk.thrown) }

thrown_here : (classes : List Name) (walk : Walk) (place : ℕ) → walk.place ≡ told place → Passes walk (step (throw_all classes walk)) (place + 1) None (thrown_at place classes)
thrown_here classes walk place is = record {
  place = told_later place 1 walk.place is;
  fault = sym (lower_none walk.fault);
  adds = ap (λ (at : ℕ). walk.thrown ++ thrown_at at classes) is ∙ ap (λ list. walk.thrown ++ list) (told_at place classes);
}

-- ---- expressions

mutual
  exp_passes : (setting : Setting) (scope : Scope) (exp : Exp) (walk : Walk) (place : ℕ) → walk.place ≡ told place
      → Passes walk (pass_exp setting scope exp walk) (place + weight_of_exp exp) None (exp_throws setting scope place exp)
  exp_passes setting scope (trees.Int number) walk place is = stepped walk place is
  exp_passes setting scope (trees.Long number) walk place is = stepped walk place is
  exp_passes setting scope (Text units) walk place is = stepped walk place is
  exp_passes setting scope (Truth known) walk place is = stepped walk place is
  exp_passes setting scope Null walk place is = stepped walk place is
  exp_passes setting scope This walk place is = stepped walk place is
  exp_passes setting scope (Variable variable) walk place is = stepped walk place is
  exp_passes setting scope (ClassOf kind) walk place is = stepped walk place is
  exp_passes setting scope (Field object name) walk place is =
      let start = step walk in
      let begins = stepped walk place is in
      let one = exp_passes setting scope object start (place + 1) begins.place in
      ends_at (in_turn begins one) (place + (1 + weight_of_exp object)) (omega arith)
  exp_passes setting scope (Static class name) walk place is = stepped walk place is
  exp_passes setting scope (Element array index) walk place is =
      let start = step walk in
      let begins = stepped walk place is in
      let one = exp_passes setting scope array start (place + 1) begins.place in
      let between = pass_exp setting scope array start in
      let two = exp_passes setting scope index between (place + 1 + weight_of_exp array) one.place in
      ends_at (in_turn begins (in_turn one two)) (place + (1 + (weight_of_exp array + weight_of_exp index))) (omega arith)
  exp_passes setting scope (Call object name arguments) walk place is =
      let classes = object_listed setting name (plain (type_of (context_of setting) scope object)) (types_of (context_of setting) scope arguments) in
      let start = step (throw_all classes walk) in
      let begins = thrown_here classes walk place is in
      let one = exp_passes setting scope object start (place + 1) begins.place in
      let between = pass_exp setting scope object start in
      let two = exps_pass setting scope arguments between (place + 1 + weight_of_exp object) one.place in
      ends_at (in_turn begins (in_turn one two)) (place + (1 + (weight_of_exp object + weight_of_exps arguments))) (omega arith)
  exp_passes setting scope (StaticCall class name arguments) walk place is =
      let classes = class_listed setting class name (types_of (context_of setting) scope arguments) in
      let start = step (throw_all classes walk) in
      let begins = thrown_here classes walk place is in
      let one = exps_pass setting scope arguments start (place + 1) begins.place in
      ends_at (in_turn begins one) (place + (1 + weight_of_exps arguments)) (omega arith)
  exp_passes setting scope (SuperCall above name arguments) walk place is =
      let classes = super_listed setting above name (types_of (context_of setting) scope arguments) in
      let start = step (throw_all classes walk) in
      let begins = thrown_here classes walk place is in
      let one = exps_pass setting scope arguments start (place + 1) begins.place in
      ends_at (in_turn begins one) (place + (1 + weight_of_exps arguments)) (omega arith)
  exp_passes setting scope (New class arguments) walk place is =
      let classes = new_listed setting class (types_of (context_of setting) scope arguments) in
      let start = step (throw_all classes walk) in
      let begins = thrown_here classes walk place is in
      let one = exps_pass setting scope arguments start (place + 1) begins.place in
      ends_at (in_turn begins one) (place + (1 + weight_of_exps arguments)) (omega arith)
  exp_passes setting scope (NewArray kind sizes more) walk place is =
      let start = step walk in
      let begins = stepped walk place is in
      let one = exps_pass setting scope sizes start (place + 1) begins.place in
      ends_at (in_turn begins one) (place + (1 + weight_of_exps sizes)) (omega arith)
  exp_passes setting scope (Cast kind operand) walk place is =
      let start = step walk in
      let begins = stepped walk place is in
      let one = exp_passes setting scope operand start (place + 1) begins.place in
      ends_at (in_turn begins one) (place + (1 + weight_of_exp operand)) (omega arith)
  exp_passes setting scope (InstanceOf operand kind) walk place is =
      let start = step walk in
      let begins = stepped walk place is in
      let one = exp_passes setting scope operand start (place + 1) begins.place in
      ends_at (in_turn begins one) (place + (1 + weight_of_exp operand)) (omega arith)
  exp_passes setting scope (Negative operand) walk place is =
      let start = step walk in
      let begins = stepped walk place is in
      let one = exp_passes setting scope operand start (place + 1) begins.place in
      ends_at (in_turn begins one) (place + (1 + weight_of_exp operand)) (omega arith)
  exp_passes setting scope (Not operand) walk place is =
      let start = step walk in
      let begins = stepped walk place is in
      let one = exp_passes setting scope operand start (place + 1) begins.place in
      ends_at (in_turn begins one) (place + (1 + weight_of_exp operand)) (omega arith)
  exp_passes setting scope (Binary operator left right) walk place is =
      let start = step walk in
      let begins = stepped walk place is in
      let one = exp_passes setting scope left start (place + 1) begins.place in
      let between = pass_exp setting scope left start in
      let two = exp_passes setting scope right between (place + 1 + weight_of_exp left) one.place in
      ends_at (in_turn begins (in_turn one two)) (place + (1 + (weight_of_exp left + weight_of_exp right))) (omega arith)
  exp_passes setting scope (Choice test first second) walk place is =
      let start = step walk in
      let begins = stepped walk place is in
      let one = exp_passes setting scope test start (place + 1) begins.place in
      let between = pass_exp setting scope test start in
      let two = exp_passes setting scope first between (place + 1 + weight_of_exp test) one.place in
      let later = pass_exp setting scope first between in
      let three = exp_passes setting scope second later (place + 1 + weight_of_exp test + weight_of_exp first) two.place in
      ends_at (in_turn begins (in_turn one (in_turn two three))) (place + (1 + (weight_of_exp test + (weight_of_exp first + weight_of_exp second)))) (omega arith)
  exp_passes setting scope (Assign variable new) walk place is =
      let start = step walk in
      let begins = stepped walk place is in
      let one = exp_passes setting scope new start (place + 1) begins.place in
      ends_at (in_turn begins one) (place + (1 + weight_of_exp new)) (omega arith)

  exps_pass : (setting : Setting) (scope : Scope) (exps : Exps) (walk : Walk) (place : ℕ) → walk.place ≡ told place
      → Passes walk (pass_exps setting scope exps walk) (place + weight_of_exps exps) None (exps_throw setting scope place exps)
  exps_pass setting scope NoExps walk place is = nothing walk place is
  exps_pass setting scope (AndExp first rest) walk place is =
      let x = exp_passes setting scope first walk place is in
      let y = exps_pass setting scope rest (pass_exp setting scope first walk) (place + weight_of_exp first) x.place in
      ends_at (in_turn x y) (place + (weight_of_exp first + weight_of_exps rest)) (omega arith)

option_passes : (setting : Setting) (scope : Scope) (exp : Option Exp) (walk : Walk) (place : ℕ) → walk.place ≡ told place
    → Passes walk (pass_option setting scope exp walk) (place + weight_of_value exp) None (option_throws setting scope place exp)
option_passes setting scope None walk place is = nothing walk place is
option_passes setting scope (Some exp) walk place is = exp_passes setting scope exp walk place is

-- ---- statements

mutual
  passes : (setting : Setting) (held : List Held) (scope : Scope) (statement : Stm) (walk : Walk) (place : ℕ) → walk.place ≡ told place
      → Passes walk (pass setting held scope statement walk) (place + weight_of statement) (first_fault (catching setting held scope place statement)) (throws setting held scope place statement)
  passes setting held scope (Block list) walk place is =
      let start = step walk in
      let begins = stepped walk place is in
      let one = passes_list setting held scope list start (place + 1) begins.place in
      ends_at (in_turn begins one) (place + (1 + weight_of_stms list)) (omega arith)
  passes setting held scope (Labelled label statement) walk place is =
      let start = step walk in
      let begins = stepped walk place is in
      let one = passes setting held scope statement start (place + 1) begins.place in
      ends_at (in_turn begins one) (place + (1 + weight_of statement)) (omega arith)
  passes setting held scope (Declare variable kind initial) walk place is =
      let start = step walk in
      let begins = stepped walk place is in
      let one = option_passes setting (with_type variable kind scope) initial start (place + 1) begins.place in
      ends_at (in_turn begins one) (place + (1 + weight_of_value initial)) (omega arith)
  passes setting held scope (Set variable new) walk place is =
      let start = step walk in
      let begins = stepped walk place is in
      let one = exp_passes setting scope new start (place + 1) begins.place in
      ends_at (in_turn begins one) (place + (1 + weight_of_exp new)) (omega arith)
  passes setting held scope (SetField object name new) walk place is =
      let start = step walk in
      let begins = stepped walk place is in
      let one = exp_passes setting scope object start (place + 1) begins.place in
      let between = pass_exp setting scope object start in
      let two = exp_passes setting scope new between (place + 1 + weight_of_exp object) one.place in
      ends_at (in_turn begins (in_turn one two)) (place + (1 + (weight_of_exp object + weight_of_exp new))) (omega arith)
  passes setting held scope (SetStatic class name new) walk place is =
      let start = step walk in
      let begins = stepped walk place is in
      let one = exp_passes setting scope new start (place + 1) begins.place in
      ends_at (in_turn begins one) (place + (1 + weight_of_exp new)) (omega arith)
  passes setting held scope (SetElement array index new) walk place is =
      let start = step walk in
      let begins = stepped walk place is in
      let one = exp_passes setting scope array start (place + 1) begins.place in
      let between = pass_exp setting scope array start in
      let two = exp_passes setting scope index between (place + 1 + weight_of_exp array) one.place in
      let later = pass_exp setting scope index between in
      let three = exp_passes setting scope new later (place + 1 + weight_of_exp array + weight_of_exp index) two.place in
      ends_at (in_turn begins (in_turn one (in_turn two three))) (place + (1 + (weight_of_exp array + (weight_of_exp index + weight_of_exp new)))) (omega arith)
  passes setting held scope (Run call) walk place is =
      let start = step walk in
      let begins = stepped walk place is in
      let one = exp_passes setting scope call start (place + 1) begins.place in
      ends_at (in_turn begins one) (place + (1 + weight_of_exp call)) (omega arith)
  passes setting held scope (If test first second) walk place is =
      let start = step walk in
      let begins = stepped walk place is in
      let one = exp_passes setting scope test start (place + 1) begins.place in
      let between = pass_exp setting scope test start in
      let two = passes_list setting held scope first between (place + 1 + weight_of_exp test) one.place in
      let later = pass_list setting held scope first between in
      let three = passes_list setting held scope second later (place + 1 + weight_of_exp test + weight_of_stms first) two.place in
      ends_at (in_turn begins (in_turn one (in_turn two three))) (place + (1 + (weight_of_exp test + (weight_of_stms first + weight_of_stms second)))) (omega arith)
  passes setting held scope (While test body) walk place is =
      let start = step walk in
      let begins = stepped walk place is in
      let one = exp_passes setting scope test start (place + 1) begins.place in
      let between = pass_exp setting scope test start in
      let two = passes_list setting held scope body between (place + 1 + weight_of_exp test) one.place in
      ends_at (in_turn begins (in_turn one two)) (place + (1 + (weight_of_exp test + weight_of_stms body))) (omega arith)
  passes setting held scope (Switch on groups) walk place is =
      let start = step walk in
      let begins = stepped walk place is in
      let one = exp_passes setting scope on start (place + 1) begins.place in
      let between = pass_exp setting scope on start in
      let two = passes_groups setting held scope groups between (place + 1 + weight_of_exp on) one.place in
      ends_at (in_turn begins (in_turn one two)) (place + (1 + (weight_of_exp on + weight_of_groups groups))) (omega arith)
  passes setting held scope (Break label) walk place is = stepped walk place is
  passes setting held scope (Continue label) walk place is = stepped walk place is
  passes setting held scope (Return result) walk place is =
      let start = step walk in
      let begins = stepped walk place is in
      let one = option_passes setting scope result start (place + 1) begins.place in
      ends_at (in_turn begins one) (place + (1 + weight_of_value result)) (omega arith)
  passes setting held scope (Throw exception) walk place is =
      let classes = throw_throws setting held scope exception in
      let start = step (throw_all classes walk) in
      let begins = thrown_here classes walk place is in
      let one = exp_passes setting scope exception start (place + 1) begins.place in
      ends_at (in_turn begins one) (place + (1 + weight_of_exp exception)) (omega arith)
  passes setting held scope (Rethrow variable) walk place is = stepped walk place is
  passes setting held scope (Try body catches) walk place is =
      let start = with_thrown [] (step walk) in
      let between = pass_list setting held scope body start in
      let x = passes_list setting held scope body start (place + 1) (stepped walk place is).place in
      let thrown = list_throws setting held scope (place + 1) body in
      let found = first_fault (list_catching setting held scope (place + 1) body) in
      let kept = may_all_catch setting.headers thrown catches in
      let end = place + 1 + weight_of_stms body in
      let rule = fault_at (told place) Catch kept in
      let noted = note walk.place (may_all_catch setting.headers (all_told thrown) catches) (with_thrown walk.thrown between) in
      let y : Passes walk noted end (lower found rule) [] = record {
        place = x.place;
        fault =
            ap (λ fault. lower fault (fault_at walk.place Catch (may_all_catch setting.headers (all_told thrown) catches))) x.fault
            ∙ lower_assoc walk.fault found (fault_at walk.place Catch (may_all_catch setting.headers (all_told thrown) catches))
            ∙ ap (λ (at : ℕ). lower walk.fault (lower found (fault_at at Catch (may_all_catch setting.headers (all_told thrown) catches)))) is
            ∙ ap (λ b. lower walk.fault (lower found (fault_at (told place) Catch b))) (told_may_all setting.headers thrown catches);
        adds = sym (append-nil walk.thrown);
      } in
      let z = in_turn y (passes_catches setting held scope thrown catches noted end y.place) in
      let u = subst (λ (list : List Throwing). Passes walk (pass_catches setting held scope list catches (note walk.place (may_all_catch setting.headers list catches) (with_thrown walk.thrown between)))
      (end + weight_of_catches catches) (lower (lower found rule) (first_fault (catches_catching setting held scope thrown end catches))) (catches_throw setting held scope thrown end catches)) (sym x.adds) z in
      let at : Passes walk (pass setting held scope (Try body catches) walk) (place + (1 + (weight_of_stms body + weight_of_catches catches)))
      (lower (lower found rule) (first_fault (catches_catching setting held scope thrown end catches))) (catches_throw setting held scope thrown end catches) =
      ends_at u (place + (1 + (weight_of_stms body + weight_of_catches catches))) (omega arith) in
      record { place = at.place; fault = at.fault ∙ ap (lower walk.fault) (lower_assoc found rule (first_fault (catches_catching setting held scope thrown end catches))); adds = at.adds }
  passes setting held scope (Synchronized monitor body) walk place is =
      let start = step walk in
      let begins = stepped walk place is in
      let one = exp_passes setting scope monitor start (place + 1) begins.place in
      let between = pass_exp setting scope monitor start in
      let two = passes_list setting held scope body between (place + 1 + weight_of_exp monitor) one.place in
      ends_at (in_turn begins (in_turn one two)) (place + (1 + (weight_of_exp monitor + weight_of_stms body))) (omega arith)
  passes setting held scope (Construct own arguments) walk place is =
      let classes = construct_listed setting own (types_of (context_of setting) scope arguments) in
      let start = step (throw_all classes walk) in
      let begins = thrown_here classes walk place is in
      let one = exps_pass setting scope arguments start (place + 1) begins.place in
      ends_at (in_turn begins one) (place + (1 + weight_of_exps arguments)) (omega arith)
  passes setting held scope (Do body test) walk place is =
      let start = step walk in
      let begins = stepped walk place is in
      let one = passes_list setting held scope body start (place + 1) begins.place in
      let between = pass_list setting held scope body start in
      let two = exp_passes setting scope test between (place + 1 + weight_of_stms body) one.place in
      let u = ends_at (in_turn begins (in_turn one two)) (place + (1 + (weight_of_stms body + weight_of_exp test))) (omega arith) in
      record { place = u.place; fault = u.fault ∙ ap (lower walk.fault) (lower_none (first_fault (list_catching setting held scope (place + 1) body))); adds = u.adds }
  passes setting held scope (For test variable next body) walk place is =
      let start = step walk in
      let begins = stepped walk place is in
      let one = exp_passes setting scope test start (place + 1) begins.place in
      let between = pass_exp setting scope test start in
      let two = exp_passes setting scope next between (place + 1 + weight_of_exp test) one.place in
      let later = pass_exp setting scope next between in
      let three = passes_list setting held scope body later (place + 1 + weight_of_exp test + weight_of_exp next) two.place in
      ends_at (in_turn begins (in_turn one (in_turn two three))) (place + (1 + (weight_of_exp test + (weight_of_exp next + weight_of_stms body)))) (omega arith)
  passes setting held scope (Finally body last) walk place is =
      let start = with_thrown [] (step walk) in
      let between = pass_list setting held scope body start in
      let x = passes_list setting held scope body start (place + 1) (stepped walk place is).place in
      let thrown = list_throws setting held scope (place + 1) body in
      let completes = list_completes (around setting) last in
      let later = with_thrown (walk.thrown ++ through completes between.thrown) between in
      let y : Passes walk later (place + 1 + weight_of_stms body) (first_fault (list_catching setting held scope (place + 1) body)) (through completes thrown) = record {
        place = x.place;
        fault = x.fault;
        adds = ap (λ list. walk.thrown ++ through completes list) x.adds ∙ ap (λ list. walk.thrown ++ list) (told_through completes thrown);
      } in
      let z = passes_list setting held scope last later (place + 1 + weight_of_stms body) y.place in
      ends_at (in_turn y z) (place + (1 + (weight_of_stms body + weight_of_stms last))) (omega arith)

  passes_list : (setting : Setting) (held : List Held) (scope : Scope) (list : Stms) (walk : Walk) (place : ℕ) → walk.place ≡ told place
      → Passes walk (pass_list setting held scope list walk) (place + weight_of_stms list) (first_fault (list_catching setting held scope place list)) (list_throws setting held scope place list)
  passes_list setting held scope Empty walk place is = nothing walk place is
  passes_list setting held scope (And first rest) walk place is =
      let x = passes setting held scope first walk place is in
      let y = passes_list setting held (within (declared first) scope) rest (pass setting held scope first walk) (place + weight_of first) x.place in
      ends_at (in_turn x y) (place + (weight_of first + weight_of_stms rest)) (omega arith)

  passes_catches : (setting : Setting) (held : List Held) (scope : Scope) (thrown : List Throwing) (catches : Catches) (walk : Walk) (place : ℕ) → walk.place ≡ told place
      → Passes walk (pass_catches setting held scope (all_told thrown) catches walk) (place + weight_of_catches catches)
      (first_fault (catches_catching setting held scope thrown place catches)) (catches_throw setting held scope thrown place catches)
  passes_catches setting held scope thrown NoCatches walk place is = record { place = is ∙ ap told (omega arith); fault = sym (lower_none walk.fault); adds = refl }
  passes_catches setting held scope thrown (AndCatch class variable body rest) walk place is =
      let inner = with_type variable (Class class) scope in
      let one = holding setting.headers class variable body thrown in
      let x = passes_list setting (held ++ one ∷ []) inner body walk place is in
      let remains = left setting.headers class thrown in
      let y = passes_catches setting held scope remains rest (pass_list setting (held ++ one ∷ []) inner body walk) (place + weight_of_stms body) x.place in
      let z = ends_at (in_turn x y) (place + (weight_of_stms body + weight_of_catches rest)) (omega arith) in
      subst (λ (hold : Held). Passes walk (pass_catches setting held scope (left setting.headers class (all_told thrown)) rest (pass_list setting (held ++ hold ∷ []) inner body walk))
      (place + (weight_of_stms body + weight_of_catches rest)) (first_fault (catches_catching setting held scope thrown place (AndCatch class variable body rest)))
      (catches_throw setting held scope thrown place (AndCatch class variable body rest))) (sym (told_holding setting.headers class variable body thrown))
      (subst (λ (list : List Throwing). Passes walk (pass_catches setting held scope list rest (pass_list setting (held ++ one ∷ []) inner body walk))
      (place + (weight_of_stms body + weight_of_catches rest)) (first_fault (catches_catching setting held scope thrown place (AndCatch class variable body rest)))
      (catches_throw setting held scope thrown place (AndCatch class variable body rest))) (sym (told_left setting.headers class thrown)) z)

  passes_groups : (setting : Setting) (held : List Held) (scope : Scope) (groups : Groups) (walk : Walk) (place : ℕ) → walk.place ≡ told place
      → Passes walk (pass_groups setting held scope groups walk) (place + weight_of_groups groups) (first_fault (groups_catching setting held scope place groups)) (groups_throw setting held scope place groups)
  passes_groups setting held scope NoGroups walk place is = nothing walk place is
  passes_groups setting held scope (AndGroup labels body rest) walk place is =
      let x = passes_list setting held scope body walk place is in
      let y = passes_groups setting held (behind body scope) rest (pass_list setting held scope body walk) (place + weight_of_stms body) x.place in
      ends_at (in_turn x y) (place + (weight_of_stms body + weight_of_groups rest)) (omega arith)

-- ---- a whole list

pub thrown_is : (setting : Setting) (held : List Held) (scope : Scope) (list : Stms) → (pass_list setting held scope list opening).thrown ≡ all_told (list_throws setting held scope 0 list)
thrown_is setting held scope list = (passes_list setting held scope list opening 0 refl).adds

pub catching_is : (setting : Setting) (held : List Held) (scope : Scope) (list : Stms) → (pass_list setting held scope list opening).fault ≡ first_fault (list_catching setting held scope 0 list)
catching_is setting held scope list = (passes_list setting held scope list opening 0 refl).fault
