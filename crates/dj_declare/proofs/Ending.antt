-- A tree that keeps the rules of types completes only as reachability says, from each state, whatever is assigned there.
use Rattle.std.proofs.Common.{ℕ, ℤ, ◌+◌, Bool, true, false, not, ◌&&◌, ◌||◌, List, [], ◌∷◌, ◌++◌, Option, Some, None, ◌≡◌, refl, sym, ap, ◌∙◌, subst, inl, inr}
use Rattle.std.specs.Prelude.{option_and_then, if◌then◌else◌}
use Rattle.std.proofs.lemmas.Bool.{cases_Bool, and_parts, and_from, eq-eqb, false≢true}
use Rattle.dj_names.specs.Types.{Class}
use Rattle.dj_syntax.specs.Trees.{Exp, Stm, Block, Labelled, Declare, Set, SetField, SetStatic, SetElement, Run, If, While, Switch, Throw, Rethrow, Try, Synchronized, Construct, Do, For, Finally, Stms, Empty, And, Groups, NoGroups, AndGroup, Catches, NoCatches, AndCatch}
use Rattle.dj_syntax.specs.Trees as trees
use Rattle.dj_syntax.specs.Weight.{weight_of, weight_of_exp, weight_of_stms}
use Rattle.dj_values.specs.Values.{RefValue, Ref, PutStatic}
use Rattle.dj_values.specs.Deciding.{is_instance}
use Rattle.dj_values.specs.Fits.{element_of}
use Rattle.dj_values.specs.Outcomes.{Throws, Gives, ask, State, Is, bind, outside}
use Rattle.dj_meaning.specs.Fields.{selected, named_field}
use Rattle.dj_meaning.specs.StaticTypes.{Scope, with_type, plain, type_of, types_of, construct_target}
use Rattle.dj_meaning.specs.Objects.{with_object, element_written}
use Rattle.dj_meaning.specs.Operators.{truth_of}
use Rattle.dj_meaning.specs.Runs.{Store, Meaning, pure, ◌>>=◌, put, look, fitted, assigned}
use Rattle.dj_meaning.specs.Expressions.{either, tested, value, values, test, effect}
use Rattle.dj_meaning.specs.Completions.{Completion, Normal, Break, Continue, Return, Misfit, is_own}
use Rattle.dj_meaning.specs.Declarations.{declared, within, behind, opened}
use Rattle.dj_meaning.specs.Statements.{Place, First, Behind, Elsewhere, label_at, is_labelled, has_label, label_for, number_of, switched}
use Rattle.dj_meaning.specs.Ways.{Ways, no_way, normally_if, one_of, both_of, labelled, repeated, comes_round, May, EndsSo}
use Rattle.dj_meaning.specs.Meaning.{run, run_then, run_groups, run_from, run_clauses}
use Rattle.dj_meaning.proofs.Ending.{EndsIn, ends-pure, ends-stop, ends-after, ends-then, ends-wider, ends-either, ends-with, ends-local, first-way, second-way, ends-sequence, ends-taken, Leaves, ends-turns, ends-do_turns, round-leaves, ends-handled, ends-finished, ends-holding}
use Rattle.dj_meaning.proofs.EndingStatements.{join-way, ends-thrown, ends-normally, ends-locally, ends-passed, ends-initialised, ends-field_set, ends-constructed, ends-returns_nothing, ends-returns_value}
use Rattle.dj_places.specs.Constants.{Surroundings, constant_truth, is_always}
use Rattle.dj_places.specs.Rules.{Holds}
use Rattle.dj_reach.specs.declared.jump.Jump.{Jump}
use Rattle.dj_reach.specs.declared.jump.Jump.TheVariants as jumps
use Rattle.dj_reach.specs.Reach.{of_own, completes, list_completes, catches_complete, groups_complete, leaves, list_leaves, catches_leave, groups_leave}
use Rattle.dj_typing.specs.Expressions.{exp_types}
use Rattle.dj_typed.specs.Statements.{Around, turns_of, stm_types, list_types, catches_types, groups_types}
use Rattle.dj_held.specs.Running.{Running, context, surroundings, IsInOrder}
use Rattle.dj_held.proofs.Constants.{truth_known, constant_holds}
use Rattle.dj_never_stuck.proofs.Lists.{label_there, no_label_there}
use Rattle.dj_held.proofs.AssignedSets.{always_some}

-- ---- ways by reachability

abbrev pub exits : Surroundings → Option ℕ → Stm → Ways
exits around own statement = record {
  falls = completes around own statement;
  jumps = λ label. leaves around (jumps.Break label) statement;
  goes_on = λ label. leaves around (jumps.Continue label) statement;
}

abbrev pub list_exits : Surroundings → Stms → Ways
list_exits around list = record {
  falls = list_completes around list;
  jumps = λ label. list_leaves around (jumps.Break label) list;
  goes_on = λ label. list_leaves around (jumps.Continue label) list;
}

abbrev pub clause_exits : Surroundings → Catches → Ways
clause_exits around clauses = record {
  falls = catches_complete around clauses;
  jumps = λ label. catches_leave around (jumps.Break label) clauses;
  goes_on = λ label. catches_leave around (jumps.Continue label) clauses;
}

-- of groups, given whether what is before them completes
abbrev pub group_exits : Surroundings → Bool → Groups → Ways
group_exits around before groups = record {
  falls = groups_complete around before groups;
  jumps = λ label. groups_leave around (jumps.Break label) groups;
  goes_on = λ label. groups_leave around (jumps.Continue label) groups;
}

-- ---- small steps

or_first : (a b : Bool) → a ≡ true → (a || b) ≡ true
or_first true b e = refl
or_first false b e = absurd (false≢true e)

or_second : (a b : Bool) → b ≡ true → (a || b) ≡ true
or_second true b e = refl
or_second false b e = e

-- a loop leaves by no more jumps than its body
loop_way : (around : Surroundings) (own : Option ℕ) (falls : Bool) (body : Stms) (completion : Completion) → May (repeated own falls (list_exits around body)) completion
    → May (record { falls = falls; jumps = λ label. list_leaves around (jumps.Break label) body; goes_on = λ label. list_leaves around (jumps.Continue label) body }) completion
loop_way around own falls body Normal e = e
loop_way around own falls body (Break label) e = e
loop_way around own falls body (Continue label) e = (and_parts (not (is_own own label)) (list_leaves around (jumps.Continue label) body) e).1
loop_way around own falls body (Return result) e = tt
loop_way around own falls body Misfit e = tt

round_so : (around : Surroundings) (own : Option ℕ) (body : Stms) (leaves_it : Bool) → (comes_round own (list_exits around body) && leaves_it) ≡ true
    → ((list_completes around body || of_own own (λ label. list_leaves around (jumps.Continue label) body)) && leaves_it) ≡ true
round_so around None body leaves_it e =
    let both = and_parts (list_completes around body) leaves_it e in
    and_from (list_completes around body || false) leaves_it (or_first (list_completes around body) false both.0) both.1
round_so around (Some own) body leaves_it e = e

do_way : (around : Surroundings) (own : Option ℕ) (body : Stms) (leaves_it : Bool) (completion : Completion) → May (repeated own (comes_round own (list_exits around body) && leaves_it) (list_exits around body)) completion
    → May (record { falls = (list_completes around body || of_own own (λ label. list_leaves around (jumps.Continue label) body)) && leaves_it; jumps = λ label. list_leaves around (jumps.Break label) body; goes_on = λ label. list_leaves around (jumps.Continue label) body }) completion
do_way around own body leaves_it Normal e = round_so around own body leaves_it e
do_way around own body leaves_it (Break label) e = e
do_way around own body leaves_it (Continue label) e = (and_parts (not (is_own own label)) (list_leaves around (jumps.Continue label) body) e).1
do_way around own body leaves_it (Return result) e = tt
do_way around own body leaves_it Misfit e = tt

swapped : (a b : Bool) → (a && b) ≡ true → (b && a) ≡ true
swapped a b e = let both = and_parts a b e in and_from b a both.1 both.0

last_jump : (first completes_last last : Bool) → (last || (completes_last && first)) ≡ true → ((first && completes_last) || last) ≡ true
last_jump first completes_last true e = or_second (first && completes_last) true refl
last_jump first completes_last false e = or_first (first && completes_last) false (swapped completes_last first e)

finally_way : (around : Surroundings) (own : Option ℕ) (body last : Stms) (completion : Completion) → May (both_of (list_exits around last) (list_exits around body)) completion → May (exits around own (Finally body last)) completion
finally_way around own body last Normal e = swapped (list_completes around last) (list_completes around body) e
finally_way around own body last (Break label) e = last_jump (list_leaves around (jumps.Break label) body) (list_completes around last) (list_leaves around (jumps.Break label) last) e
finally_way around own body last (Continue label) e = last_jump (list_leaves around (jumps.Continue label) body) (list_completes around last) (list_leaves around (jumps.Continue label) last) e
finally_way around own body last (Return result) e = tt
finally_way around own body last Misfit e = tt

-- a group and those behind it
group_falls : (around : Surroundings) (b : Bool) (rest : Groups) → (b && groups_complete around true rest) ≡ true → groups_complete around b rest ≡ true
group_falls around b NoGroups e = (and_parts b true e).0
group_falls around b (AndGroup labels body rest) e = (and_parts b (groups_complete around (list_completes around body) rest) e).1

group_jumps : (j c k : Bool) → (j || (c && k)) ≡ true → (j || k) ≡ true
group_jumps true c k e = refl
group_jumps false true k e = e
group_jumps false false k e = absurd (false≢true e)

group_way : (around : Surroundings) (before : Bool) (labels : List (Option ℤ)) (body : Stms) (rest : Groups) (completion : Completion) → May (both_of (list_exits around body) (group_exits around true rest)) completion
    → May (group_exits around before (AndGroup labels body rest)) completion
group_way around before labels body rest Normal e = group_falls around (list_completes around body) rest e
group_way around before labels body rest (Break label) e = group_jumps (list_leaves around (jumps.Break label) body) (list_completes around body) (groups_leave around (jumps.Break label) rest) e
group_way around before labels body rest (Continue label) e = group_jumps (list_leaves around (jumps.Continue label) body) (list_completes around body) (groups_leave around (jumps.Continue label) rest) e
group_way around before labels body rest (Return result) e = tt
group_way around before labels body rest Misfit e = tt

later_way : (around : Surroundings) (before : Bool) (labels : List (Option ℤ)) (body : Stms) (rest : Groups) (completion : Completion) → May (group_exits around (list_completes around body) rest) completion
    → May (group_exits around before (AndGroup labels body rest)) completion
later_way around before labels body rest Normal e = e
later_way around before labels body rest (Break label) e = or_second (list_leaves around (jumps.Break label) body) (groups_leave around (jumps.Break label) rest) e
later_way around before labels body rest (Continue label) e = or_second (list_leaves around (jumps.Continue label) body) (groups_leave around (jumps.Continue label) rest) e
later_way around before labels body rest (Return result) e = tt
later_way around before labels body rest Misfit e = tt

switch_way : (around : Surroundings) (own : Option ℕ) (on : Exp) (groups : Groups) (completion : Completion) → May (group_exits around true groups) completion → May (exits around own (Switch on groups)) completion
switch_way around own on groups Normal e = or_second (not (is_labelled None groups)) (groups_complete around true groups) e
switch_way around own on groups (Break label) e = e
switch_way around own on groups (Continue label) e = e
switch_way around own on groups (Return result) e = tt
switch_way around own on groups Misfit e = tt

-- ---- constants

module _ (running : Running) (order : IsInOrder running) where
  -- a condition that always has an answer gives it
  pub always_test : (wanted : Bool) (scope : Scope) (p : ℕ) (exp : Exp) (state : State Store) → Holds (exp_types running.site scope p exp) → is_always wanted (constant_truth (surroundings running.site) exp) ≡ true
      → test (context running) scope exp state ≡ Is wanted state
  always_test wanted scope p exp state t e =
      let said = truth_known (surroundings running.site) exp wanted (always_some wanted (constant_truth (surroundings running.site) exp) e) in
      ap (λ outcome. bind outcome (tested (context running))) ((constant_holds running order scope p exp said.0 t said.1).runs state)
      ∙ ap (λ reply. outside running.headers reply state) said.2

  -- what stands around a statement, with these jumps taken
  abbrev pub taking : List Jump → Around
  taking targets = record { site = running.site; result = running.result; constructs = running.constructs; targets = targets }

  abbrev pub known : Surroundings
  known = surroundings running.site

  -- a test after which a loop ends, where it may
  leaves_test : (scope : Scope) (p : ℕ) (own : Option ℕ) (body : Ways) (condition : Exp) → Holds (exp_types running.site scope p condition) → Leaves own (not (is_always true (constant_truth known condition))) body (test (context running) scope condition)
  leaves_test scope p own body condition t next h = by (is_always true (constant_truth known condition)) refl
    where
      by : (always : Bool) → is_always true (constant_truth known condition) ≡ always
          → EndsIn (repeated own (not (is_always true (constant_truth known condition))) body) (test (context running) scope condition >>= λ answer. either answer next (pure Normal))
      by true e = record {
        ends = λ state.
            subst (λ outcome. EndsSo (repeated own (not (is_always true (constant_truth known condition))) body) (bind outcome (λ answer. either answer next (pure Normal)))) (sym (always_test true scope p condition state t e)) (h.ends state);
      }
      by false e =
          ends-after (repeated own (not (is_always true (constant_truth known condition))) body) (test (context running) scope condition) (λ answer.
          ends-either (repeated own (not (is_always true (constant_truth known condition))) body) answer h (ends-pure (repeated own (not (is_always true (constant_truth known condition))) body) Normal (ap not e)))

  module _ (bound : ℕ) where
    ends_switched : (own : Option ℕ) (on : Exp) (groups : Groups) (go : Option ℤ → Meaning Completion) → ((wanted : Option ℤ) → is_labelled wanted groups ≡ true → EndsIn (group_exits known true groups) (go wanted)) → (number : ℤ)
        → EndsIn (exits known own (Switch on groups)) (switched go (label_for groups number))
    ends_switched own on groups go h number = by (label_for groups number) refl
      where
        by : (found : Option (Option ℤ)) → label_for groups number ≡ found → EndsIn (exits known own (Switch on groups)) (switched go found)
        by None e = ends-pure (exits known own (Switch on groups)) Normal (or_first (not (is_labelled None groups)) (groups_complete known true groups) (ap not (no_label_there groups number e)))
        by (Some wanted) e = ends-wider (group_exits known true groups) (exits known own (Switch on groups)) (switch_way known own on groups) (h wanted (label_there groups number wanted e))

    mutual
      pub ends_run : (scope : Scope) (place : Place) (targets : List Jump) (p : ℕ) (statement : Stm) → Holds (stm_types (taking targets) place scope p statement)
          → EndsIn (exits known (label_at place) statement) (run (context running) scope bound place statement)
      ends_run scope place targets p (Block list) t = ends_block scope targets (p + 1) list t
      ends_run scope place targets p (Labelled label statement) t =
          ends-then (exits known (Some label) statement) (labelled label (exits known (Some label) statement)) (ends_run scope (Behind label) (targets ++ jumps.Break label ∷ []) (p + 1) statement t.1.1) (ends-taken label (exits known (Some label) statement))
      ends_run scope place targets p (Declare variable kind initial) t = ends-after (normally_if true) (opened scope variable) (λ done. ends-initialised (context running) (with_type variable kind scope) variable initial)
      ends_run scope place targets p (Set variable new) t = ends-normally (assigned running.headers scope variable (value (context running) scope new))
      ends_run scope place targets p (SetField object name new) t =
          ends-with (normally_if true) (option_and_then (selected running.headers running.site.members running.site.class name) (plain (type_of (context running) scope object)))
          (ends-field_set (context running) name (value (context running) scope object) (value (context running) scope new))
      ends_run scope place targets p (SetStatic class name new) t =
          ends-with (normally_if true) (named_field running.headers running.site.members running.site.class class name) (λ field.
          ends-after (normally_if true) (value (context running) scope new >>= fitted running.headers field.type) (λ kept. ends-normally (outside running.headers (ask (PutStatic (Class class) name field.type kept)))))
      ends_run scope place targets p (SetElement array index new) t =
          ends-with (normally_if true) (option_and_then element_of (plain (type_of (context running) scope array)))
          (λ element. ends-after (normally_if true) (value (context running) scope array) (λ found. ends-after (normally_if true) (value (context running) scope index) (λ place.
          ends-after (normally_if true) (value (context running) scope new >>= fitted running.headers element) (λ kept. ends-normally (outside running.headers (element_written running.headers found place kept))))))
      ends_run scope place targets p (Run call) t = ends-normally (effect (context running) scope call)
      ends_run scope place targets p (If condition first second) t =
          let these = one_of (list_exits known first) (list_exits known second) in
          ends-after these (test (context running) scope condition) (λ answer.
          ends-either these answer (ends-wider (list_exits known first) these (first-way (list_exits known first) (list_exits known second)) (ends_block scope targets (p + 1 + weight_of_exp condition) first t.1.1.0))
          (ends-wider (list_exits known second) these (second-way (list_exits known first) (list_exits known second)) (ends_block scope targets (p + 1 + weight_of_exp condition + weight_of_stms first) second t.1.1.1)))
      ends_run scope place targets p (While condition body) t =
          ends-wider (repeated (label_at place) (not (is_always true (constant_truth known condition))) (list_exits known body)) (exits known (label_at place) (While condition body))
          (loop_way known (label_at place) (not (is_always true (constant_truth known condition))) body)
          (ends-turns (label_at place) (not (is_always true (constant_truth known condition))) (list_exits known body) bound (test (context running) scope condition) (pure tt)
          (leaves_test scope (p + 1) (label_at place) (list_exits known body) condition t.1.0) (ends_block scope (targets ++ turns_of (label_at place)) (p + 1 + weight_of_exp condition) body t.1.1))
      ends_run scope place targets p (Switch on groups) t =
          let these = exits known (label_at place) (Switch on groups) in
          ends-after these (value (context running) scope on) (λ found. ends-after these (outside running.headers (number_of found)) (λ number.
          ends_switched (label_at place) on groups (run_from (context running) scope bound groups) (ends_from scope targets (p + 1 + weight_of_exp on) true groups t.1.1.1) number))
      ends_run scope place targets p (trees.Break label) t = ends-pure (exits known (label_at place) (trees.Break label)) (Break label) (eq-eqb label label refl)
      ends_run scope place targets p (trees.Continue label) t = ends-pure (exits known (label_at place) (trees.Continue label)) (Continue label) (eq-eqb label label refl)
      ends_run scope place targets p (trees.Return None) t = ends-returns_nothing running.result
      ends_run scope place targets p (trees.Return (Some result)) t = ends-after no_way (value (context running) scope result) (ends-returns_value (context running) running.result)
      ends_run scope place targets p (Throw exception) t = ends-after no_way (value (context running) scope exception) (ends-thrown (context running))
      ends_run scope place targets p (Rethrow variable) t = ends-after no_way (look scope variable) (ends-thrown (context running))
      ends_run scope place targets p (Try body clauses) t =
          ends-handled (list_exits known body) (clause_exits known clauses) (ends_clauses scope targets (p + 1 + weight_of_stms body) clauses t.1.1.1) (ends_block scope targets (p + 1) body t.1.1.0)
      ends_run scope place targets p (Synchronized monitor body) t =
          ends-after (list_exits known body) (value (context running) scope monitor) (λ found. ends-after (list_exits known body) (outside running.headers (with_object found (λ reference. Gives reference))) (λ reference.
          ends-holding (list_exits known body) running.headers reference (ends_block scope targets (p + 1 + weight_of_exp monitor) body t.1.1)))
      ends_run scope place targets p (Construct this arguments) t = ends-constructed (context running) place (construct_target (context running) this (types_of (context running) scope arguments)) (values (context running) scope arguments)
      ends_run scope place targets p (Do body condition) t =
          let leaves_it = not (is_always true (constant_truth known condition)) in
          ends-wider (repeated (label_at place) (comes_round (label_at place) (list_exits known body) && leaves_it) (list_exits known body)) (exits known (label_at place) (Do body condition)) (do_way known (label_at place) body leaves_it)
          (ends-do_turns (label_at place) (comes_round (label_at place) (list_exits known body) && leaves_it) (list_exits known body) bound (test (context running) scope condition)
          (round-leaves (label_at place) (list_exits known body) leaves_it (test (context running) scope condition) (leaves_test scope (p + 1 + weight_of_stms body) (label_at place) (list_exits known body) condition t.1.1))
          (ends_block scope (targets ++ turns_of (label_at place)) (p + 1) body t.1.0))
      ends_run scope place targets p (For condition variable step body) t =
          ends-wider (repeated (label_at place) (not (is_always true (constant_truth known condition))) (list_exits known body)) (exits known (label_at place) (For condition variable step body))
          (loop_way known (label_at place) (not (is_always true (constant_truth known condition))) body)
          (ends-turns (label_at place) (not (is_always true (constant_truth known condition))) (list_exits known body) bound (test (context running) scope condition)
          (assigned running.headers scope variable (value (context running) scope step) >>= λ kept. pure tt) (leaves_test scope (p + 1) (label_at place) (list_exits known body) condition t.1.1.0)
          (ends_block scope (targets ++ turns_of (label_at place)) (p + 1 + weight_of_exp condition + weight_of_exp step) body t.1.1.1.1))
      ends_run scope place targets p (Finally body last) t =
          ends-wider (both_of (list_exits known last) (list_exits known body)) (exits known (label_at place) (Finally body last)) (finally_way known (label_at place) body last)
          (ends-finished (list_exits known body) (list_exits known last) (ends_block scope targets (p + 1 + weight_of_stms body) last t.1) (ends_block scope targets (p + 1) body t.0))

      pub ends_block : (scope : Scope) (targets : List Jump) (p : ℕ) (list : Stms) → Holds (list_types (taking targets) scope p list) → EndsIn (list_exits known list) (run_then (context running) scope bound list (pure Normal))
      ends_block scope targets p Empty t = ends-pure (normally_if true) Normal refl
      ends_block scope targets p (And first rest) t =
          ends-locally (list_exits known (And first rest)) (declared first)
          (ends-then (exits known None first) (list_exits known (And first rest)) (ends_run scope Elsewhere targets p first t.0)
          (ends-sequence (exits known None first) (list_exits known rest) (ends_block (within (declared first) scope) targets (p + weight_of first) rest t.1)))

      pub ends_list : (scope : Scope) (targets : List Jump) (p : ℕ) (list : Stms) (behind_it : Ways) {next : Meaning Completion} → Holds (list_types (taking targets) scope p list) → EndsIn behind_it next
          → EndsIn (both_of (list_exits known list) behind_it) (run_then (context running) scope bound list next)
      ends_list scope targets p Empty behind_it t h = record { ends = h.ends }
      ends_list scope targets p (And first rest) behind_it t h =
          let these = both_of (list_exits known rest) behind_it in
          ends-wider (both_of (exits known None first) these) (both_of (list_exits known (And first rest)) behind_it) (join-way (exits known None first) (list_exits known rest) behind_it)
          (ends-locally (both_of (exits known None first) these) (declared first)
          (ends-then (exits known None first) (both_of (exits known None first) these) (ends_run scope Elsewhere targets p first t.0)
          (ends-sequence (exits known None first) these (ends_list (within (declared first) scope) targets (p + weight_of first) rest behind_it t.1 h))))

      ends_groups : (scope : Scope) (targets : List Jump) (p : ℕ) (groups : Groups) → Holds (groups_types (taking targets) scope p groups) → EndsIn (group_exits known true groups) (run_groups (context running) scope bound groups)
      ends_groups scope targets p NoGroups t = ends-pure (normally_if true) Normal refl
      ends_groups scope targets p (AndGroup labels body rest) t =
          ends-wider (both_of (list_exits known body) (group_exits known true rest)) (group_exits known true (AndGroup labels body rest)) (group_way known true labels body rest)
          (ends_list scope targets p body (group_exits known true rest) t.0 (ends_groups (behind body scope) targets (p + weight_of_stms body) rest t.1))

      ends_from : (scope : Scope) (targets : List Jump) (p : ℕ) (before : Bool) (groups : Groups) → Holds (groups_types (taking targets) scope p groups) → (wanted : Option ℤ) → is_labelled wanted groups ≡ true
          → EndsIn (group_exits known before groups) (run_from (context running) scope bound groups wanted)
      ends_from scope targets p before NoGroups t wanted e = absurd (cc)
      ends_from scope targets p before (AndGroup labels body rest) t wanted e =
          let these = group_exits known before (AndGroup labels body rest) in
          elim (cases_Bool (has_label wanted labels)) [
            | inl own ↦ (rw own (ends-wider (both_of (list_exits known body) (group_exits known true rest)) these (group_way known before labels body rest)
                (ends_list scope targets p body (group_exits known true rest) t.0 (ends_groups (behind body scope) targets (p + weight_of_stms body) rest t.1))))
            | inr other ↦ (rw other (ends-passed these scope body (ends-wider (group_exits known (list_completes known body) rest) these (later_way known before labels body rest)
                (ends_from (behind body scope) targets (p + weight_of_stms body) (list_completes known body) rest t.1 wanted (rw other at e)))))
          ]

      ends_clauses : (scope : Scope) (targets : List Jump) (p : ℕ) (clauses : Catches) → Holds (catches_types (taking targets) scope p clauses) → (reference : RefValue)
          → EndsIn (clause_exits known clauses) (run_clauses (context running) scope bound clauses reference)
      ends_clauses scope targets p NoCatches t reference = ends-stop no_way (Throws reference)
      ends_clauses scope targets p (AndCatch class variable body rest) t reference =
          let these = one_of (list_exits known body) (clause_exits known rest) in
          ends-either these (is_instance running.headers reference.class class)
          (ends-wider (list_exits known body) these (first-way (list_exits known body) (clause_exits known rest))
          (ends-local (list_exits known body) variable (ends-after (list_exits known body) (opened scope variable) (λ done.
          ends-after (list_exits known body) (put variable (Some (Ref reference))) (λ done. ends_block (with_type variable (Class class) scope) targets p body t.0)))))
          (ends-wider (clause_exits known rest) these (second-way (list_exits known body) (clause_exits known rest)) (ends_clauses scope targets (p + weight_of_stms body) rest t.1 reference))
