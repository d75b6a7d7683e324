-- A tree completes only in the ways of its form.
use Rattle.std.proofs.Common.{ℕ, ◌≡◌, true, false, not, Option, Some, None, inl, inr, refl}
use Rattle.std.specs.Prelude.{ℤ, ◌&&◌, option_and_then}
use Rattle.std.proofs.lemmas.Bool.{cases_Bool, eq-eqb}
use Rattle.dj_names.specs.Types.{Class}
use Rattle.dj_syntax.specs.Trees.{Stm, Block, Labelled, Declare, Set, SetField, SetStatic, SetElement, Run, If, While, Switch, Throw, Rethrow, Try, Synchronized, Construct, Do, For, Finally, Stms, Empty, And, Groups, NoGroups, AndGroup, Catches, NoCatches, AndCatch}
use Rattle.dj_syntax.specs.Trees as trees
use Rattle.dj_values.specs.Values.{RefValue, Ref, PutStatic}
use Rattle.dj_values.specs.Deciding.{is_instance}
use Rattle.dj_values.specs.Fits.{element_of}
use Rattle.dj_values.specs.Outcomes.{Throws, Gives, ask, outside}
use Rattle.dj_meaning.specs.Fields.{selected, named_field}
use Rattle.dj_meaning.specs.StaticTypes.{Context, Scope, with_type, plain, type_of, types_of, construct_target}
use Rattle.dj_meaning.specs.Objects.{with_object, element_written}
use Rattle.dj_meaning.specs.Runs.{Meaning, pure, ◌>>=◌, put, look, fitted, assigned}
use Rattle.dj_meaning.specs.Expressions.{value, values, test, effect}
use Rattle.dj_meaning.specs.Completions.{Completion, Normal, Break, Continue}
use Rattle.dj_meaning.specs.Declarations.{declared, within, behind, opened}
use Rattle.dj_meaning.specs.Statements.{Place, First, Behind, Elsewhere, label_at, is_labelled, has_label, label_for, number_of, switched}
use Rattle.dj_meaning.specs.Ways.{Ways, no_way, normally_if, one_of, both_of, labelled, comes_round, is_true, ways, all_ways, group_ways, entered_ways, clause_ways}
use Rattle.dj_meaning.specs.Meaning.{run, run_then, run_groups, run_from, run_clauses, run_all, run_statements}
use Rattle.dj_meaning.proofs.Ending.{EndsIn, ends-pure, ends-stop, ends-after, ends-then, ends-wider, ends-either, ends-with, ends-local, first-way, second-way, ends-sequence, ends-taken, ends-turns, ends-do_turns, round-leaves, ends-handled, ends-finished, ends-holding}
use Rattle.dj_meaning.proofs.EndingStatements.{join-way, ends-thrown, leaves-test, ends-normally, ends-locally, ends-passed, ends-initialised, ends-field_set, ends-constructed, ends-returns_nothing, ends-returns_value}

module _ (context : Context) (bound : ℕ) where
  -- where a number leads, and that the switch completes where it leads nowhere
  ends-switched : (groups : Groups) (go : Option ℤ → Meaning Completion) → ((wanted : Option ℤ) → is_labelled wanted groups ≡ true → EndsIn (entered_ways groups) (go wanted)) → (number : ℤ)
      → EndsIn (one_of (entered_ways groups) (normally_if (not (is_labelled None groups)))) (switched go (label_for groups number))
  ends-switched groups go h number = elim (cases_Bool (is_labelled (Some number) groups)) [
    | inl own ↦ (rw own (ends-wider (entered_ways groups) _ (first-way (entered_ways groups) (normally_if (not (is_labelled None groups)))) (h (Some number) own)))
    | inr other ↦ (rw other (elim (cases_Bool (is_labelled None groups)) [
      | inl default ↦ (rw default (ends-wider (entered_ways groups) _ (first-way (entered_ways groups) (normally_if false)) (h None default)))
      | inr none ↦ (rw none (ends-wider (normally_if true) _ (second-way (entered_ways groups) (normally_if true)) (ends-pure (normally_if true) Normal refl)))
    ]))
  ]

  mutual
    pub ends-run : (scope : Scope) (place : Place) (stm : Stm) → EndsIn (ways (label_at place) stm) (run context scope bound place stm)
    ends-run scope place (Block list) = ends-block scope list
    ends-run scope place (Labelled label statement) =
        ends-then (ways (Some label) statement) (labelled label (ways (Some label) statement)) (ends-run scope (Behind label) statement) (ends-taken label (ways (Some label) statement))
    ends-run scope place (Declare variable kind initial) = ends-after (normally_if true) (opened scope variable) (λ done. ends-initialised context (with_type variable kind scope) variable initial)
    ends-run scope place (Set variable new) = ends-normally (assigned context.headers scope variable (value context scope new))
    ends-run scope place (SetField object name new) =
        ends-with (normally_if true) (option_and_then (selected context.headers context.members context.class name) (plain (type_of context scope object)))
        (ends-field_set context name (value context scope object) (value context scope new))
    ends-run scope place (SetStatic class name new) =
        ends-with (normally_if true) (named_field context.headers context.members context.class class name) (λ field.
        ends-after (normally_if true) (value context scope new >>= fitted context.headers field.type) (λ kept. ends-normally (outside context.headers (ask (PutStatic (Class class) name field.type kept)))))
    ends-run scope place (SetElement array index new) =
        ends-with (normally_if true) (option_and_then element_of (plain (type_of context scope array)))
        (λ element. ends-after (normally_if true) (value context scope array) (λ found. ends-after (normally_if true) (value context scope index) (λ place.
        ends-after (normally_if true) (value context scope new >>= fitted context.headers element) (λ kept. ends-normally (outside context.headers (element_written context.headers found place kept))))))
    ends-run scope place (Run call) = ends-normally (effect context scope call)
    ends-run scope place (If condition first second) =
        let these = one_of (all_ways first) (all_ways second) in
        ends-after these (test context scope condition) (λ answer. ends-either these answer (ends-wider (all_ways first) these (first-way (all_ways first) (all_ways second)) (ends-block scope first))
        (ends-wider (all_ways second) these (second-way (all_ways first) (all_ways second)) (ends-block scope second)))
    ends-run scope place (While condition body) =
        ends-turns (label_at place) (not (is_true condition)) (all_ways body) bound (test context scope condition) (pure tt) (leaves-test context scope (label_at place) (all_ways body) condition) (ends-block scope body)
    ends-run scope place (Switch on cases) =
        let these = one_of (entered_ways cases) (normally_if (not (is_labelled None cases))) in
        ends-after these (value context scope on) (λ found. ends-after these (outside context.headers (number_of found)) (λ number. ends-switched cases (run_from context scope bound cases) (ends-from scope cases) number))
    ends-run scope place (trees.Break label) = ends-pure (ways (label_at place) (trees.Break label)) (Break label) (eq-eqb label label refl)
    ends-run scope place (trees.Continue label) = ends-pure (ways (label_at place) (trees.Continue label)) (Continue label) (eq-eqb label label refl)
    ends-run scope place (trees.Return None) = ends-returns_nothing context.result
    ends-run scope place (trees.Return (Some result)) = ends-after no_way (value context scope result) (ends-returns_value context context.result)
    ends-run scope place (Throw exception) = ends-after no_way (value context scope exception) (ends-thrown context)
    ends-run scope place (Rethrow variable) = ends-after no_way (look scope variable) (ends-thrown context)
    ends-run scope place (Try body clauses) = ends-handled (all_ways body) (clause_ways clauses) (ends-clauses scope clauses) (ends-block scope body)
    ends-run scope place (Synchronized monitor body) =
        ends-after (all_ways body) (value context scope monitor) (λ found. ends-after (all_ways body) (outside context.headers (with_object found (λ reference. Gives reference))) (λ reference. ends-holding (all_ways body) context.headers reference (ends-block scope body)))
    ends-run scope place (Construct this arguments) = ends-constructed context place (construct_target context this (types_of context scope arguments)) (values context scope arguments)
    ends-run scope place (Do body condition) =
        let these = all_ways body in
        let leaves = not (is_true condition) in
        ends-do_turns (label_at place) (comes_round (label_at place) these && leaves) these bound (test context scope condition)
        (round-leaves (label_at place) these leaves (test context scope condition) (leaves-test context scope (label_at place) these condition)) (ends-block scope body)
    ends-run scope place (For condition variable step body) =
        ends-turns (label_at place) (not (is_true condition)) (all_ways body) bound (test context scope condition) (assigned context.headers scope variable (value context scope step) >>= λ kept. pure tt) (leaves-test context scope (label_at place) (all_ways body) condition) (ends-block scope body)
    ends-run scope place (Finally body last) = ends-finished (all_ways body) (all_ways last) (ends-block scope last) (ends-block scope body)

    pub ends-block : (scope : Scope) (list : Stms) → EndsIn (all_ways list) (run_then context scope bound list (pure Normal))
    ends-block scope Empty = ends-pure (normally_if true) Normal refl
    ends-block scope (And first rest) =
        ends-locally (all_ways (And first rest)) (declared first)
        (ends-then (ways None first) (all_ways (And first rest)) (ends-run scope Elsewhere first)
        (ends-sequence (ways None first) (all_ways rest) (ends-block (within (declared first) scope) rest)))

    ends-list : (scope : Scope) (list : Stms) (behind_it : Ways) {next : Meaning Completion} → EndsIn behind_it next → EndsIn (both_of (all_ways list) behind_it) (run_then context scope bound list next)
    ends-list scope Empty behind_it h = record { ends = h.ends }
    ends-list scope (And first rest) behind_it h =
        let these = both_of (all_ways rest) behind_it in
        ends-wider (both_of (ways None first) these) (both_of (all_ways (And first rest)) behind_it) (join-way (ways None first) (all_ways rest) behind_it)
        (ends-locally (both_of (ways None first) these) (declared first)
        (ends-then (ways None first) (both_of (ways None first) these) (ends-run scope Elsewhere first)
        (ends-sequence (ways None first) these (ends-list (within (declared first) scope) rest behind_it h))))

    ends-groups : (scope : Scope) (groups : Groups) → EndsIn (group_ways groups) (run_groups context scope bound groups)
    ends-groups scope NoGroups = ends-pure (normally_if true) Normal refl
    ends-groups scope (AndGroup labels body rest) = ends-list scope body (group_ways rest) (ends-groups (behind body scope) rest)

    ends-from : (scope : Scope) (groups : Groups) (wanted : Option ℤ) → is_labelled wanted groups ≡ true → EndsIn (entered_ways groups) (run_from context scope bound groups wanted)
    ends-from scope NoGroups wanted e = absurd (cc)
    ends-from scope (AndGroup labels body rest) wanted e =
        let here = both_of (all_ways body) (group_ways rest) in
        let these = one_of here (entered_ways rest) in
        elim (cases_Bool (has_label wanted labels)) [
          | inl own ↦ (rw own (ends-wider here these (first-way here (entered_ways rest)) (ends-list scope body (group_ways rest) (ends-groups (behind body scope) rest))))
          | inr other ↦ (rw other (ends-passed these scope body (ends-wider (entered_ways rest) these (second-way here (entered_ways rest)) (ends-from (behind body scope) rest wanted (rw other at e)))))
        ]

    ends-clauses : (scope : Scope) (clauses : Catches) (reference : RefValue) → EndsIn (clause_ways clauses) (run_clauses context scope bound clauses reference)
    ends-clauses scope NoCatches reference = ends-stop no_way (Throws reference)
    ends-clauses scope (AndCatch class variable body rest) reference =
        let these = one_of (all_ways body) (clause_ways rest) in
        ends-either these (is_instance context.headers reference.class class)
        (ends-wider (all_ways body) these (first-way (all_ways body) (clause_ways rest))
        (ends-local (all_ways body) variable (ends-after (all_ways body) (opened scope variable) (λ done. ends-after (all_ways body) (put variable (Some (Ref reference))) (λ done. ends-block (with_type variable (Class class) scope) body)))))
        (ends-wider (clause_ways rest) these (second-way (all_ways body) (clause_ways rest)) (ends-clauses scope rest reference))

-- a statement, and statements in order, complete only in the ways of their form
pub ends-all : (context : Context) (scope : Scope) (bound : ℕ) (list : Stms) → EndsIn (all_ways list) (run_all context scope bound list)
ends-all context scope bound list = ends-block context bound scope list

-- and so do those of a body
pub ends-statements : (context : Context) (scope : Scope) (bound : ℕ) (list : Stms) → EndsIn (all_ways list) (run_statements context scope bound list)
ends-statements context scope bound Empty = ends-pure (normally_if true) Normal refl
ends-statements context scope bound (And first rest) =
    ends-locally (all_ways (And first rest)) (declared first)
    (ends-then (ways None first) (all_ways (And first rest)) (ends-run context bound scope First first)
    (ends-sequence (ways None first) (all_ways rest) (ends-all context (within (declared first) scope) bound rest)))
