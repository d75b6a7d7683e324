-- What a relation keeps of results, stops and steps one after another it keeps of loops at one bound.
use Rattle.std.proofs.Common.{ℕ, zero, suc, Bool, true, false, Option}
use Rattle.dj_values.specs.Outcomes.{Stop, More}
use Rattle.dj_meaning.specs.Runs.{Meaning, pure, stop, ◌>>=◌}
use Rattle.dj_meaning.specs.Expressions.{either}
use Rattle.dj_meaning.specs.Completions.{Completion, Normal, Break, Continue, Return, Misfit, is_own, next_turn, turns, do_turns}

-- a relation that results, stops and steps one after another keep
pub record IsStepped (R : (A : Type 0) → Meaning A → Meaning A → Type 0) : Type 1 where
  pub pures : (completion : Completion) → R Completion (pure completion) (pure completion)
  pub stops : (why : Stop) → R Completion (stop why) (stop why)
  pub binds : {A : Type 0} {first second : Meaning A} {next later : A → Meaning Completion} → R A first second → ((result : A) → R Completion (next result) (later result)) → R Completion (first >>= next) (second >>= later)

module _ {R : (A : Type 0) → Meaning A → Meaning A → Type 0} (stepped : IsStepped R) where
  loop-either : {one other more most : Meaning Completion} (answer : Bool) → R Completion one more → R Completion other most → R Completion (either answer one other) (either answer more most)
  loop-either true h k = h
  loop-either false h k = k

  loop-next : {again later : Meaning Completion} (own : Option ℕ) → R Completion again later → (completion : Completion) → R Completion (next_turn own again completion) (next_turn own later completion)
  loop-next own h Normal = h
  loop-next own h (Break label) = stepped.pures (Break label)
  loop-next own h (Continue label) = loop-either (is_own own label) h (stepped.pures (Continue label))
  loop-next own h (Return result) = stepped.pures (Return result)
  loop-next own h Misfit = stepped.pures Misfit

  pub kept-turns : (bound : ℕ) (own : Option ℕ) {test : Meaning Bool} {step : Meaning (Unit {0})} {body later : Meaning Completion} → R Bool test test → R (Unit {0}) step step → R Completion body later
      → R Completion (turns bound own test step body) (turns bound own test step later)
  kept-turns zero own tests steps bodies = stepped.binds tests (λ answer. loop-either answer (stepped.stops More) (stepped.pures Normal))
  kept-turns (suc bound) own tests steps bodies =
      stepped.binds tests (λ answer. loop-either answer (stepped.binds bodies (loop-next own (stepped.binds steps (λ done. kept-turns bound own tests steps bodies)))) (stepped.pures Normal))

  pub kept-do_turns : (bound : ℕ) (own : Option ℕ) {test : Meaning Bool} {body later : Meaning Completion} → R Bool test test → R Completion body later → R Completion (do_turns bound own test body) (do_turns bound own test later)
  kept-do_turns zero own tests bodies = stepped.stops More
  kept-do_turns (suc bound) own tests bodies =
      stepped.binds bodies (loop-next own (stepped.binds tests (λ answer. loop-either answer (kept-do_turns bound own tests bodies) (stepped.pures Normal))))
