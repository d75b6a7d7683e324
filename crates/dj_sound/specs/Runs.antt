-- Runs of a method's code that go wrong: an operand is lacking, or of a wrong kind (JVMS 2.11.1, 4.10).
use Rattle.std.specs.Prelude.{ℕ, List, [], Option}
use Rattle.dj_names.specs.declared.header.Header.{Header}
use Rattle.dj_values.specs.Values.{Value, Answer}
use Rattle.dj_values.specs.Outcomes.{Throws, More, Stuck, Outcome, Is, Stops, opening}
use Rattle.dj_code.specs.MethodCode.{Code}
use Rattle.dj_bytecode.specs.Machine.{Locals, local_slots, steps, first_locals}
use Rattle.dj_bytecode.specs.SameShows.{AreArgumentsOf}

-- the run that `bytecode_show` shows: at most so many steps of a method, by these headers, with these arguments and answers
abbrev pub run : List Header → Code → List Value → List Answer → ℕ → Outcome Locals (Option Value)
run headers code arguments answers bound =
    steps headers local_slots code bound code.instructions [] (record { store = first_locals code.max_locals arguments; world = opening answers })

-- the run stops where the rules of the machine rule it out
abbrev pub IsStuck : {S A : Type 0} → Outcome S A → Type 0
IsStuck (Is result state) = ⊥
IsStuck (Stops (Throws reference) state) = ⊥
IsStuck (Stops More state) = ⊥
IsStuck (Stops Stuck state) = Unit {0}

-- no run is stuck, whatever classes run, from arguments that fit the method, whatever the answers
abbrev pub NeverGoesWrong : Code → Type 0
NeverGoesWrong code =
    (headers : List Header) (arguments : List Value) → AreArgumentsOf headers code arguments → (answers : List Answer) (bound : ℕ) → ¬ IsStuck (run headers code arguments answers bound)
