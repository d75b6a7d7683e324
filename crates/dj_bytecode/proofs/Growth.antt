-- A run of the machine only adds to the actions, and one of fewer steps is below one of more.
use Rattle.std.proofs.Common.{◌≡◌, ℕ, zero, suc, ◌≤◌, List, [], ◌∷◌, Option, Some, None, refl, arith}
use Rattle.std.specs.Int.{w32, int_wrapping_add}
use Rattle.dj_names.specs.declared.header.Header.{Header}
use Rattle.dj_names.specs.Types.{result_of}
use Rattle.dj_values.specs.Values.{Value, Int, Action, Answer, IsBelow}
use Rattle.dj_values.specs.Outcomes.{Throws, More, Stuck, Reply, Gives, there, then_on, State, Outcome, Is, Stops, outside, opening, IsFront, actions_of, Below}
use Rattle.dj_values.proofs.Growth.{front-refl, Rises, rises-is, rises-stops, rises-outside, rises-bind, below-refl, below-bind, shown-below}
use Rattle.dj_instructions.specs.Instructions.{Instructions}
use Rattle.dj_code.specs.MethodCode.{Code}
use Rattle.dj_bytecode.specs.Operands.{with_int}
use Rattle.dj_bytecode.specs.Shuffles.{shuffled}
use Rattle.dj_bytecode.specs.Meanings.{Family, Strict, Moves, Loads, Stores, Counts, Leads, Returns, NotRun, meaning_of}
use Rattle.dj_bytecode.specs.Machine.{Slots, local_slots, Place, Before, Returned, strict, led_to, jumped, topmost, written, step, step_first, handler_for, caught, pc_of, onward, steps, first_locals, bytecode_show}

module _ {S : Type 0} (headers : List Header) (slots : Slots S) (code : Code) where
  -- a run of the machine, from the first of these instructions on
  abbrev Run : Type 0
  Run = Instructions → List Value → State S → Outcome S (Option Value)

  -- ---- actions are only added

  rises-written : (slot : ℕ) (rest : Instructions) (given : Value × List Value) → Rises (written slots slot rest given)
  rises-written slot rest given = record { rises = λ state. front-refl state.world.actions }

  rises-step : (family : Family) (rest : Instructions) (stack : List Value) → Rises (step headers slots code family rest stack)
  rises-step (Strict count operation) rest stack =
      rises-bind (outside headers (strict count operation stack)) _ (rises-outside headers (strict count operation stack)) (λ next. rises-is (Before rest next))
  rises-step (Moves forms) rest stack =
      rises-bind (outside headers (there (shuffled forms stack))) _ (rises-outside headers (there (shuffled forms stack))) (λ next. rises-is (Before rest next))
  rises-step (Loads of_kind slot) rest stack =
      rises-bind (λ state. outside headers (then_on (there (slots.read state.store slot)) of_kind) state) _
      (record { rises = λ state. (rises-outside headers (then_on (there (slots.read state.store slot)) of_kind)).rises state }) (λ value. rises-is (Before rest (value ∷ stack)))
  rises-step (Stores of_kind slot) rest stack =
      let reply = then_on (topmost stack) (λ top. then_on (of_kind top.0) (λ value. Gives (value, top.1))) in
      rises-bind (outside headers reply) (written slots slot rest) (rises-outside headers reply) (rises-written slot rest)
  rises-step (Counts slot by) rest stack =
      let reply : S → Reply (Value × List Value) = λ store. then_on (there (slots.read store slot)) (λ value. with_int value (λ number. Gives (Int (int_wrapping_add w32 number by), stack))) in
      rises-bind (λ state. outside headers (reply state.store) state) (written slots slot rest) (record { rises = λ state. (rises-outside headers (reply state.store)).rises state }) (rises-written slot rest)
  rises-step (Leads count choice) rest stack =
      rises-bind (outside headers (jumped count choice stack)) _ (rises-outside headers (jumped count choice stack)) (λ led. rises-is (led_to code.instructions rest led))
  rises-step (Returns gives) rest stack =
      rises-bind (outside headers (gives (result_of code.descriptor) stack)) _ (rises-outside headers (gives (result_of code.descriptor) stack)) (λ value. rises-is (Returned value))
  rises-step NotRun rest stack = rises-stops More

  rises-first : (rest : Instructions) (stack : List Value) → Rises (step_first headers slots code rest stack)
  rises-first [] stack = rises-stops Stuck
  rises-first (first ∷ rest) stack = rises-step (meaning_of headers code.class first.1) rest stack

  front-caught : (pc : ℕ) (start : List Action) (outcome : Outcome S Place) → IsFront start (actions_of outcome) → IsFront start (actions_of (caught headers code pc outcome))
  front-caught pc start (Is place state) front = front
  front-caught pc start (Stops More state) front = front
  front-caught pc start (Stops Stuck state) front = front
  front-caught pc start (Stops (Throws reference) state) front = go (handler_for headers pc reference code.handlers) refl
    where
      go : (found : Option ℕ) → handler_for headers pc reference code.handlers ≡ found → IsFront start (actions_of (caught headers code pc (Stops (Throws reference) state)))
      go None is = rw is front
      go (Some target) is = rw is front

  rises-caught : (pc : ℕ) (run : State S → Outcome S Place) → Rises run → Rises (λ state. caught headers code pc (run state))
  rises-caught pc run h = record { rises = λ state. front-caught pc state.world.actions (run state) (h.rises state) }

  rises-onward : (run : Run) → ((rest : Instructions) (stack : List Value) → Rises (run rest stack)) → (place : Place) → Rises (onward run place)
  rises-onward run h (Before rest stack) = h rest stack
  rises-onward run h (Returned value) = rises-is value

  pub rises-steps : (bound : ℕ) (rest : Instructions) (stack : List Value) → Rises (steps headers slots code bound rest stack)
  rises-steps zero rest stack = rises-stops _
  rises-steps (suc bound) rest stack =
      rises-bind (λ state. caught headers code (pc_of rest) (step_first headers slots code rest stack state)) _
      (rises-caught (pc_of rest) (step_first headers slots code rest stack) (rises-first rest stack)) (rises-onward (steps headers slots code bound) (rises-steps bound))

  -- ---- greater bounds

  below-onward : (first second : Run) → ((rest : Instructions) (stack : List Value) (state : State S) → Below (first rest stack state) (second rest stack state)) → (place : Place) (state : State S) → Below (onward first place state) (onward second place state)
  below-onward first second h (Before rest stack) state = h rest stack state
  below-onward first second h (Returned value) state = refl

  pub below-steps : (bound more : ℕ) → bound ≤ more → (rest : Instructions) (stack : List Value) (state : State S) → Below (steps headers slots code bound rest stack state) (steps headers slots code more rest stack state)
  below-steps zero more less rest stack state = (rises-steps more rest stack).rises state
  below-steps (suc bound) zero less rest stack state = absurd (omega arith)
  below-steps (suc bound) (suc more) less rest stack state =
      let one = caught headers code (pc_of rest) (step_first headers slots code rest stack state) in
      below-bind one one _ _ (below-refl one) (below-onward (steps headers slots code bound) (steps headers slots code more) (below-steps bound more (omega arith))) (rises-onward (steps headers slots code more) (rises-steps more))

-- ---- methods

pub more_shows_more : (headers : List Header) (code : Code) (arguments : List Value) (answers : List Answer) (bound more : ℕ) → bound ≤ more
    → IsBelow (bytecode_show headers code arguments answers bound) (bytecode_show headers code arguments answers more)
more_shows_more headers code arguments answers bound more less =
    shown-below _ _ (below-steps headers local_slots code bound more less code.instructions [] (record { store = first_locals code.max_locals arguments; world = opening answers }))
