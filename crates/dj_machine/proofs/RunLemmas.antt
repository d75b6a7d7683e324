-- Runs of steps, and what they show.
use Rattle.std.proofs.Common.{◌≡◌, ℕ, zero, suc, ◌-◌, ◌<◌, ◌≤◌, List, [], Option, sym, ap, ◌∙◌, subst, arith}
use Rattle.std.specs.Prelude.{option_map, Ok, Err}
use Rattle.std.specs.Borrow.{Bor}
use Rattle.std.proofs.Math.Numerals.{sub-one}
use Rattle.dj_names.specs.declared.header.Header.{Header}
use Rattle.dj_values.specs.declared.value.Value as code_value
use Rattle.dj_values.specs.Values.{Value, Action, Answer, End}
use Rattle.dj_values.specs.Views.{view_value}
use Rattle.dj_values.specs.Outcomes.{More, World, State, Outcome, Is, Stops, bind, opening, shown}
use Rattle.dj_instructions.specs.declared.instruction.Instruction as code_instruction
use Rattle.dj_instructions.specs.Instructions.{Instructions, view_instructions}
use Rattle.dj_code.specs.MethodCode.{Code}
use Rattle.dj_bytecode.specs.Machine.{Locals, local_slots, Place, step_first, caught, pc_of, onward, steps, first_locals, bytecode_show}
use Rattle.dj_operands.specs.Stacks.{stacked}
use Rattle.dj_outside.specs.declared.stop.Stop as code_stop
use Rattle.dj_outside.specs.Runs.{state_of, Ends}
use Rattle.dj_machine.specs.declared.run.Run as code_run
use Rattle.dj_machine.specs.declared.run.Place.TheVariants as places
use Rattle.dj_machine.specs.Runs.{run_state, view_place, HasCome}
use Rattle.dj_machine.proofs.Binding.{ends_bind}

-- one step of those that are left
steps_one : (headers : List Header) (code : Code) (left : ℕ) (rest : Instructions) (stack : List Value) (state : State Locals) → 0 < left
    → steps headers local_slots code left rest stack state ≡ bind (caught headers code (pc_of rest) (step_first headers local_slots code rest stack state)) (onward (steps headers local_slots code (left - 1)))
steps_one headers code zero rest stack state some = absurd (omega arith)
steps_one headers code (suc left) rest stack state some =
    ap (λ bound. bind (caught headers code (pc_of rest) (step_first headers local_slots code rest stack state)) (onward (steps headers local_slots code bound))) (sym (sub-one (suc left)))

module _ (headers : List Header) (code : Code) (whole : Outcome Locals (Option Value)) (left : ℕ) (rest : Instructions) (stack : List Value) (state : State Locals) (run : code_run.Run) where
  -- what one step comes to
  abbrev one : Outcome Locals Place
  one = caught headers code (pc_of rest) (step_first headers local_slots code rest stack state)

  abbrev behind : Place → State Locals → Outcome Locals (Option Value)
  behind = onward (steps headers local_slots code (left - 1))

  pub go_on : (next : Bor (List (ℕ × code_instruction.Instruction))) → 0 < left → whole ≡ steps headers local_slots code left rest stack state → HasCome (Ok (places.Before next)) run one
      → whole ≡ steps headers local_slots code (left - 1) (view_instructions next.now) (stacked run.stack) (run_state run)
  go_on next some so_far come = so_far ∙ steps_one headers code left rest stack state some ∙ ap (λ outcome. bind outcome behind) come

  pub go_ends : (value : Option code_value.Value) → 0 < left → whole ≡ steps headers local_slots code left rest stack state → HasCome (Ok (places.Returned value)) run one → whole ≡ Is (option_map view_value value) (run_state run)
  go_ends value some so_far come = so_far ∙ steps_one headers code left rest stack state some ∙ ap (λ outcome. bind outcome behind) come

  pub go_stops : (stop : code_stop.Stop) → 0 < left → whole ≡ steps headers local_slots code left rest stack state → HasCome (Err stop) run one → Ends (option_map view_value) (Err stop) (run_state run) whole
  go_stops stop some so_far come =
      subst (λ outcome. Ends (option_map view_value) (Err stop) (run_state run) outcome) (sym (so_far ∙ steps_one headers code left rest stack state some))
      (ends_bind (view_place (stacked run.stack)) (option_map view_value) stop (run_state run) one behind come)

pub go_done : (headers : List Header) (code : Code) (whole : Outcome Locals (Option Value)) (left : ℕ) (rest : Instructions) (stack : List Value) (state : State Locals) → left ≤ 0 → whole ≡ steps headers local_slots code left rest stack state → whole ≡ Stops More state
go_done headers code whole zero rest stack state none so_far = so_far
go_done headers code whole (suc left) rest stack state none so_far = absurd (omega arith)

-- ---- what is shown

pub show_is : (headers : List Header) (code : Code) (arguments : List Value) (answers : List Answer) (bound : ℕ) (stack : List Value) (locals : Locals) (old new : World) (actions : List Action) (end : End)
    → stack ≡ [] → locals ≡ first_locals code.max_locals arguments → old ≡ opening answers → actions ≡ new.actions
    → shown (steps headers local_slots code bound code.instructions stack (state_of locals old)) ≡ record { actions = new.actions; end = end }
    → record { actions = actions; end = end } ≡ bytecode_show headers code arguments answers bound
show_is headers code arguments answers bound stack locals old new actions end none first opened done is =
    ap (λ list. record { actions = list; end = end }) done ∙ sym is
    ∙ ap (λ list. shown (steps headers local_slots code bound code.instructions list (state_of locals old))) none
    ∙ ap (λ slots. shown (steps headers local_slots code bound code.instructions [] (state_of slots old))) first
    ∙ ap (λ world. shown (steps headers local_slots code bound code.instructions [] (state_of (first_locals code.max_locals arguments) world))) opened
