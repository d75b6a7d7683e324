-- Steps of the machine.
use Rattle.std.proofs.Common.{◌≡◌, ℕ, ◌<◌, List, [], ◌∷◌, ◌++◌, length, Option, Some, None, refl, sym, ap, ◌∙◌, subst}
use Rattle.std.specs.Prelude.{option_map, Result, Ok, Err}
use Rattle.dj_names.specs.declared.header.Header.{Header}
use Rattle.dj_values.specs.declared.value.Value as code_value
use Rattle.dj_values.specs.Values.{RefValue, Value, Ref}
use Rattle.dj_values.specs.Views.{view_value, view_values, view_reference}
use Rattle.dj_values.specs.declared.reference.RefValue as code_reference
use Rattle.dj_values.specs.Outcomes.{Throws, Stuck, Reply, Gives, then_on, World, State, Outcome, Is, Stops, bind, outside}
use Rattle.dj_instructions.specs.Instructions.{Instructions}
use Rattle.dj_code.specs.MethodCode.{Code}
use Rattle.dj_bytecode.specs.Meanings.{Family, Strict, Leads}
use Rattle.dj_bytecode.specs.Machine.{Locals, local_slots, Place, Before, pushed, led_to, step, code_from, handler_for, caught}
use Rattle.dj_operands.specs.Stacks.{top_down}
use Rattle.dj_operands.specs.Replies.{operation_of, choice_of}
use Rattle.dj_outside.specs.declared.stop.Stop as code_stop
use Rattle.dj_outside.specs.Runs.{state_of, alone, Ends}
use Rattle.dj_outside.proofs.Anywhere.{ends_anywhere}
use Rattle.dj_machine.specs.declared.run.Run as code_run
use Rattle.dj_machine.specs.declared.run.Place as code_place
use Rattle.dj_machine.specs.Runs.{HasCome}
use Rattle.dj_machine.proofs.Taking.{taken_all, taken_short}
use Rattle.dj_machine.proofs.Binding.{bind-bind, outside-then, ends_bind}

-- ---- operands, as they are seen

pub operation_seen : (meaning same : Family) (reply : Reply (Option Value)) (seen operands : List code_value.Value) → meaning ≡ same → reply ≡ operation_of same (view_values seen) → seen ≡ operands → reply ≡ operation_of meaning (view_values operands)
operation_seen meaning same reply seen operands is replied viewed =
    replied ∙ ap (λ values. operation_of same (view_values values)) viewed ∙ ap (λ family. operation_of family (view_values operands)) (sym is)

pub choice_seen : (meaning same : Family) (reply : Reply (Option ℕ)) (seen operands : List code_value.Value) → meaning ≡ same → reply ≡ choice_of same (view_values seen) → seen ≡ operands → reply ≡ choice_of meaning (view_values operands)
choice_seen meaning same reply seen operands is replied viewed = replied ∙ ap (λ values. choice_of same (view_values values)) viewed ∙ ap (λ family. choice_of family (view_values operands)) (sym is)

module _ (headers : List Header) (code : Code) where
  -- ---- strict instructions

  pub strict_short : (count : ℕ) (operation : List Value → Reply (Option Value)) (stack : List Value) (rest : Instructions) (state : State Locals) → length stack < count → step headers local_slots code (Strict count operation) rest stack state ≡ Stops Stuck state
  strict_short count operation stack rest state short =
      ap (λ first. bind (outside headers first state) (λ next after. Is (Before rest next) after)) (taken_short count [] stack (λ all under. then_on (operation all) (λ given. Gives (pushed under given))) short)

  module _ (count : ℕ) (operation : List Value → Reply (Option Value)) (reply : Reply (Option Value)) (operands : List code_value.Value) (stack below : List Value) (rest : Instructions)
      (is : stack ≡ top_down operands ++ below) (as_many : length operands ≡ count) (replied : reply ≡ operation (view_values operands)) where
    -- with its operands there, it is what its reply comes to
    strict_is : (state : State Locals) → step headers local_slots code (Strict count operation) rest stack state ≡ bind (outside headers reply state) (λ given after. Is (Before rest (pushed below given)) after)
    strict_is state =
        ap (λ first. bind (outside headers first state) (λ next after. Is (Before rest next) after)) (taken_all count operands stack below (λ all under. then_on (operation all) (λ given. Gives (pushed under given))) is as_many)
        ∙ ap (λ run. bind run (λ next after. Is (Before rest next) after)) (outside-then headers (operation (view_values operands)) (λ given. Gives (pushed below given)) state)
        ∙ bind-bind (outside headers (operation (view_values operands)) state) (λ given after. Is (pushed below given) after) (λ next after. Is (Before rest next) after)
        ∙ ap (λ first. bind (outside headers first state) (λ given after. Is (Before rest (pushed below given)) after)) (sym replied)

    -- what is given comes on top of what is left
    pub strict_gives : (locals : Locals) (old new : World) (given : Option code_value.Value) (after : List Value) → Ends (option_map view_value) (Ok given) (alone new) (outside headers reply (alone old)) → after ≡ pushed below (option_map view_value given)
        → step headers local_slots code (Strict count operation) rest stack (state_of locals old) ≡ Is (Before rest after) (state_of locals new)
    strict_gives locals old new given after told put =
        strict_is (state_of locals old)
        ∙ ap (λ run. bind run (λ value behind. Is (Before rest (pushed below value)) behind)) (ends_anywhere (option_map view_value) headers reply locals old new (Ok given) told)
        ∙ ap (λ list. Is (Before rest list) (state_of locals new)) (sym put)

    pub strict_stops : {A : Type 0} (view : A → Place) (locals : Locals) (old new : World) (stop : code_stop.Stop) → Ends (option_map view_value) (Err stop) (alone new) (outside headers reply (alone old))
        → Ends view (Err stop) (state_of locals new) (step headers local_slots code (Strict count operation) rest stack (state_of locals old))
    strict_stops view locals old new stop told =
        subst (λ run. Ends view (Err stop) (state_of locals new) run) (sym (strict_is (state_of locals old)))
        (ends_bind (option_map view_value) view stop (state_of locals new) (outside headers reply (state_of locals old)) (λ value behind. Is (Before rest (pushed below value)) behind)
        (ends_anywhere (option_map view_value) headers reply locals old new (Err stop) told))

  -- ---- jumps

  pub leads_short : (count : ℕ) (choice : List Value → Reply (Option ℕ)) (stack : List Value) (rest : Instructions) (state : State Locals) → length stack < count → step headers local_slots code (Leads count choice) rest stack state ≡ Stops Stuck state
  leads_short count choice stack rest state short =
      ap (λ first. bind (outside headers first state) (λ led after. Is (led_to code.instructions rest led) after)) (taken_short count [] stack (λ all under. then_on (choice all) (λ target. Gives (target, under))) short)

  pub leads_is : (count : ℕ) (choice : List Value → Reply (Option ℕ)) (reply : Reply (Option ℕ)) (operands : List code_value.Value) (stack below : List Value) (rest : Instructions) (state : State Locals)
      → stack ≡ top_down operands ++ below → length operands ≡ count → reply ≡ choice (view_values operands)
      → step headers local_slots code (Leads count choice) rest stack state ≡ bind (outside headers (then_on reply (λ target. Gives (target, below))) state) (λ led after. Is (led_to code.instructions rest led) after)
  leads_is count choice reply operands stack below rest state is as_many replied =
      ap (λ first. bind (outside headers first state) (λ led after. Is (led_to code.instructions rest led) after)) (taken_all count operands stack below (λ all under. then_on (choice all) (λ target. Gives (target, under))) is as_many
      ∙ ap (λ first. then_on first (λ target. Gives (target, below))) (sym replied))

  pub leads_to : (count : ℕ) (choice : List Value → Reply (Option ℕ)) (target : ℕ) (operands : List code_value.Value) (stack below : List Value) (rest from : Instructions) (state : State Locals)
      → stack ≡ top_down operands ++ below → length operands ≡ count → Gives (Some target) ≡ choice (view_values operands) → from ≡ code_from target code.instructions
      → step headers local_slots code (Leads count choice) rest stack state ≡ Is (Before from below) state
  leads_to count choice target operands stack below rest from state is as_many replied there =
      leads_is count choice (Gives (Some target)) operands stack below rest state is as_many replied ∙ ap (λ list. Is (Before list below) state) (sym there)

  -- ---- families

  -- a run has come where an instruction of this meaning leads
  pub come_by : (result : Result code_place.Place code_stop.Stop) (run : code_run.Run) (family meaning : Family) (rest : Instructions) (stack : List Value) (state : State Locals) → meaning ≡ family
      → HasCome result run (step headers local_slots code family rest stack state) → HasCome result run (step headers local_slots code meaning rest stack state)
  come_by result run family meaning rest stack state is come = subst (λ one. HasCome result run (step headers local_slots code one rest stack state)) (sym is) come

  -- ---- exceptions

  pub caught_by : (pc target : ℕ) (reference : RefValue) (state : State Locals) (from : Instructions) (stack : List Value) → handler_for headers pc reference code.handlers ≡ Some target → from ≡ code_from target code.instructions → stack ≡ Ref reference ∷ []
      → caught headers code pc (Stops (Throws reference) state) ≡ Is (Before from stack) state
  caught_by pc target reference state from stack is there alone = rw is (ap (λ list. Is (Before list (Ref reference ∷ [])) state) (sym there) ∙ ap (λ list. Is (Before from list) state) (sym alone))

  pub uncaught : (pc : ℕ) (reference : RefValue) (state : State Locals) → handler_for headers pc reference code.handlers ≡ None → caught headers code pc (Stops (Throws reference) state) ≡ Stops (Throws reference) state
  uncaught pc reference state is = rw is refl

  -- an exception that was thrown has come to its handler, if there is one
  pub come_caught : (pc : ℕ) (result : Result code_place.Place code_stop.Stop) (run : code_run.Run) (reference : code_reference.RefValue) (state : State Locals) (outcome : Outcome Locals Place)
      → outcome ≡ Stops (Throws (view_reference reference)) state → HasCome result run (caught headers code pc (Stops (Throws (view_reference reference)) state)) → HasCome result run (caught headers code pc outcome)
  come_caught pc result run reference state outcome is come = subst (λ one. HasCome result run (caught headers code pc one)) (sym is) come
