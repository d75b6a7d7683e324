-- Where one step leads, and that it only adds actions.
use Rattle.std.proofs.Common.{◌≡◌, ℕ, ◌≤◌, Bool, true, false, List, [], ◌∷◌, length, Option, Some, None, refl, sym, subst, arith}
use Rattle.std.specs.Prelude.{zero, suc, if◌then◌else◌, ◌==◌, ◌||◌}
use Rattle.std.proofs.lemmas.Bool.{false≢true}
use Rattle.dj_names.specs.declared.header.Header.{Header}
use Rattle.dj_names.specs.Types.{result_of}
use Rattle.std.specs.Int.{w32, int_wrapping_add}
use Rattle.dj_values.specs.Values.{Value, Int, Action}
use Rattle.dj_values.specs.Outcomes.{More, Stuck, Gives, there, then_on, State, Outcome, Is, Stops, bind, outside, IsFront, actions_of}
use Rattle.dj_values.proofs.Growth.{front-join, Rises, rises-is, rises-stops, rises-bind}
use Rattle.dj_instructions.specs.Instructions.{Instructions}
use Rattle.dj_code.specs.MethodCode.{Code}
use Rattle.dj_bytecode.specs.Operands.{with_int}
use Rattle.dj_bytecode.specs.Shuffles.{shuffled}
use Rattle.dj_bytecode.specs.Meanings.{Family, Strict, Moves, Loads, Stores, Counts, Leads, Returns, NotRun, meaning_of}
use Rattle.dj_bytecode.specs.Machine.{Slots, Place, Before, Returned, strict, jumped, topmost, led_to, code_from, written, step, step_first, caught, pc_of, onward, steps}
use Rattle.dj_bytecode.proofs.Growth.{rises-steps}
use Rattle.dj_blocks.specs.Blocks.{is_jump, stepped, behind, block, blocks}

shorter : (test : Bool) (whole part : Instructions) → length part ≤ length whole → length (if test then whole else part) ≤ length whole
shorter true whole part less = omega arith
shorter false whole part less = less

pub length-code_from : (pc : ℕ) (instructions : Instructions) → length (code_from pc instructions) ≤ length instructions
length-code_from pc [] = omega arith
length-code_from pc (first ∷ rest) = shorter (first.0 == pc) (first ∷ rest) (code_from pc rest) (let less = length-code_from pc rest in omega arith)

-- a place in front of these instructions, or the end
abbrev pub IsBehind : Instructions → Place → Type 0
IsBehind rest (Before next stack) = next ≡ rest
IsBehind rest (Returned value) = Unit {0}

-- a place in front of no more instructions than so many, or the end
abbrev pub IsNear : ℕ → Place → Type 0
IsNear most (Before next stack) = length next ≤ most
IsNear most (Returned value) = Unit {0}

-- what holds of the place that a step leads to, if it leads to one
abbrev pub LeadsTo : {S : Type 0} → (Place → Type 0) → Outcome S Place → Type 0
LeadsTo P (Is place state) = P place
LeadsTo P (Stops stop state) = Unit {0}

leads-bind : {S A : Type 0} (P : Place → Type 0) (first : Outcome S A) (next : A → State S → Outcome S Place) → ((result : A) (state : State S) → LeadsTo P (next result state)) → LeadsTo P (bind first next)
leads-bind P (Is result state) next h = h result state
leads-bind P (Stops stop state) next h = tt

near_led : (most : ℕ) (all rest : Instructions) (led : Option ℕ × List Value) → length all ≤ most → length rest ≤ most → IsNear most (led_to all rest led)
near_led most all rest (None, stack) whole part = part
near_led most all rest (Some target, stack) whole part = let less = length-code_from target all in omega arith

module _ {S : Type 0} (headers : List Header) (slots : Slots S) (code : Code) where
  -- an instruction that doesn't jump leads to the one behind it
  pub leads_behind : (family : Family) (rest : Instructions) (stack : List Value) (state : State S) → is_jump family ≡ false → LeadsTo (IsBehind rest) (step headers slots code family rest stack state)
  leads_behind (Strict count operation) rest stack state plain = leads-bind (IsBehind rest) (outside headers (strict count operation stack) state) (λ next. Is (Before rest next)) (λ result after. refl)
  leads_behind (Moves forms) rest stack state plain = leads-bind (IsBehind rest) (outside headers (there (shuffled forms stack)) state) (λ next. Is (Before rest next)) (λ result after. refl)
  leads_behind (Loads of_kind slot) rest stack state plain = leads-bind (IsBehind rest) (outside headers (then_on (there (slots.read state.store slot)) of_kind) state) (λ value. Is (Before rest (value ∷ stack))) (λ result after. refl)
  leads_behind (Stores of_kind slot) rest stack state plain =
      leads-bind (IsBehind rest) (outside headers (then_on (topmost stack) (λ top. then_on (of_kind top.0) (λ value. Gives (value, top.1)))) state) (written slots slot rest) (λ result after. refl)
  leads_behind (Counts slot by) rest stack state plain =
      leads-bind (IsBehind rest) (outside headers (then_on (there (slots.read state.store slot)) (λ value. with_int value (λ number. Gives (Int (int_wrapping_add w32 number by), stack)))) state) (written slots slot rest) (λ result after. refl)
  leads_behind (Leads count choice) rest stack state plain = absurd (false≢true (sym plain))
  leads_behind (Returns gives) rest stack state plain = leads-bind (IsBehind rest) (outside headers (gives (result_of code.descriptor) stack) state) (λ value. Is (Returned value)) (λ result after. tt)
  leads_behind NotRun rest stack state plain = tt

  -- and each instruction to a place within the code
  pub leads_near : (family : Family) (rest : Instructions) (stack : List Value) (state : State S) → length rest ≤ length code.instructions → LeadsTo (IsNear (length code.instructions)) (step headers slots code family rest stack state)
  leads_near (Strict count operation) rest stack state within = leads-bind (IsNear (length code.instructions)) (outside headers (strict count operation stack) state) (λ next. Is (Before rest next)) (λ result after. within)
  leads_near (Moves forms) rest stack state within = leads-bind (IsNear (length code.instructions)) (outside headers (there (shuffled forms stack)) state) (λ next. Is (Before rest next)) (λ result after. within)
  leads_near (Loads of_kind slot) rest stack state within = leads-bind (IsNear (length code.instructions)) (outside headers (then_on (there (slots.read state.store slot)) of_kind) state) (λ value. Is (Before rest (value ∷ stack))) (λ result after. within)
  leads_near (Stores of_kind slot) rest stack state within =
      leads-bind (IsNear (length code.instructions)) (outside headers (then_on (topmost stack) (λ top. then_on (of_kind top.0) (λ value. Gives (value, top.1)))) state) (written slots slot rest) (λ result after. within)
  leads_near (Counts slot by) rest stack state within =
      leads-bind (IsNear (length code.instructions)) (outside headers (then_on (there (slots.read state.store slot)) (λ value. with_int value (λ number. Gives (Int (int_wrapping_add w32 number by), stack)))) state) (written slots slot rest) (λ result after. within)
  leads_near (Leads count choice) rest stack state within =
      leads-bind (IsNear (length code.instructions)) (outside headers (jumped count choice stack) state) (λ led. Is (led_to code.instructions rest led)) (λ led after. near_led (length code.instructions) code.instructions rest led (omega arith) within)
  leads_near (Returns gives) rest stack state within = leads-bind (IsNear (length code.instructions)) (outside headers (gives (result_of code.descriptor) stack) state) (λ value. Is (Returned value)) (λ result after. tt)
  leads_near NotRun rest stack state within = tt

  -- ---- actions are only added

  once : (outcome : Outcome S Place) → actions_of (bind outcome (onward (steps headers slots code 0))) ≡ actions_of outcome
  once (Is (Before rest stack) state) = refl
  once (Is (Returned value) state) = refl
  once (Stops stop state) = refl

  -- one step, and the handler of an exception that it throws
  pub rises-once : (rest : Instructions) (stack : List Value) → Rises (λ state. caught headers code (pc_of rest) (step_first headers slots code rest stack state))
  rises-once rest stack = record {
    rises = λ state. subst (λ actions. IsFront state.world.actions actions) (once (caught headers code (pc_of rest) (step_first headers slots code rest stack state))) ((rises-steps headers slots code 1 rest stack).rises state);
  }

  front-stepped : (start : List Action) (pc : ℕ) (outcome : Outcome S Place) (next : Place → State S → Outcome S Place) → IsFront start (actions_of (caught headers code pc outcome)) → ((place : Place) → Rises (next place)) → IsFront start (actions_of (stepped headers code pc outcome next))
  front-stepped start pc (Is place state) next front h = front-join start state.world.actions _ front ((h place).rises state)
  front-stepped start pc (Stops stop state) next front h = front

  rises-next : (test : Bool) (run : List Value → State S → Outcome S Place) → ((stack : List Value) → Rises (run stack)) → (place : Place) → Rises ((if test then Is else behind run) place)
  rises-next true run h place = rises-is place
  rises-next false run h (Before rest stack) = h stack
  rises-next false run h (Returned value) = rises-is (Returned value)

  pub rises-block : (starts : ℕ → Bool) (rest : Instructions) (stack : List Value) → Rises (block headers slots code starts rest stack)
  rises-block starts [] stack = rises-stops Stuck
  rises-block starts (first ∷ rest) stack = record {
    rises = λ state.
        front-stepped state.world.actions first.0 (step headers slots code (meaning_of headers code.class first.1) rest stack state) _ ((rises-once (first ∷ rest) stack).rises state)
        (rises-next (is_jump (meaning_of headers code.class first.1) || starts (pc_of rest)) (block headers slots code starts rest) (rises-block starts rest));
  }

  pub rises-onward : (run : Instructions → List Value → State S → Outcome S (Option Value)) → ((rest : Instructions) (stack : List Value) → Rises (run rest stack)) → (place : Place) → Rises (onward run place)
  rises-onward run h (Before rest stack) = h rest stack
  rises-onward run h (Returned value) = rises-is value

  pub rises-blocks : (starts : ℕ → Bool) (bound : ℕ) (rest : Instructions) (stack : List Value) → Rises (blocks headers slots code starts bound rest stack)
  rises-blocks starts zero rest stack = rises-stops More
  rises-blocks starts (suc bound) rest stack =
      rises-bind (block headers slots code starts rest stack) _ (rises-block starts rest stack) (rises-onward (blocks headers slots code starts bound) (rises-blocks starts bound))
