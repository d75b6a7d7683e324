-- Steps are below as many blocks, and blocks below steps enough.
use Rattle.std.proofs.Common.{◌≡◌, ℕ, zero, suc, ◌+◌, ◌*◌, ◌≤◌, Bool, true, false, List, [], ◌∷◌, length, Option, Some, None, refl, sym, subst, arith}
use Rattle.std.specs.Prelude.{if◌then◌else◌, ◌==◌, ◌||◌}
use Rattle.dj_names.specs.declared.header.Header.{Header}
use Rattle.dj_values.specs.Values.{Value, RefValue, Ref}
use Rattle.dj_values.specs.Outcomes.{Throws, More, Stuck, State, Outcome, Is, Stops, bind, Below}
use Rattle.dj_values.proofs.Growth.{front-refl, Rises, rises-bind, below-refl, below-bind}
use Rattle.dj_instructions.specs.Instructions.{Instructions}
use Rattle.dj_code.specs.MethodCode.{Code}
use Rattle.dj_bytecode.specs.Meanings.{meaning_of}
use Rattle.dj_bytecode.specs.Machine.{Slots, Place, Before, Returned, code_from, step, step_first, handler_for, caught, pc_of, onward, steps}
use Rattle.dj_bytecode.proofs.Growth.{rises-steps}
use Rattle.dj_blocks.specs.Blocks.{is_jump, stepped, behind, block, blocks, at_pc, counted, entered}
use Rattle.dj_blocks.proofs.Leading.{length-code_from, IsBehind, IsNear, LeadsTo, leads_behind, leads_near, rises-block, rises-onward, rises-blocks}

-- neither of two tests passes
first_fails : (first second : Bool) → (first || second) ≡ false → first ≡ false
first_fails true second is = is
first_fails false second is = refl

module _ {S : Type 0} (headers : List Header) (slots : Slots S) (code : Code) where
  abbrev Run : Type 0
  Run = Instructions → List Value → State S → Outcome S (Option Value)

  abbrev AllBelow : Run → Run → Type 0
  AllBelow first second = (rest : Instructions) (stack : List Value) (state : State S) → Below (first rest stack state) (second rest stack state)

  abbrev AllRise : Run → Type 0
  AllRise run = (rest : Instructions) (stack : List Value) → Rises (run rest stack)

  below-onward : (first second : Run) → AllBelow first second → (place : Place) (state : State S) → Below (onward first place state) (onward second place state)
  below-onward first second h (Before rest stack) state = h rest stack state
  below-onward first second h (Returned value) state = refl

  module _ (starts : ℕ → Bool) where
    -- what is left of a block, and then a run
    abbrev rest_of : Run → Run
    rest_of run rest stack state = bind (block headers slots code starts rest stack state) (onward run)

    -- ---- steps below blocks

    -- one step, and the rest
    stepping : (first second : Run) → AllBelow first second → AllRise second → (pc : ℕ) (rest : Instructions) → ((stack : List Value) (state : State S) → Below (first rest stack state) (rest_of second rest stack state))
        → (leaves : Bool) (outcome : Outcome S Place) → (leaves ≡ false → LeadsTo (IsBehind rest) outcome)
        → Below (bind (caught headers code pc outcome) (onward first)) (bind (stepped headers code pc outcome (if leaves then Is else behind (block headers slots code starts rest))) (onward second))
    stepping first second h r pc rest here true (Is place state) stays = below-onward first second h place state
    stepping first second h r pc rest here false (Is (Before next stack) state) stays = subst (λ one. Below (first one stack state) (rest_of second rest stack state)) (sym (stays refl)) (here stack state)
    stepping first second h r pc rest here false (Is (Returned value) state) stays = refl
    stepping first second h r pc rest here leaves (Stops stop state) stays =
        below-bind (caught headers code pc (Stops stop state)) (caught headers code pc (Stops stop state)) (onward first) (onward second) (below-refl (caught headers code pc (Stops stop state))) (below-onward first second h) (rises-onward headers slots code second r)

    ahead : (first second : Run) → AllBelow first second → AllRise second → AllBelow first (rest_of second)
        → (rest : Instructions) (stack : List Value) (state : State S) → Below (bind (caught headers code (pc_of rest) (step_first headers slots code rest stack state)) (onward first)) (rest_of second rest stack state)
    ahead first second h r here [] stack state = refl
    ahead first second h r here (at ∷ rest) stack state =
        let family = meaning_of headers code.class at.1 in
        stepping first second h r at.0 rest (here rest) (is_jump family || starts (pc_of rest)) (step headers slots code family rest stack state)
        (λ on. leads_behind headers slots code family rest stack state (first_fails (is_jump family) (starts (pc_of rest)) on))

    rises-rest : (run : Run) → AllRise run → AllRise (rest_of run)
    rises-rest run r rest stack = rises-bind (block headers slots code starts rest stack) (onward run) (rises-block headers slots code starts rest stack) (rises-onward headers slots code run r)

    blocked : (bound : ℕ) → ((more : ℕ) → bound ≤ more → AllBelow (steps headers slots code bound) (rest_of (blocks headers slots code starts more)))
        → (more : ℕ) → suc bound ≤ more → AllBelow (steps headers slots code bound) (blocks headers slots code starts more)
    blocked bound h zero less rest stack state = absurd (omega arith)
    blocked bound h (suc more) less rest stack state = h more (omega arith) rest stack state

    pub steps-below : (bound more : ℕ) → bound ≤ more → AllBelow (steps headers slots code bound) (rest_of (blocks headers slots code starts more))
    steps-below zero more less rest stack state = (rises-rest (blocks headers slots code starts more) (rises-blocks headers slots code starts more) rest stack).rises state
    steps-below (suc bound) more less rest stack state =
        ahead (steps headers slots code bound) (blocks headers slots code starts more) (blocked bound (steps-below bound) more less) (rises-blocks headers slots code starts more) (steps-below bound more (omega arith)) rest stack state

    -- ---- blocks below steps

    -- runs that are below others wherever they begin in the code
    abbrev AllNear : Run → Run → Type 0
    AllNear first second = (rest : Instructions) → length rest ≤ length code.instructions → (stack : List Value) (state : State S) → Below (first rest stack state) (second rest stack state)

    near-onward : (first second : Run) → AllNear first second → (place : Place) (state : State S) → IsNear (length code.instructions) place → Below (onward first place state) (onward second place state)
    near-onward first second h (Before rest stack) state near = h rest near stack state
    near-onward first second h (Returned value) state near = refl

    near-caught : (first second : Run) → AllNear first second → (pc : ℕ) (reference : RefValue) (state : State S) (found : Option ℕ) → handler_for headers pc reference code.handlers ≡ found
        → Below (bind (caught headers code pc (Stops (Throws reference) state)) (onward first)) (bind (caught headers code pc (Stops (Throws reference) state)) (onward second))
    near-caught first second h pc reference state None is = rw is refl
    near-caught first second h pc reference state (Some target) is = rw is (h (code_from target code.instructions) (length-code_from target code.instructions) (Ref reference ∷ []) state)

    -- one step of a block
    following : (first second : Run) → AllNear first second → (pc : ℕ) (rest : Instructions) → ((stack : List Value) (state : State S) → Below (rest_of first rest stack state) (second rest stack state))
        → (leaves : Bool) (outcome : Outcome S Place) → (leaves ≡ false → LeadsTo (IsBehind rest) outcome) → LeadsTo (IsNear (length code.instructions)) outcome
        → Below (bind (stepped headers code pc outcome (if leaves then Is else behind (block headers slots code starts rest))) (onward first)) (bind (caught headers code pc outcome) (onward second))
    following first second h pc rest here true (Is place state) stays near = near-onward first second h place state near
    following first second h pc rest here false (Is (Before next stack) state) stays near = subst (λ one. Below (rest_of first rest stack state) (second one stack state)) (sym (stays refl)) (here stack state)
    following first second h pc rest here false (Is (Returned value) state) stays near = refl
    following first second h pc rest here leaves (Stops (Throws reference) state) stays near = near-caught first second h pc reference state (handler_for headers pc reference code.handlers) refl
    following first second h pc rest here leaves (Stops More state) stays near = front-refl state.world.actions
    following first second h pc rest here leaves (Stops Stuck state) stays near = refl

    -- what is left of a block, and what follows it, below steps enough
    rest-below : (bound enough : ℕ) → ((more : ℕ) → enough ≤ more → AllNear (blocks headers slots code starts bound) (steps headers slots code more))
        → (rest : Instructions) (more : ℕ) → length rest ≤ length code.instructions → suc (length rest) + enough ≤ more → (stack : List Value) (state : State S) → Below (rest_of (blocks headers slots code starts bound) rest stack state) (steps headers slots code more rest stack state)
    rest-below bound enough h rest zero within less stack state = absurd (omega arith)
    rest-below bound enough h [] (suc more) within less stack state = refl
    rest-below bound enough h (at ∷ rest) (suc more) within less stack state =
        let family = meaning_of headers code.class at.1 in
        following (blocks headers slots code starts bound) (steps headers slots code more) (h more (omega arith)) at.0 rest (λ next after. rest-below bound enough h rest more (omega arith) (omega arith) next after)
        (is_jump family || starts (pc_of rest)) (step headers slots code family rest stack state) (λ on. leads_behind headers slots code family rest stack state (first_fails (is_jump family) (starts (pc_of rest)) on))
        (leads_near headers slots code family rest stack state (omega arith))

    pub blocks-below : (bound more : ℕ) → bound * suc (length code.instructions) ≤ more → AllNear (blocks headers slots code starts bound) (steps headers slots code more)
    blocks-below zero more less rest within stack state = (rises-steps headers slots code more rest stack).rises state
    blocks-below (suc bound) more less rest within stack state =
        rest-below bound (bound * suc (length code.instructions)) (blocks-below bound) rest more within (omega arith) stack state

  -- ---- how often

  one_most : (pc : ℕ) (rest : Instructions) → at_pc pc rest ≤ 1
  one_most pc [] = omega arith
  one_most pc (first ∷ rest) = tested (first.0 == pc)
    where
      tested : (test : Bool) → (if test then 1 else 0) ≤ 1
      tested true = omega arith
      tested false = omega arith

  counted_most : (run : Instructions → List Value → State S → ℕ) (most : ℕ) → ((rest : Instructions) (stack : List Value) (state : State S) → run rest stack state ≤ most) → (outcome : Outcome S Place) → counted run outcome ≤ most
  counted_most run most h (Is (Before rest stack) state) = h rest stack state
  counted_most run most h (Is (Returned value) state) = omega arith
  counted_most run most h (Stops stop state) = omega arith

  pub entered_seldom : (pc bound : ℕ) (rest : Instructions) (stack : List Value) (state : State S) → entered headers slots code pc bound rest stack state ≤ suc bound
  entered_seldom pc zero rest stack state = one_most pc rest
  entered_seldom pc (suc bound) rest stack state =
      let one = one_most pc rest in
      let later = counted_most (entered headers slots code pc bound) (suc bound) (entered_seldom pc bound) (caught headers code (pc_of rest) (step_first headers slots code rest stack state)) in
      omega arith
