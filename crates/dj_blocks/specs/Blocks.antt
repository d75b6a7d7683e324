-- Runs by blocks: a block is left where another starts, by a jump, by an exception, or at the end (JVMS 2.10, 2.11.7).
use Rattle.std.specs.Prelude.{ℕ, zero, suc, ◌+◌, ◌==◌, ◌||◌, Bool, true, false, if◌then◌else◌, List, [], ◌∷◌, Option}
use Rattle.dj_names.specs.declared.header.Header.{Header}
use Rattle.dj_values.specs.Values.{Value}
use Rattle.dj_values.specs.Outcomes.{More, Stuck, State, Outcome, Is, Stops, bind}
use Rattle.dj_instructions.specs.Instructions.{Instructions}
use Rattle.dj_code.specs.MethodCode.{Code}
use Rattle.dj_bytecode.specs.Meanings.{Family, Strict, Moves, Loads, Stores, Counts, Leads, Returns, NotRun, meaning_of}
use Rattle.dj_bytecode.specs.Machine.{Slots, Place, Before, Returned, step, step_first, caught, pc_of, onward}

-- an instruction jumps, if only on some operands
abbrev pub is_jump : Family → Bool
is_jump (Strict count operation) = false
is_jump (Moves forms) = false
is_jump (Loads of_kind slot) = false
is_jump (Stores of_kind slot) = false
is_jump (Counts slot by) = false
is_jump (Leads count choice) = true
is_jump (Returns gives) = false
is_jump NotRun = false

-- what follows a step of the instruction at this offset, unless it stops; where it threw, its handler comes next
abbrev pub stepped : {S : Type 0} → List Header → Code → ℕ → Outcome S Place → (Place → State S → Outcome S Place) → Outcome S Place
stepped headers code pc (Is place state) next = next place state
stepped headers code pc (Stops stop state) next = caught headers code pc (Stops stop state)

-- on behind an instruction, or at the end
abbrev pub behind : {S : Type 0} → (List Value → State S → Outcome S Place) → Place → State S → Outcome S Place
behind run (Before rest stack) state = run stack state
behind run (Returned value) state = Is (Returned value) state

-- where a block leads, from the first of these instructions on, by the offsets at which blocks start
abbrev pub block : {S : Type 0} → List Header → Slots S → Code → (ℕ → Bool) → Instructions → List Value → State S → Outcome S Place
block headers slots code starts [] stack state = Stops Stuck state
block headers slots code starts (first ∷ rest) stack state =
    let family = meaning_of headers code.class first.1 in
    stepped headers code first.0 (step headers slots code family rest stack state)
    (if is_jump family || starts (pc_of rest) then Is else behind (block headers slots code starts rest))

-- at most so many blocks, from the first of these instructions on
abbrev pub blocks : {S : Type 0} → List Header → Slots S → Code → (ℕ → Bool) → ℕ → Instructions → List Value → State S → Outcome S (Option Value)
blocks headers slots code starts zero rest stack state = Stops More state
blocks headers slots code starts (suc bound) rest stack state =
    bind (block headers slots code starts rest stack state) (onward (blocks headers slots code starts bound))

-- ---- how often

-- 1 where the first of these instructions is at this offset, else 0
abbrev pub at_pc : ℕ → Instructions → ℕ
at_pc pc [] = 0
at_pc pc (first ∷ rest) = if first.0 == pc then 1 else 0

-- how often from a place on, if the run goes on from one
abbrev pub counted : {S : Type 0} → (Instructions → List Value → State S → ℕ) → Outcome S Place → ℕ
counted run (Is (Before rest stack) state) = run rest stack state
counted run (Is (Returned value) state) = 0
counted run (Stops stop state) = 0

-- how often a run of at most so many steps comes before the instruction at this offset
abbrev pub entered : {S : Type 0} → List Header → Slots S → Code → ℕ → ℕ → Instructions → List Value → State S → ℕ
entered headers slots code pc zero rest stack state = at_pc pc rest
entered headers slots code pc (suc bound) rest stack state =
    at_pc pc rest + counted (entered headers slots code pc bound) (caught headers code (pc_of rest) (step_first headers slots code rest stack state))
