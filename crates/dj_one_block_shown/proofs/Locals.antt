-- The first local stays as it is in a block of code that stores nothing there.
use Rattle.std.proofs.Common.{◌≡◌, ◌≢◌, ℕ, ◌==◌, Bool, true, false, List, [], ◌∷◌, Option, Some, None, get_or-set_other, refl, sym, ap, ◌∙◌, subst}
use Rattle.std.specs.Prelude.{◌||◌, not, ◌&&◌, if◌then◌else◌, slice_index_or}
use Rattle.std.proofs.lemmas.Bool.{eqb-true}
use Rattle.dj_names.specs.declared.header.Header.{Header}
use Rattle.dj_names.specs.Headers.{Name}
use Rattle.dj_names.specs.Types.{result_of}
use Rattle.dj_instructions.specs.Instructions.{Instruction, Instructions}
use Rattle.dj_instructions.specs.Instructions as op
use Rattle.dj_values.specs.Values.{RefValue, Value, Answer, Action}
use Rattle.dj_values.specs.Values as values
use Rattle.dj_values.specs.Deciding.{is_answer}
use Rattle.dj_values.specs.Outcomes.{Throws, More, Stuck, Reply, Gives, Halts, Asks, there, then_on, acted, answered, State, Outcome, Is, Stops, bind, outside}
use Rattle.std.specs.Int.{w32, int_wrapping_add}
use Rattle.dj_code.specs.MethodCode.{Code}
use Rattle.dj_bytecode.specs.Operands.{with_int}
use Rattle.dj_bytecode.specs.Shuffles.{shuffled}
use Rattle.dj_bytecode.specs.Meanings.{Family, Strict, Moves, Loads, Stores, Counts, Leads, Returns, NotRun, meaning_of}
use Rattle.dj_bytecode.specs.Machine.{Locals, local_slots, Place, Before, Returned, strict, jumped, led_to, topmost, written, step, pc_of, caught}
use Rattle.dj_blocks.specs.Blocks.{is_jump, stepped, behind, block}
use Rattle.dj_vars.specs.Naming.{written_slot}
use Rattle.dj_vars.specs.Agreeing.{NeverWrites, KeepsThis}
use Rattle.dj_edges.specs.Edges.{is_slot, writes_slot, keeps_this}

-- ---- a run keeps the first local

-- the first local
abbrev pub first_local : Locals → Option Value
first_local locals = slice_index_or locals 0 None

-- it is this, however the run ends
abbrev pub HasFirst : {A : Type 0} → Option Value → Outcome Locals A → Type 0
HasFirst found (Is result state) = first_local state.store ≡ found
HasFirst found (Stops stop state) = first_local state.store ≡ found

module _ {A : Type 0} (headers : List Header) (found : Option Value) where
  answered-keeps : (action : Action) (next : Answer → Reply A) → ((answer : Answer) (state : State Locals) → first_local state.store ≡ found → HasFirst found (outside headers (next answer) state))
      → (answers : List Answer) (state : State Locals) → first_local state.store ≡ found → HasFirst found (answered headers action (λ answer. outside headers (next answer)) answers state)
  answered-keeps action next h [] state e = e
  answered-keeps action next h (first ∷ rest) state e = by (is_answer headers action first)
    where
      by : (test : Bool) → HasFirst found (if test then outside headers (next first) (record { store = state.store; world = record { answers = rest; actions = state.world.actions } }) else Stops More state)
      by true = h first (record { store = state.store; world = record { answers = rest; actions = state.world.actions } }) e
      by false = e

  pub outside-keeps : (reply : Reply A) (state : State Locals) → first_local state.store ≡ found → HasFirst found (outside headers reply state)
  outside-keeps (Gives result) state e = e
  outside-keeps (Halts stop) state e = e
  outside-keeps (Asks action next) state e = answered-keeps action next (λ answer state e. outside-keeps (next answer) state e) state.world.answers (acted action state) e

bind-keeps : {A B : Type 0} (found : Option Value) (first : Outcome Locals A) (next : A → State Locals → Outcome Locals B) → HasFirst found first → ((result : A) (state : State Locals) → first_local state.store ≡ found → HasFirst found (next result state))
    → HasFirst found (bind first next)
bind-keeps found (Is result state) next h k = k result state h
bind-keeps found (Stops stop state) next h k = h

-- ---- a step

-- a family writes no first local
abbrev pub Spares : Family → Type 0
Spares family = ¬ (written_slot family ≡ Some 0)

written-keeps : (found : Option Value) (slot : ℕ) (rest : Instructions) → (0 ≢ slot) → (given : Value × List Value) (state : State Locals) → first_local state.store ≡ found → HasFirst found (written local_slots slot rest given state)
written-keeps found slot rest other given state e = get_or-set_other state.store slot 0 (Some given.0) None other ∙ e

slot-other : (slot : ℕ) → ¬ (Some slot ≡ Some 0) → 0 ≢ slot
slot-other slot spares same = spares (ap Some (sym same))

module _ (headers : List Header) (code : Code) (found : Option Value) where
  step-keeps : (family : Family) → Spares family → (rest : Instructions) (stack : List Value) (state : State Locals) → first_local state.store ≡ found → HasFirst found (step headers local_slots code family rest stack state)
  step-keeps (Strict count operation) spares rest stack state e =
      bind-keeps found (outside headers (strict count operation stack) state) (λ next. Is (Before rest next)) (outside-keeps headers found (strict count operation stack) state e) (λ result after f. f)
  step-keeps (Moves forms) spares rest stack state e =
      bind-keeps found (outside headers (there (shuffled forms stack)) state) (λ next. Is (Before rest next)) (outside-keeps headers found (there (shuffled forms stack)) state e) (λ result after f. f)
  step-keeps (Loads of_kind slot) spares rest stack state e =
      bind-keeps found (outside headers (then_on (there (local_slots.read state.store slot)) of_kind) state) (λ value. Is (Before rest (value ∷ stack)))
      (outside-keeps headers found (then_on (there (local_slots.read state.store slot)) of_kind) state e) (λ result after f. f)
  step-keeps (Stores of_kind slot) spares rest stack state e =
      bind-keeps found (outside headers (then_on (topmost stack) (λ top. then_on (of_kind top.0) (λ value. Gives (value, top.1)))) state) (written local_slots slot rest)
      (outside-keeps headers found (then_on (topmost stack) (λ top. then_on (of_kind top.0) (λ value. Gives (value, top.1)))) state e) (λ given after f. written-keeps found slot rest (slot-other slot spares) given after f)
  step-keeps (Counts slot by) spares rest stack state e =
      bind-keeps found (outside headers (then_on (there (local_slots.read state.store slot)) (λ value. with_int value (λ number. Gives (values.Int (int_wrapping_add w32 number by), stack)))) state) (written local_slots slot rest)
      (outside-keeps headers found (then_on (there (local_slots.read state.store slot)) (λ value. with_int value (λ number. Gives (values.Int (int_wrapping_add w32 number by), stack)))) state e) (λ given after f. written-keeps found slot rest (slot-other slot spares) given after f)
  step-keeps (Leads count choice) spares rest stack state e =
      bind-keeps found (outside headers (jumped count choice stack) state) (λ led. Is (led_to code.instructions rest led)) (outside-keeps headers found (jumped count choice stack) state e) (λ result after f. f)
  step-keeps (Returns gives) spares rest stack state e =
      bind-keeps found (outside headers (gives (result_of code.descriptor) stack) state) (λ value. Is (Returned value)) (outside-keeps headers found (gives (result_of code.descriptor) stack) state e) (λ result after f. f)
  step-keeps NotRun spares rest stack state e = e

-- ---- a block

-- which slot an instruction writes depends on no class
same-slot : (headers : List Header) (class : Name) (instruction : Instruction) → written_slot (meaning_of headers class instruction) ≡ written_slot (meaning_of [] [] instruction)
same-slot headers class op.Nop = refl
same-slot headers class op.PushNull = refl
same-slot headers class (op.Push constant) = search
same-slot headers class (op.PushClass type) = refl
same-slot headers class (op.PushHandle kind interface owner name descriptor) = refl
same-slot headers class (op.PushMethodType descriptor) = refl
same-slot headers class (op.Load kind slot) = refl
same-slot headers class (op.Store kind slot) = refl
same-slot headers class (op.ArrayLoad element) = refl
same-slot headers class (op.ArrayStore element) = refl
same-slot headers class op.Pop = refl
same-slot headers class op.Pop2 = refl
same-slot headers class op.Dup = refl
same-slot headers class op.DupX1 = refl
same-slot headers class op.DupX2 = refl
same-slot headers class op.Dup2 = refl
same-slot headers class op.Dup2X1 = refl
same-slot headers class op.Dup2X2 = refl
same-slot headers class op.Swap = refl
same-slot headers class (op.Calc operation kind) = refl
same-slot headers class (op.Iinc slot by) = refl
same-slot headers class (op.Convert from to) = refl
same-slot headers class (op.Compare kind greater) = refl
same-slot headers class (op.IfZero test target) = refl
same-slot headers class (op.IfInts test target) = refl
same-slot headers class (op.IfRefs equal target) = refl
same-slot headers class (op.IfNull null target) = refl
same-slot headers class (op.Goto target) = refl
same-slot headers class (op.TableSwitch low targets other) = refl
same-slot headers class (op.LookupSwitch cases other) = refl
same-slot headers class (op.Return kind) = refl
same-slot headers class (op.GetStatic field) = refl
same-slot headers class (op.PutStatic field) = refl
same-slot headers class (op.GetField field) = refl
same-slot headers class (op.PutField field) = refl
same-slot headers class (op.InvokeVirtual method) = refl
same-slot headers class (op.InvokeSpecial method) = refl
same-slot headers class (op.InvokeStatic method) = refl
same-slot headers class (op.InvokeInterface method) = refl
same-slot headers class (op.InvokeDynamic bootstrap name descriptor) = refl
same-slot headers class (op.New name) = refl
same-slot headers class (op.NewArray element) = refl
same-slot headers class (op.MultiNewArray type sizes) = refl
same-slot headers class op.ArrayLength = refl
same-slot headers class op.Throw = refl
same-slot headers class (op.CheckCast type) = refl
same-slot headers class (op.InstanceOf type) = refl
same-slot headers class op.MonitorEnter = refl
same-slot headers class op.MonitorExit = refl

caught-keeps : (headers : List Header) (code : Code) (found : Option Value) (pc : ℕ) (run : Outcome Locals Place) → code.handlers ≡ [] → HasFirst found run → HasFirst found (caught headers code pc run)
caught-keeps headers code found pc (Is place state) none h = h
caught-keeps headers code found pc (Stops More state) none h = h
caught-keeps headers code found pc (Stops Stuck state) none h = h
caught-keeps headers code found pc (Stops (Throws reference) state) none h = subst (λ (handlers : List _). HasFirst found (caught headers (record code { handlers = handlers }) pc (Stops (Throws reference) state))) (sym none) h

pub block-keeps : (headers : List Header) (code : Code) (starts : ℕ → Bool) (found : Option Value) → code.handlers ≡ [] → (list : Instructions) → NeverWrites 0 list → (stack : List Value) (state : State Locals) → first_local state.store ≡ found → HasFirst found (block headers local_slots code starts list stack state)
block-keeps headers code starts found none [] never stack state e = e
block-keeps headers code starts found none (first ∷ rest) never stack state e =
    then-on (λ list after f. block-keeps headers code starts found none rest never.1 list after f) (step headers local_slots code (meaning_of headers code.class first.1) rest stack state)
    (step-keeps headers code found (meaning_of headers code.class first.1) (λ writes. never.0 (sym (same-slot headers code.class first.1) ∙ writes)) rest stack state e)
  where
    behind-keeps : ((list : List Value) (after : State Locals) → first_local after.store ≡ found → HasFirst found (block headers local_slots code starts rest list after)) → (place : Place) (after : State Locals) → first_local after.store ≡ found → HasFirst found (behind (block headers local_slots code starts rest) place after)
    behind-keeps later (Before others list) after f = later list after f
    behind-keeps later (Returned value) after f = f

    go : ((list : List Value) (after : State Locals) → first_local after.store ≡ found → HasFirst found (block headers local_slots code starts rest list after)) → (test : Bool) (place : Place) (after : State Locals) → first_local after.store ≡ found → HasFirst found ((if test then Is else behind (block headers local_slots code starts rest)) place after)
    go later true place after f = f
    go later false place after f = behind-keeps later place after f

    then-on : ((list : List Value) (after : State Locals) → first_local after.store ≡ found → HasFirst found (block headers local_slots code starts rest list after)) → (run : Outcome Locals Place) → HasFirst found run
        → HasFirst found (stepped headers code first.0 run (if is_jump (meaning_of headers code.class first.1) || starts (pc_of rest) then Is else behind (block headers local_slots code starts rest)))
    then-on later (Is place after) h = go later (is_jump (meaning_of headers code.class first.1) || starts (pc_of rest)) place after h
    then-on later (Stops stop after) h = caught-keeps headers code found first.0 (Stops stop after) none h

-- ---- `this`

-- where the first local is `this` throughout, a test says so
slot-told : (slot : Option ℕ) (more : Bool) → ¬ (slot ≡ Some 0) → more ≡ false → (is_slot 0 slot || more) ≡ false
slot-told None more never e = e
slot-told (Some slot) more never e = at (slot == 0) refl
  where
    at : (test : Bool) → slot == 0 ≡ test → (test || more) ≡ false
    at true same = absurd (never (ap Some (eqb-true slot 0 same)))
    at false same = e

writes-not : (list : Instructions) → NeverWrites 0 list → writes_slot 0 list ≡ false
writes-not [] never = refl
writes-not (first ∷ rest) never = slot-told (written_slot (meaning_of [] [] first.1)) (writes_slot 0 rest) never.0 (writes-not rest never.1)

pub keeps-told : (code : Code) → KeepsThis code → keeps_this code ≡ true
keeps-told code keeps = ap (λ (static : Bool). not static && not (writes_slot 0 code.instructions)) keeps.instance ∙ ap not (writes-not code.instructions keeps.never)
