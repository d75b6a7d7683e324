-- How a tree leaves a block: by the same edge, with variables that agree with the slots again.
use Rattle.std.specs.Prelude.{◌≡◌, ℕ, ◌<◌, ◌==◌, Bool, true, false, List, [], Option, Some, None, slice_get, slice_index_or}
use Rattle.std.specs.List.{Contains, list_any}
use Rattle.dj_names.specs.declared.header.Header.{Header}
use Rattle.dj_values.specs.Values.{RefValue, Value}
use Rattle.dj_values.specs.Outcomes.{Throws, More, Stuck, State, Outcome, Is, Stops}
use Rattle.dj_syntax.specs.Trees.{Stms}
use Rattle.dj_instructions.specs.Instructions.{Instructions}
use Rattle.dj_code.specs.declared.method_code.Handler.{Handler}
use Rattle.dj_values.specs.Fits.{is_static}
use Rattle.dj_frames.specs.Frames.{UnbornThis}
use Rattle.dj_code.specs.MethodCode.{Code, Typed}
use Rattle.dj_tags.specs.Goes.{Working}
use Rattle.dj_starts.specs.Edges.{covers}
use Rattle.dj_meaning.specs.StaticTypes.{Context, Scope}
use Rattle.dj_meaning.specs.Runs.{Store, Meaning}
use Rattle.dj_meaning.specs.Completions.{Completion, Break, Return}
use Rattle.dj_graph.specs.GraphRuns.{run_tree, place_of}
use Rattle.dj_bytecode.specs.Machine.{Locals, local_slots, Place, Before, Returned, code_from}
use Rattle.dj_typed_states.specs.Facts.{shapes, classes}
use Rattle.dj_sound.specs.States.{table_of, Stands}
use Rattle.dj_blocks.specs.Blocks.{block}
use Rattle.dj_vars.specs.Slots.{slot_value, slot_tag}
use Rattle.dj_vars.specs.Naming.{Vars, Begins}
use Rattle.dj_vars.specs.Agreeing.{IsKept, KeepsThis, IsThisSlot, HasParameters, Agrees}

-- a method's code by blocks: with its frames, the offsets where its blocks begin, and its variables
pub record Parts : Type 0 where
  pub typed : Typed
  pub starts : List ℕ
  pub vars : Vars

-- whether a block begins at an offset
abbrev pub is_start : List ℕ → ℕ → Bool
is_start starts pc = list_any (λ start. start == pc) starts

-- code as it runs where nothing catches what is thrown
abbrev pub uncaught : Code → Code
uncaught code = record code { handlers = [] }

-- what a block throws may go to another, which begins where a handler does in whose range the block stands
pub record IsCaughtIn (parts : Parts) (number other : ℕ) : Type 0 where
  pub start : ℕ
  pub listed : slice_get parts.starts number ≡ Some start
  pub handler : Handler
  pub has : Contains parts.typed.code.handlers handler
  pub covered : covers handler start ≡ true
  pub target : slice_get parts.starts other ≡ Some handler.target

-- variables agree with a state at the start of a block
abbrev pub AgreesIn : Parts → Option Value → ℕ → Working → List Value → Locals → Store → Type 0
AgreesIn parts this number = Agrees parts.typed.code parts.vars.kinds (parts.vars.of number) this

-- a state of the machine at the start of a block, which the frame there describes by the classes that run, and variables that agree with it
pub record Meets (headers : List Header) (parts : Parts) (this : Option Value) (number : ℕ) (stack : List Value) (locals : Locals) (store : Store) : Type 0 where
  pub start : ℕ
  pub listed : slice_get parts.starts number ≡ Some start
  pub stands : Stands (classes headers parts.typed.code) parts.typed.code (table_of parts.typed) (code_from start parts.typed.code.instructions) stack locals
  pub agrees : AgreesIn parts this number stands.frame stack locals store

-- whatever a block throws, the variables of the locals in the blocks that may catch it have their values then
pub record AgreesAtThrow (parts : Parts) (this : Option Value) (number : ℕ) (locals : Locals) (store : Store) : Type 0 where
  pub slots : (other slot variable : ℕ) → IsCaughtIn parts number other → slot < parts.typed.code.max_locals → parts.vars.of other slot ≡ Some variable → ¬ IsThisSlot parts.typed.code slot
      → IsKept parts.vars.kinds store variable (slot_value parts.typed.code [] locals slot)
  pub itself : KeepsThis parts.typed.code → this ≡ slice_index_or locals 0 None
  pub unborn : (other : ℕ) (frame : Working) → IsCaughtIn parts number other → Begins parts.typed parts.starts other frame → is_static parts.typed.code.flags ≡ false
      → slot_tag parts.typed.code frame 0 ≡ Some UnbornThis → this ≡ slice_index_or locals 0 None
  pub parameters : (other : ℕ) (frame : Working) → IsCaughtIn parts number other → Begins parts.typed parts.starts other frame → is_static parts.typed.code.flags ≡ false
      → slot_tag parts.typed.code frame 0 ≡ Some UnbornThis → HasParameters parts.typed.code locals store

-- a run comes to this, with the world of a state of the machine
pub record Comes (from : State Locals) (ends : State Store → Outcome Store Completion) (run : Outcome Store Completion) : Type 0 where
  pub after : State Store
  pub is : run ≡ ends after
  pub world : from.world ≡ after.world

-- a run leaves for a block: it jumps to that one's number, and where the machine stands there the variables agree
pub record Enters (parts : Parts) (this : Option Value) (rest : Instructions) (stack : List Value) (from : State Locals) (run : Outcome Store Completion) : Type 0 where
  pub number : ℕ
  pub comes : Comes from (Is (Break number)) run
  pub start : ℕ
  pub listed : slice_get parts.starts number ≡ Some start
  pub there : rest ≡ code_from start parts.typed.code.instructions
  pub agrees : (stands : Stands shapes parts.typed.code (table_of parts.typed) rest stack from.store)
      → AgreesIn parts this number stands.frame stack from.store comes.after.store

-- a run throws, and what the variables have then
pub record Throwing (parts : Parts) (this : Option Value) (number : ℕ) (reference : RefValue) (from : State Locals) (run : Outcome Store Completion) : Type 0 where
  pub comes : Comes from (Stops (Throws reference)) run
  pub agrees : AgreesAtThrow parts this number from.store comes.after.store

-- a run leaves a block as the machine does; of a stuck machine nothing is asked
abbrev pub Leaves : Parts → Option Value → ℕ → Outcome Locals Place → Outcome Store Completion → Type 0
Leaves parts this number (Is (Before rest stack) state) run = Enters parts this rest stack state run
Leaves parts this number (Is (Returned value) state) run = Comes state (Is (Return value)) run
Leaves parts this number (Stops (Throws reference) state) run = Throwing parts this number reference state run
Leaves parts this number (Stops More state) run = Comes state (Stops More) run
Leaves parts this number (Stops Stuck state) run = Unit {0}

-- a meaning shows a block, whose code runs by these headers: from each state that it meets, it leaves as the block does
abbrev pub ShowsCode : List Header → Parts → Option Value → Code → ℕ → Meaning Completion → Type 0
ShowsCode headers parts this code number run =
    (stack : List Value) (state : State Locals) (store : Store) (meets : Meets headers parts this number stack state.store store)
    → Leaves parts this number (block headers local_slots code (is_start parts.starts) (code_from meets.start parts.typed.code.instructions) stack state) (run (record { store = store; world = state.world }))

-- statements show a block where nothing catches what it throws, at each bound on the turns of their loops
pub record ShowsBlock (context : Context) (scope : Scope) (parts : Parts) (number : ℕ) (statements : Stms) : Type 0 where
  pub shows : (turns : ℕ) → ShowsCode context.headers parts context.this (uncaught parts.typed.code) number (run_tree context scope turns (place_of number) statements)
