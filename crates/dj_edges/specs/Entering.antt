-- A jump behind its copies enters the next block: its variables agree with the slots again.
use Rattle.std.specs.Prelude.{◌≡◌, ℕ, ◌<◌, Bool, true, false, length, List, [], ◌∷◌, Option, Some, None, slice_get, slice_index_or}
use Rattle.dj_names.specs.Types.{JType, StaticType}
use Rattle.dj_syntax.specs.declared.variable.Var.{Var}
use Rattle.dj_syntax.specs.Trees.{Exp, Stms}
use Rattle.dj_values.specs.Values.{Value}
use Rattle.dj_values.specs.Fits.{is_static}
use Rattle.dj_values.specs.Outcomes.{Gives, State, Is}
use Rattle.dj_frames.specs.Frames.{UnbornThis}
use Rattle.dj_meaning.specs.Conversions.{converted}
use Rattle.dj_meaning.specs.StaticTypes.{Context, Scope, type_of}
use Rattle.dj_meaning.specs.Runs.{Store, pure}
use Rattle.dj_meaning.specs.Completions.{Normal}
use Rattle.dj_meaning.specs.Expressions.{value}
use Rattle.dj_meaning.specs.Meaning.{run_then}
use Rattle.dj_bytecode.specs.Machine.{Locals, code_from}
use Rattle.dj_typed_states.specs.Facts.{shapes}
use Rattle.dj_blocks_shown.specs.States.{table_of, Stands}
use Rattle.dj_rebuilding.specs.Pending.{Named, exp_of, Pending, Kept, Whole, Born, Again, Built, assigns, is_kept, spill}
use Rattle.dj_rebuilding.specs.Agreeing.{atom_value}
use Rattle.dj_rebuilt.specs.Rebuilding.{Names}
use Rattle.dj_blocks_shown.specs.Slots.{slot_value, slot_tag}
use Rattle.dj_blocks_shown.specs.Naming.{AreVars, SaysReferences}
use Rattle.dj_blocks_shown.specs.Agreeing.{local_variable, KeepsThis, HasParameters}
use Rattle.dj_blocks_shown.specs.Leaving.{Parts, Enters}
use Rattle.dj_edges.specs.Edges.{Source, source_at, is_own, wanted, slots_at_end, edge_puts, Dress, by_kind, jump}

-- an expression that is dressed for a type has the same value, which the type keeps
pub record Dresses (context : Context) (scope : Scope) (dress : Dress) : Type 0 where
  pub keeps : (static : StaticType) (type : JType) (exp dressed : Exp) → dress static type exp ≡ Some dressed → type_of context scope exp ≡ Some static
      → (one : Value) → is_kept context.headers static one ≡ true → (state : State Store) → value context scope exp state ≡ Is one state → value context scope dressed state ≡ Is one state
  pub fits : (static : StaticType) (type : JType) (exp dressed : Exp) → dress static type exp ≡ Some dressed → (one : Value) → is_kept context.headers static one ≡ true → converted type one ≡ Gives one

-- so it is by the kinds of values
abbrev pub ByKindDresses : Type 0
ByKindDresses = (context : Context) (scope : Scope) → Dresses context scope by_kind

-- an atom has the value of a slot, which is there, and of the atom's static type by the headers that run
pub record IsSourced (context : Context) (scope : Scope) (store : Store) (source : Source) (found : Option Value) : Type 0 where
  pub value : Value
  pub there : found ≡ Some value
  pub has : atom_value context source.1 store ≡ Some value
  pub kept : is_kept context.headers source.0 value ≡ true
  pub typed : type_of context scope (exp_of source.1) ≡ Some source.0

-- what is known where control leaves for a block, behind what was spilled: the slots are their atoms, none of which reads a variable that may be assigned, and each variable that is put may be
pub record MayJump (context : Context) (scope : Scope) (dress : Dress) (parts : Parts) (number : ℕ) (assigned : Var → Bool) (names : Names) (stack : List Pending) (store : Store) (values : List Value) (locals : Locals) : Type 0 where
  pub height : length stack ≡ length values
  pub sources : (slot : ℕ) (source : Source) → source_at parts.typed.code.max_locals names stack slot ≡ Some source → IsSourced context scope store source (slot_value parts.typed.code values locals slot)
  pub spared : (slot : ℕ) (source : Source) (variable : Var) → source_at parts.typed.code.max_locals names stack slot ≡ Some source → source.1 ≡ Named variable → assigned variable ≡ false
  pub covers : (slot variable : ℕ) → slot < slots_at_end parts stack → wanted parts number slot ≡ Some variable → is_own variable (source_at parts.typed.code.max_locals names stack slot) ≡ false → assigned (local_variable variable) ≡ true
  pub typed : (variable : ℕ) (type : JType) → slice_get parts.vars.kinds variable ≡ Some type → scope (local_variable variable) ≡ Some type
  pub dresses : Dresses context scope dress

-- then the run of an edge's statements enters the block
abbrev pub EdgesEnterBlocks : Type 0
EdgesEnterBlocks =
    (context : Context) (scope : Scope) (bound : ℕ) (dress : Dress) (parts : Parts) → AreVars parts.typed parts.starts parts.vars → SaysReferences parts.typed
    → (number start : ℕ) → slice_get parts.starts number ≡ Some start → (code_from start parts.typed.code.instructions ≡ [] → ⊥) → (assigned : Var → Bool) (names : Names) (stack : List Pending) (values : List Value) (from : State Locals) (state : State Store) → from.world ≡ state.world
    → MayJump context scope dress parts number assigned names stack state.store values from.store
    → (KeepsThis parts.typed.code → context.this ≡ slice_index_or from.store 0 None)
    → ((stands : Stands shapes parts.typed.code (table_of parts.typed) (code_from start parts.typed.code.instructions) values from.store) → is_static parts.typed.code.flags ≡ false → slot_tag parts.typed.code stands.frame 0 ≡ Some UnbornThis → context.this ≡ slice_index_or from.store 0 None)
    → ((stands : Stands shapes parts.typed.code (table_of parts.typed) (code_from start parts.typed.code.instructions) values from.store) → is_static parts.typed.code.flags ≡ false → slot_tag parts.typed.code stands.frame 0 ≡ Some UnbornThis → HasParameters parts.typed.code from.store state.store)
    → (statements : Stms) → jump dress parts number names stack ≡ Some statements
    → Enters parts context.this (code_from start parts.typed.code.instructions) values from (run_then context scope bound statements (pure Normal) state)

-- ---- what is spilled before

-- no pending expression assigns a variable
abbrev pub AssignNothing : List Pending → Type 0
AssignNothing [] = Unit {0}
AssignNothing (Kept type atom ∷ below) = AssignNothing below
AssignNothing (Whole type exp ∷ below) = ((variable : Var) → assigns exp variable ≡ false) × AssignNothing below
AssignNothing (Born class ∷ below) = AssignNothing below
AssignNothing (Again ∷ below) = AssignNothing below

-- behind what is spilled where the variables are assigned that an edge puts, and maybe others, each that the edge puts then is one of them
abbrev pub EdgesAreCovered : Type 0
EdgesAreCovered =
    (parts : Parts) (number : ℕ) (names : Names) (n : ℕ) (stack : List Pending) → AssignNothing stack → (assigned : Var → Bool) → ((variable : Var) → edge_puts parts number names stack variable ≡ true → assigned variable ≡ true)
    → (built : Built) → spill assigned n stack ≡ Some built → (slot variable : ℕ) → slot < slots_at_end parts built.stack → wanted parts number slot ≡ Some variable
    → is_own variable (source_at parts.typed.code.max_locals names built.stack slot) ≡ false → assigned (local_variable variable) ≡ true

-- a variable by which a local is named isn't put, where it is wanted for that local alone
abbrev pub EdgesSpareNames : Type 0
EdgesSpareNames =
    (parts : Parts) (number : ℕ) (names : Names) (stack : List Pending) (slot : ℕ) (type : JType) (variable : Var) → slot < parts.typed.code.max_locals → names slot ≡ Some (type, Named variable)
    → ((other own : ℕ) → wanted parts number other ≡ Some own → variable ≡ local_variable own → other ≡ slot) → edge_puts parts number names stack variable ≡ false
