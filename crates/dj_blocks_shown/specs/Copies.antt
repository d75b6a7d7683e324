-- The edges between blocks: the variables of the next block are put, and then the run jumps there.
use Rattle.std.specs.Prelude.{◌≡◌, ℕ, ◌==◌, false, List, [], ◌∷◌, Option, Some, None, slice_get, slice_index_or, if◌then◌else◌}
use Rattle.dj_names.specs.Types.{JType}
use Rattle.dj_syntax.specs.declared.variable.Var.{Var}
use Rattle.dj_syntax.specs.Trees.{Exp, Stms, Set, Break, Empty, And}
use Rattle.dj_values.specs.Values.{Value}
use Rattle.dj_values.specs.Fits.{is_static}
use Rattle.dj_values.specs.Outcomes.{Gives, State, Is}
use Rattle.dj_frames.specs.Frames.{UnbornThis}
use Rattle.dj_meaning.specs.Conversions.{converted}
use Rattle.dj_meaning.specs.StaticTypes.{Context, Scope, is_same_variable}
use Rattle.dj_meaning.specs.Runs.{Store, Meaning, pure, with_value, with_store}
use Rattle.dj_meaning.specs.Completions.{Completion, Normal}
use Rattle.dj_meaning.specs.Expressions.{value}
use Rattle.dj_meaning.specs.Meaning.{run_then}
use Rattle.dj_bytecode.specs.Machine.{Locals, code_from}
use Rattle.dj_typed_states.specs.Held.{AllAre}
use Rattle.dj_typed_states.specs.Facts.{shapes}
use Rattle.dj_sound.specs.States.{table_of, Stands}
use Rattle.dj_vars.specs.Slots.{slot_value, slot_tag}
use Rattle.dj_vars.specs.Naming.{AreVars, SaysReferences}
use Rattle.dj_vars.specs.Agreeing.{local_variable, KeepsThis, IsThisSlot, HasParameters}
use Rattle.dj_blocks_shown.specs.Leaving.{Parts, Enters}

-- ---- values that are put

-- a variable to be put, and its value
abbrev pub Put : Type 0
Put = ℕ × Value

-- values put into a store, one after another
abbrev pub put_all : List Put → Store → Store
put_all [] store = store
put_all (first ∷ rest) store = put_all rest (with_value (local_variable first.0) (Some first.1) store)

-- what a variable has then, given what it has before
abbrev pub after_puts : List Put → ℕ → Option Value → Option Value
after_puts [] number found = found
after_puts (first ∷ rest) number found = after_puts rest number (if number == first.0 then Some first.1 else found)

-- a variable is none of those that are put
abbrev pub IsNoneOf : List Put → Var → Type 0
IsNoneOf [] variable = Unit {0}
IsNoneOf (first ∷ rest) variable = (is_same_variable variable (local_variable first.0) ≡ false) × IsNoneOf rest variable

-- two stores are the same but for the variables that are put
pub record SameBut (puts : List Put) (one other : Store) : Type 0 where
  pub variables : (variable : Var) → IsNoneOf puts variable → one.variables variable ≡ other.variables variable
  pub held : one.held ≡ other.held

-- ---- copies

-- a variable, and the expression whose value it gets
pub record Copy : Type 0 where
  pub to : ℕ
  pub from : Exp

-- the copies as statements, in front of others
abbrev pub copied : List Copy → Stms → Stms
copied [] rest = rest
copied (first ∷ more) rest = And (Set (local_variable first.to) first.from) (copied more rest)

-- an expression has a value, whatever the variables have that are put: a constant, `this`, or another variable
pub record IsAtom (context : Context) (scope : Scope) (puts : List Put) (store : Store) (exp : Exp) (found : Value) : Type 0 where
  pub reads : (state : State Store) → SameBut puts state.store store → value context scope exp state ≡ Is found state

-- a copy puts a value, which is of its variable's type
pub record IsCopyOf (context : Context) (scope : Scope) (puts : List Put) (store : Store) (copy : Copy) (put : Put) : Type 0 where
  pub to : copy.to ≡ put.0
  pub type : JType
  pub typed : scope (local_variable copy.to) ≡ Some type
  pub fits : converted type put.1 ≡ Gives put.1
  pub atom : IsAtom context scope puts store copy.from put.1

-- copies, each of an atom, put all their values
abbrev pub CopiesPut : Type 0
CopiesPut =
    (context : Context) (scope : Scope) (bound : ℕ) (copies : List Copy) (puts : List Put) (state : State Store) → AllAre (IsCopyOf context scope puts state.store) copies puts
    → (rest : Stms) (next : Meaning Completion) → run_then context scope bound (copied copies rest) next state ≡ run_then context scope bound rest next (with_store (put_all puts) state)

-- ---- edges

-- copies put the variables of the block of this number, into which the machine goes with this stack and these locals
pub record IsEdge (context : Context) (scope : Scope) (parts : Parts) (number start : ℕ) (stack : List Value) (from : State Locals) (state : State Store) (copies : List Copy) : Type 0 where
  pub listed : slice_get parts.starts number ≡ Some start
  pub world : from.world ≡ state.world
  pub puts : List Put
  pub copied : AllAre (IsCopyOf context scope puts state.store) copies puts
  pub agree : (slot variable : ℕ) → parts.vars.of number slot ≡ Some variable → ¬ IsThisSlot parts.typed.code slot → after_puts puts variable (state.store.variables (local_variable variable)) ≡ slot_value parts.typed.code stack from.store slot
  pub itself : KeepsThis parts.typed.code → context.this ≡ slice_index_or from.store 0 None
  pub unborn : (stands : Stands shapes parts.typed.code (table_of parts.typed) (code_from start parts.typed.code.instructions) stack from.store) → is_static parts.typed.code.flags ≡ false
      → slot_tag parts.typed.code stands.frame 0 ≡ Some UnbornThis → context.this ≡ slice_index_or from.store 0 None
  pub parameters : (stands : Stands shapes parts.typed.code (table_of parts.typed) (code_from start parts.typed.code.instructions) stack from.store) → is_static parts.typed.code.flags ≡ false
      → slot_tag parts.typed.code stands.frame 0 ≡ Some UnbornThis → HasParameters parts.typed.code from.store state.store

-- a run that makes the copies and jumps enters the block
abbrev pub EdgesEnter : Type 0
EdgesEnter =
    (context : Context) (scope : Scope) (parts : Parts) → AreVars parts.typed parts.starts parts.vars → SaysReferences parts.typed
    → (number start : ℕ) → (code_from start parts.typed.code.instructions ≡ [] → ⊥) → (stack : List Value) (from : State Locals) (state : State Store) (copies : List Copy)
    → IsEdge context scope parts number start stack from state copies → (bound : ℕ)
    → Enters parts context.this (code_from start parts.typed.code.instructions) stack from (run_then context scope bound (copied copies (And (Break number) Empty)) (pure Normal) state)
