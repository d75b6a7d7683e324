-- How the values of variables stand to those of slots.
use Rattle.std.specs.Prelude.{◌≡◌, ◌≢◌, ℕ, ◌<◌, length, false, List, [], ◌∷◌, Option, Some, None, slice_get, slice_index_or}
use Rattle.dj_names.specs.Types.{JType}
use Rattle.dj_syntax.specs.declared.variable.Var.{Var}
use Rattle.dj_syntax.specs.declared.variable.VarKind.TheVariants as kind
use Rattle.dj_values.specs.Values.{Value}
use Rattle.dj_values.specs.Fits.{is_static}
use Rattle.dj_values.specs.Outcomes.{Gives}
use Rattle.dj_instructions.specs.Instructions.{Instructions}
use Rattle.dj_frames.specs.Frames.{UnbornThis}
use Rattle.dj_code.specs.MethodCode.{Code, Typed}
use Rattle.dj_tags.specs.Goes.{Working}
use Rattle.dj_meaning.specs.Conversions.{converted}
use Rattle.dj_meaning.specs.Runs.{Store, with_value}
use Rattle.dj_bytecode.specs.Meanings.{meaning_of}
use Rattle.dj_bytecode.specs.Machine.{Locals, local_slots, code_from}
use Rattle.dj_typed_states.specs.Facts.{shapes}
use Rattle.dj_sound.specs.States.{table_of, Stands}
use Rattle.dj_vars.specs.Slots.{slot_value, slot_tag}
use Rattle.dj_vars.specs.Naming.{Vars, HasType, AreVars, SaysReferences, written_slot, renamed}
use Rattle.dj_vars.specs.Parameters.{parameter_slots}

-- the variable of this number
abbrev pub local_variable : ℕ → Var
local_variable number = record { kind = kind.Local; number = number }

-- the parameter of this number
abbrev pub parameter_variable : ℕ → Var
parameter_variable number = record { kind = kind.Param; number = number }

-- what a slot holds is there, and of the type of a variable: it stays as it is where that type is wanted
pub record IsOfType (kinds : List JType) (number : ℕ) (found : Option Value) : Type 0 where
  pub value : Value
  pub there : found ≡ Some value
  pub type : JType
  pub of_type : slice_get kinds number ≡ Some type
  pub fits : converted type value ≡ Gives value

-- a variable has what a slot holds, which is of its type
pub record IsKept (kinds : List JType) (store : Store) (number : ℕ) (found : Option Value) : Type 0 where
  pub holds : IsOfType kinds number found
  pub has : store.variables (local_variable number) ≡ found

-- none of these instructions writes a slot
abbrev pub NeverWrites : ℕ → Instructions → Type 0
NeverWrites slot [] = Unit {0}
NeverWrites slot (first ∷ rest) = (¬ (written_slot (meaning_of [] [] first.1) ≡ Some slot)) × NeverWrites slot rest

-- the first local is `this` throughout: the method has one, and nothing is stored there
pub record KeepsThis (code : Code) : Type 0 where
  pub instance : is_static code.flags ≡ false
  pub never : NeverWrites 0 code.instructions

-- the first local is looked at as `this`, not as a variable
abbrev pub IsThisSlot : Code → ℕ → Type 0
IsThisSlot code slot = KeepsThis code × (slot ≡ 0)

-- each parameter has what its slot holds
pub record HasParameters (code : Code) (locals : Locals) (store : Store) : Type 0 where
  pub has : (number slot : ℕ) → slice_get (parameter_slots code) number ≡ Some slot → store.variables (parameter_variable number) ≡ slice_index_or locals slot None

-- variables and `this` agree with the stack and the locals, in a place with this frame: each slot that has a variable is that one, but for that of a `this` that is kept; and
-- while `this` isn't born the parameters do too, which alone are in scope where another constructor is called (JLS 8.8.7.1)
pub record Agrees (code : Code) (kinds : List JType) (names : ℕ → Option ℕ) (this : Option Value) (frame : Working) (stack : List Value) (locals : Locals) (store : Store) : Type 0 where
  pub slots : (slot variable : ℕ) → names slot ≡ Some variable → ¬ IsThisSlot code slot → IsKept kinds store variable (slot_value code stack locals slot)
  pub itself : KeepsThis code → this ≡ slice_index_or locals 0 None
  pub unborn : is_static code.flags ≡ false → slot_tag code frame 0 ≡ Some UnbornThis → this ≡ slice_index_or locals 0 None
  pub parameters : is_static code.flags ≡ false → slot_tag code frame 0 ≡ Some UnbornThis → HasParameters code locals store

-- ---- the laws

-- where code stands at the start of a block, what each slot holds that has a variable is of that one's type
abbrev pub NamedSlotsHold : Type 0
NamedSlotsHold =
    (typed : Typed) (starts : List ℕ) (vars : Vars) → AreVars typed starts vars → SaysReferences typed → (block start : ℕ) → slice_get starts block ≡ Some start
    → (code_from start typed.code.instructions ≡ [] → ⊥) → (stack : List Value) (locals : Locals) → Stands shapes typed.code (table_of typed) (code_from start typed.code.instructions) stack locals
    → (slot number : ℕ) → vars.of block slot ≡ Some number → IsOfType vars.kinds number (slot_value typed.code stack locals slot)

-- a variable is one of a slot
abbrev pub IsOfSlot : (typed : Typed) (starts : List ℕ) (vars : Vars) → AreVars typed starts vars → ℕ → ℕ → Type 0
IsOfSlot typed starts vars are slot variable = (type : JType) × HasType typed starts slot type × (are.number slot type ≡ variable)

-- the variables that locals have in the midst of a block, which are of their slots, have their values
pub record KeepsLocals (typed : Typed) (starts : List ℕ) (vars : Vars) (are : AreVars typed starts vars) (names : ℕ → Option ℕ) (locals : Locals) (store : Store) : Type 0 where
  pub of_slots : (slot variable : ℕ) → slot < typed.code.max_locals → names slot ≡ Some variable → IsOfSlot typed starts vars are slot variable
  pub kept : (slot variable : ℕ) → slot < typed.code.max_locals → names slot ≡ Some variable → IsKept vars.kinds store variable (slice_index_or locals slot None)

-- a value that is stored in a local, and assigned to a variable of its slot, is kept, and so are the others; variables of other slots stay as they are
abbrev pub WritesKeep : Type 0
WritesKeep =
    (typed : Typed) (starts : List ℕ) (vars : Vars) (are : AreVars typed starts vars) (names : ℕ → Option ℕ) (locals : Locals) (store : Store) → KeepsLocals typed starts vars are names locals store
    → (slot variable : ℕ) (value : Value) → slot < length locals → IsOfSlot typed starts vars are slot variable → IsOfType vars.kinds variable (Some value)
    → KeepsLocals typed starts vars are (renamed (Some slot) (Some variable) names) (local_slots.write slot value locals) (with_value (local_variable variable) (Some value) store)

-- and a variable of another slot stays as it is
abbrev pub WritesSpare : Type 0
WritesSpare =
    (typed : Typed) (starts : List ℕ) (vars : Vars) (are : AreVars typed starts vars) (store : Store) (slot variable other_slot other : ℕ) (value : Option Value)
    → IsOfSlot typed starts vars are slot variable → IsOfSlot typed starts vars are other_slot other → other_slot ≢ slot
    → (with_value (local_variable variable) value store).variables (local_variable other) ≡ store.variables (local_variable other)
