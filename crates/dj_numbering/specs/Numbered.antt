-- Numbers for slots and types are the variables of code, where each that the code has is met: at the blocks' starts, slot by slot, and behind stores.
use Rattle.std.specs.Prelude.{◌≡◌, ℕ, ◌<◌, ◌⊎◌, List, map, Option, Some, None, slice_get}
use Rattle.dj_names.specs.Types.{JType}
use Rattle.dj_code.specs.MethodCode.{Typed}
use Rattle.dj_tags.specs.Goes.{Working}
use Rattle.dj_numbers.specs.Numbers.{Typing, number_of, number_of_any, with_slots, AreDistinct}
use Rattle.dj_vars.specs.Slots.{slot_tag}
use Rattle.dj_numbers.specs.Frames.{type_of_slot}
use Rattle.dj_vars.specs.Naming.{Vars, Begins, WritesAt, HasType, AreVars}

-- a slot and a type have a number
pub record HasNumber (variables : List Typing) (slot : ℕ) (type : JType) : Type 0 where
  pub number : ℕ
  pub is : number_of variables slot type ≡ Some number

-- ---- slots that are met

-- of variables that were met, behind so many slots: all that were there keep their numbers, each slot has one, and there are no others
pub record AreMet (before after : List Typing) (of_slot : ℕ → Option JType) (count : ℕ) : Type 0 where
  pub distinct : AreDistinct after
  pub kept : (slot : ℕ) (type : JType) (number : ℕ) → number_of before slot type ≡ Some number → number_of after slot type ≡ Some number
  pub each : (slot : ℕ) (type : JType) → slot < count → of_slot slot ≡ Some type → HasNumber after slot type
  pub only : (number : ℕ) (typing : Typing) → slice_get after number ≡ Some typing → (slice_get before number ≡ Some typing) ⊎ ((typing.slot < count) × (of_slot typing.slot ≡ Some typing.type))

abbrev pub SlotsAreMet : Type 0
SlotsAreMet = (variables : List Typing) (of_slot : ℕ → Option JType) (count : ℕ) → AreDistinct variables → AreMet variables (with_slots variables of_slot count) of_slot count

-- ---- the variables

-- a block's slot is the variable of a number, by the frame with which the block begins
pub record IsNumberedAt (typed : Typed) (starts : List ℕ) (variables : List Typing) (vars : Vars) (block slot : ℕ) : Type 0 where
  pub frame : Working
  pub begins : Begins typed starts block frame
  pub is : vars.of block slot ≡ number_of_any variables slot (type_of_slot (slot_tag typed.code frame slot))

-- numbers are given to all that code has, and to nothing else; the variables are by them
pub record IsNumbered (typed : Typed) (starts : List ℕ) (variables : List Typing) (vars : Vars) : Type 0 where
  pub distinct : AreDistinct variables
  pub each : (slot : ℕ) (type : JType) → HasType typed starts slot type → HasNumber variables slot type
  pub only : (number : ℕ) (typing : Typing) → slice_get variables number ≡ Some typing → HasType typed starts typing.slot typing.type
  pub of : (block : ℕ) (frame : Working) → Begins typed starts block frame → (slot : ℕ) → vars.of block slot ≡ number_of_any variables slot (type_of_slot (slot_tag typed.code frame slot))
  pub of_none : (block slot variable : ℕ) → vars.of block slot ≡ Some variable → IsNumberedAt typed starts variables vars block slot
  pub after : (pc slot : ℕ) (type : JType) → WritesAt typed pc slot type → vars.after pc ≡ number_of variables slot type
  pub after_none : (pc : ℕ) → ((slot : ℕ) (type : JType) → ¬ WritesAt typed pc slot type) → vars.after pc ≡ None
  pub kinds : vars.kinds ≡ map (λ (typing : Typing). typing.type) variables

abbrev pub NumberedAreVars : Type 0
NumberedAreVars = (typed : Typed) (starts : List ℕ) (variables : List Typing) (vars : Vars) → IsNumbered typed starts variables vars → AreVars typed starts vars
