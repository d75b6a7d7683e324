-- As a method begins, the variables of its parameters' slots have the arguments.
use Rattle.std.proofs.Common.{◌≡◌, ℕ, zero, suc, ◌+◌, ◌≤◌, Bool, true, false, List, [], ◌∷◌, length, Option, Some, None, refl, sym, ap, ◌∙◌, arith}
use Rattle.std.proofs.lemmas.Option.{slice_get-map}
use Rattle.std.specs.Prelude.{if◌then◌else◌, slice_get, option_map}
use Rattle.dj_names.specs.declared.header.Header.{Header}
use Rattle.dj_names.specs.Types as types
use Rattle.dj_names.specs.Types.{JType, Boolean, Byte, Char, Short, Float, Double, Class, Array, parameters_of}
use Rattle.dj_values.specs.Values.{Value}
use Rattle.dj_values.specs.Fits.{AreValuesOf, AreArguments, IsThis, is_static, this_of, behind_this}
use Rattle.dj_frames.specs.Frames.{slots_of, tag_of}
use Rattle.dj_bytecode.specs.SameShows.{AreArgumentsOf}
use Rattle.dj_vars.specs.Naming.{Typing, AreVars}
use Rattle.dj_vars.specs.Parameters.{slots_from, parameter_slots}
use Rattle.dj_blocks_shown.specs.Leaving.{Parts}
use Rattle.dj_blocks_shown.specs.Composing.{HoldsArguments}
use Rattle.dj_declaring.specs.Entries.{first_store}
use Rattle.dj_declaring.specs.Starting.{IsApart, IsGiven}
use Rattle.dj_declaring.proofs.Heading.{copies_hold}
use Rattle.dj_method.specs.Parts.{entry_of}

-- ---- plain facts

pub some-is : {A : Type 0} (one other : A) → Some one ≡ Some other → one ≡ other
some-is one other e = cc

pub none-some : {A P : Type 0} (one : A) → None ≡ Some one → P
none-some one e = absurd (no one e)
  where
    no : {A : Type 0} (one : A) → None ≡ Some one → ⊥
    no one e = cc

-- ---- the slots of parameters

wide : (type : JType) → 1 ≤ length (slots_of (tag_of type))
wide Boolean = omega arith
wide Byte = omega arith
wide Char = omega arith
wide Short = omega arith
wide types.Int = omega arith
wide types.Long = omega arith
wide Float = omega arith
wide Double = omega arith
wide (Class name) = omega arith
wide (Array element) = omega arith

-- they begin no earlier than the first
from-least : (start : ℕ) (parameters : List JType) (place slot : ℕ) → slice_get (slots_from start parameters) place ≡ Some slot → start ≤ slot
from-least start [] place slot e = none-some slot e
from-least start (first ∷ rest) zero slot e = let same = some-is start slot e in omega arith
from-least start (first ∷ rest) (suc place) slot e = let later = from-least (start + length (slots_of (tag_of first))) rest place slot e in omega arith

-- and no two are one
slots-apart : (start : ℕ) (parameters : List JType) (one other slot : ℕ) → slice_get (slots_from start parameters) one ≡ Some slot → slice_get (slots_from start parameters) other ≡ Some slot → one ≡ other
slots-apart start [] one other slot e f = none-some slot e
slots-apart start (first ∷ rest) zero zero slot e f = refl
slots-apart start (first ∷ rest) zero (suc other) slot e f =
    let same = some-is start slot e in let later = from-least (start + length (slots_of (tag_of first))) rest other slot f in let some = wide first in absurd (omega arith)
slots-apart start (first ∷ rest) (suc one) zero slot e f =
    let same = some-is start slot f in let later = from-least (start + length (slots_of (tag_of first))) rest one slot e in let some = wide first in absurd (omega arith)
slots-apart start (first ∷ rest) (suc one) (suc other) slot e f = ap suc (slots-apart (start + length (slots_of (tag_of first))) rest one other slot e f)

-- each has an argument
argument-there : (headers : List Header) (parameters : List JType) (values : List Value) → AreValuesOf headers parameters values → (start place slot : ℕ) → slice_get (slots_from start parameters) place ≡ Some slot → (value : Value) × (slice_get values place ≡ Some value)
argument-there headers [] values are start place slot e = none-some slot e
argument-there headers (first ∷ rest) [] are start place slot e = absurd are
argument-there headers (first ∷ rest) (value ∷ values) are start zero slot e = (value, refl)
argument-there headers (first ∷ rest) (value ∷ values) are start (suc place) slot e = argument-there headers rest values are.1 (start + length (slots_of (tag_of first))) place slot e

-- ---- what is given

behind-are : (headers : List Header) (class : List ℕ) (static : Bool) (parameters : List JType) (arguments : List Value) → AreArguments headers class static parameters arguments → AreValuesOf headers parameters (behind_this static arguments)
behind-are headers class true parameters arguments are = are
behind-are headers class false parameters [] are = absurd are
behind-are headers class false parameters (first ∷ rest) are = are.1

this-is : (headers : List Header) (class : List ℕ) (parameters : List JType) (arguments : List Value) → AreArguments headers class false parameters arguments → (value : Value) × (this_of false arguments ≡ Some value) × IsThis headers class value
this-is headers class parameters [] are = absurd are
this-is headers class parameters (first ∷ rest) are = (first, refl, are.0)

module _ (parts : Parts) (are : AreVars parts.typed parts.starts parts.vars) where
  -- a variable of block 0 is of one slot
  one-slot : (one other variable : ℕ) → parts.vars.of 0 one ≡ Some variable → parts.vars.of 0 other ≡ Some variable → one ≡ other
  one-slot one other variable e f =
      let mine = are.of_type 0 one variable e in
      let its = are.of_type 0 other variable f in
      ap (λ (typing : Typing). typing.slot) (are.apart (record { slot = one; type = mine.0 }) (record { slot = other; type = its.0 }) mine.1 its.1 (mine.2 ∙ sym its.2))

  -- it has a type
  has-kind : (slot variable : ℕ) → parts.vars.of 0 slot ≡ Some variable → (type : JType) × (slice_get parts.vars.kinds variable ≡ Some type)
  has-kind slot variable e = let mine = are.of_type 0 slot variable e in (mine.0, ap (slice_get parts.vars.kinds) (sym mine.2) ∙ are.kinds slot mine.0 mine.1)

  -- the slot of a parameter whose variable is this one
  parameter-slot : (place variable : ℕ) → slice_get (entry_of parts).parameters place ≡ Some (Some variable) → (slot : ℕ) × (slice_get (parameter_slots parts.typed.code) place ≡ Some slot) × (parts.vars.of 0 slot ≡ Some variable)
  parameter-slot place variable e = by (slice_get (parameter_slots parts.typed.code) place) refl (sym (slice_get-map (parts.vars.of 0) (parameter_slots parts.typed.code) place) ∙ e)
    where
      by : (found : Option ℕ) → slice_get (parameter_slots parts.typed.code) place ≡ found → option_map (parts.vars.of 0) found ≡ Some (Some variable) → (slot : ℕ) × (slice_get (parameter_slots parts.typed.code) place ≡ Some slot) × (parts.vars.of 0 slot ≡ Some variable)
      by None f e = none-some (Some variable) e
      by (Some slot) f e = (slot, f, some-is (parts.vars.of 0 slot) (Some variable) e)

  pub entry-apart : IsApart (entry_of parts)
  entry-apart = record {
    itself = λ place number own e. by (is_static parts.typed.code.flags) place number own (parameter-slot place number e);
    parameters = λ first second number e f.
        let one = parameter-slot first number e in let other = parameter-slot second number f in
        slots-apart _ (parameters_of parts.typed.code.descriptor) first second one.0 one.1 (other.1 ∙ ap Some (one-slot other.0 one.0 number other.2 one.2));
  }
    where
      by : (static : Bool) (place number : ℕ) → (if static then None else parts.vars.of 0 0) ≡ Some number
          → (slot : ℕ) × (slice_get (slots_from (if static then 0 else 1) (parameters_of parts.typed.code.descriptor)) place ≡ Some slot) × (parts.vars.of 0 slot ≡ Some number) → ⊥
      by true place number own at = none-some number own
      by false place number own at = let least = from-least 1 (parameters_of parts.typed.code.descriptor) place at.0 at.1 in let same = one-slot 0 at.0 number own at.2 in omega arith

  module _ (headers : List Header) (arguments : List Value) (fit : AreArgumentsOf headers parts.typed.code arguments) where
    pub entry-given : IsGiven headers parts.typed.code.class (parameters_of parts.typed.code.descriptor) (entry_of parts) (this_of (is_static parts.typed.code.flags) arguments) (behind_this (is_static parts.typed.code.flags) arguments)
    entry-given = record {
      itself = λ number own. by (is_static parts.typed.code.flags) fit number own;
      fit = behind-are headers parts.typed.code.class (is_static parts.typed.code.flags) (parameters_of parts.typed.code.descriptor) arguments fit;
    }
      where
        by : (static : Bool) → AreArguments headers parts.typed.code.class static (parameters_of parts.typed.code.descriptor) arguments → (number : ℕ) → (if static then None else parts.vars.of 0 0) ≡ Some number
            → (value : Value) × (this_of static arguments ≡ Some value) × IsThis headers parts.typed.code.class value
        by true fit number own = none-some number own
        by false fit number own = this-is headers parts.typed.code.class (parameters_of parts.typed.code.descriptor) arguments fit

    pub arguments-held : HoldsArguments parts arguments (first_store parts.vars.kinds (this_of (is_static parts.typed.code.flags) arguments) (behind_this (is_static parts.typed.code.flags) arguments) (entry_of parts))
    arguments-held = record {
      parameters = λ number slot variable at named.
          let kind = has-kind slot variable named in
          let there = argument-there headers (parameters_of parts.typed.code.descriptor) (behind_this (is_static parts.typed.code.flags) arguments) entry-given.fit _ number slot at in
          (copies_hold parts.vars.kinds (entry_of parts) (this_of (is_static parts.typed.code.flags) arguments) (behind_this (is_static parts.typed.code.flags) arguments) variable kind.0 entry-apart kind.1).0 number there.0
          (slice_get-map (parts.vars.of 0) (parameter_slots parts.typed.code) number ∙ ap (option_map (parts.vars.of 0)) at ∙ ap Some named) there.1
          ∙ sym there.1;
      given = λ number slot at. refl;
      itself = λ instance variable named.
          let kind = has-kind 0 variable named in
          let own : (entry_of parts).itself ≡ Some variable = ap (λ (static : Bool). if static then None else parts.vars.of 0 0) instance ∙ named in
          let given = entry-given.itself variable own in
          (copies_hold parts.vars.kinds (entry_of parts) (this_of (is_static parts.typed.code.flags) arguments) (behind_this (is_static parts.typed.code.flags) arguments) variable kind.0 entry-apart kind.1).1 given.0 own given.1
          ∙ sym given.1 ∙ ap (λ (static : Bool). this_of static arguments) instance;
      free = refl;
    }
