-- A store that has the arguments is one as a graph's run begins.
use Rattle.std.proofs.Common.{◌≡◌, ◌≢◌, ℕ, zero, suc, ◌+◌, ◌-◌, Bool, true, false, List, [], length, Some, None, refl, sym, ap, ◌∙◌, subst, arith}
use Rattle.std.specs.Prelude.{if◌then◌else◌, nat_lt, slice_get, slice_index_or}
use Rattle.dj_names.specs.declared.header.Header.{Header}
use Rattle.dj_names.specs.Types.{parameters_of}
use Rattle.dj_values.specs.Values.{Value}
use Rattle.dj_values.specs.Fits.{AreArguments, is_static}
use Rattle.dj_tags.specs.Laxly.{Laxly}
use Rattle.dj_verify.specs.Verified.{IsTyped}
use Rattle.dj_meaning.specs.Runs.{Store}
use Rattle.dj_graph.specs.GraphRuns.{local_variable}
use Rattle.dj_bytecode.specs.Machine.{Locals, slots_of, first_locals}
use Rattle.dj_bytecode.specs.SameShows.{AreArgumentsOf}
use Rattle.dj_typed_states.specs.Facts.{shapes}
use Rattle.dj_sound.specs.States.{table_of, Stands}
use Rattle.dj_sound.proofs.Runs.{stands_first}
use Rattle.dj_bytecode.specs.Machine.{code_from}
use Rattle.dj_vars.specs.Slots.{from_bottom, slot_value}
use Rattle.dj_vars.specs.Agreeing.{IsOfType}
use Rattle.dj_vars.specs.Parameters.{slots_from, parameter_slots}
use Rattle.dj_vars.proofs.Holding.{named-holds}
use Rattle.dj_vars.proofs.Parameters as parameters
use Rattle.dj_vars.proofs.Parameters.{located, this-located}
use Rattle.dj_blocks_shown.specs.Leaving.{Parts}
use Rattle.dj_blocks_shown.specs.Composing.{AreParts, Begins, HoldsArguments, ArgumentsBegin}
use Rattle.dj_blocks_shown.proofs.Making.{first-this}

zero-plus : (number : ℕ) → 0 + number ≡ number
zero-plus number = omega arith

-- the slot of an argument: that of `this`, or of a parameter
data IsArgument (parts : Parts) (slot : ℕ) : Type 0 where
  itself : is_static parts.typed.code.flags ≡ false → slot ≡ 0 → IsArgument parts slot
  parameter : (number : ℕ) → slice_get (parameter_slots parts.typed.code) number ≡ Some slot → IsArgument parts slot

is-argument : (headers : List Header) (parts : Parts) (arguments : List Value) → AreArgumentsOf headers parts.typed.code arguments → (slot : ℕ) (value : Value)
    → slice_index_or (first_locals parts.typed.code.max_locals arguments) slot None ≡ Some value → IsArgument parts slot
is-argument headers parts arguments fit slot value e = by (is_static parts.typed.code.flags) refl fit slot e
  where
    by : (static : Bool) → is_static parts.typed.code.flags ≡ static → AreArguments headers parts.typed.code.class static (parameters_of parts.typed.code.descriptor) arguments → (slot : ℕ)
        → slice_index_or (first_locals parts.typed.code.max_locals arguments) slot None ≡ Some value → IsArgument parts slot
    by true same fit slot e =
        let there = located headers (parameters_of parts.typed.code.descriptor) arguments fit (parts.typed.code.max_locals - length (slots_of arguments)) 0 slot value e in
        parameter there.0 (subst (λ (static : Bool). slice_get (slots_from (if static then 0 else 1) (parameters_of parts.typed.code.descriptor)) there.0 ≡ Some slot) (sym same) (there.1 ∙ ap Some (zero-plus slot)))
    by false same fit zero e = itself same refl
    by false same fit (suc slot) e =
        let there = this-located headers parts.typed.code.class (parameters_of parts.typed.code.descriptor) arguments fit (parts.typed.code.max_locals - length (slots_of arguments)) slot value e in
        parameter there.0 (subst (λ (static : Bool). slice_get (slots_from (if static then 0 else 1) (parameters_of parts.typed.code.descriptor)) there.0 ≡ Some (suc slot)) (sym same) there.1)

module _ (world headers : List Header) (parts : Parts) (some : parts.typed.code.instructions ≢ []) (typed : IsTyped (Laxly world) world parts.typed) (are : AreParts parts)
    (arguments : List Value) (fit : AreArgumentsOf headers parts.typed.code arguments) (store : Store) (holds : HoldsArguments parts arguments store) where
  abbrev locals : Locals
  locals = first_locals parts.typed.code.max_locals arguments

  stands : Stands shapes parts.typed.code (table_of parts.typed) (code_from 0 parts.typed.code.instructions) [] locals
  stands = subst (λ list. Stands shapes parts.typed.code (table_of parts.typed) list [] locals) (sym are.begins) (stands_first world parts.typed some typed headers arguments fit)

  has-argument : (slot variable : ℕ) → parts.vars.of 0 slot ≡ Some variable → IsArgument parts slot → store.variables (local_variable variable) ≡ slice_index_or locals slot None
  has-argument slot variable named (itself instance here) =
      holds.itself instance variable (subst (λ at. parts.vars.of 0 at ≡ Some variable) here named)
      ∙ first-this headers parts.typed.code.class (parameters_of parts.typed.code.descriptor) arguments parts.typed.code.max_locals
      (subst (λ static. AreArguments headers parts.typed.code.class static (parameters_of parts.typed.code.descriptor) arguments) instance fit)
      ∙ ap (λ at. slice_index_or locals at None) (sym here)
  has-argument slot variable named (parameter number there) =
      holds.parameters number slot variable there named ∙ sym (parameters.parameters_hold headers parts.typed.code arguments fit number slot there)

  at-slot : (slot variable : ℕ) → parts.vars.of 0 slot ≡ Some variable → IsOfType parts.vars.kinds variable (slot_value parts.typed.code [] locals slot) → store.variables (local_variable variable) ≡ slot_value parts.typed.code [] locals slot
  at-slot slot variable named of = by (nat_lt slot parts.typed.code.max_locals) refl of.there
    where
      by : (test : Bool) → nat_lt slot parts.typed.code.max_locals ≡ test → (if test then slice_index_or locals slot None else from_bottom [] (slot - parts.typed.code.max_locals)) ≡ Some of.value
          → store.variables (local_variable variable) ≡ slot_value parts.typed.code [] locals slot
      by true test e =
          has-argument slot variable named (is-argument headers parts arguments fit slot of.value e)
          ∙ sym (ap (λ (local : Bool). if local then slice_index_or locals slot None else from_bottom [] (slot - parts.typed.code.max_locals)) test)
      by false test e = absurd (no e)
        where
          no : None ≡ Some of.value → ⊥
          no e = cc

  begins : Begins parts arguments store
  begins = record {
    slots = λ slot variable named. at-slot slot variable named
        (named-holds parts.typed parts.starts parts.vars are.vars are.says 0 0 are.first (λ empty. some (sym are.begins ∙ empty)) [] locals stands slot variable named);
    parameters = record { has = λ number slot at. holds.given number slot at ∙ sym (parameters.parameters_hold headers parts.typed.code arguments fit number slot at) };
    free = holds.free;
  }

pub arguments_begin : ArgumentsBegin
arguments_begin world headers parts some typed are arguments fit store holds = begins world headers parts some typed are arguments fit store holds
