-- The definitions of instructions on worked values.
use Rattle.std.proofs.Common.{◌≡◌, ℕ, zero, suc, pos, negsuc, false, List, [], ◌∷◌, Some, None, refl, inl, inr, lit<}
use Rattle.std.specs.Prelude.{codes}
use Rattle.std.specs.Int.{w16, cast_signed}
use Rattle.dj_layout.specs.Parts.{number, run}
use Rattle.dj_names.specs.declared.members.Constant.TheVariants as constant
use Rattle.dj_names.specs.Types.{JType, Int, Class, Array, Method}
use Rattle.dj_pool.specs.declared.entry.Entry.{Entry}
use Rattle.dj_pool.specs.declared.entry.Entry.TheVariants as entry
use Rattle.dj_instructions.specs.declared.kinds.BadKind.TheVariants.{Opcode, CutOff}
use Rattle.dj_instructions.specs.declared.kinds.Kind.TheVariants as kind
use Rattle.dj_instructions.specs.declared.kinds.Calc.TheVariants as calc
use Rattle.dj_instructions.specs.Instructions.{Push, Load, Calc, Iinc, Goto, TableSwitch, LookupSwitch, InvokeSpecial, MultiNewArray}
use Rattle.dj_instructions.specs.RawInstructions as raw
use Rattle.dj_instructions.specs.RawInstructions.{Raw, Table, Lookup, form_of, raw_instruction, spell_raw, padding, count_keys, can_be_wide, opcode}
use Rattle.dj_instructions.specs.PoolNames.{Reference}
use Rattle.dj_instructions.specs.AloneOpcodes.{alone}
use Rattle.dj_instructions.specs.Jumps.{jump, target, table_switch, lookup_switch}
use Rattle.dj_instructions.specs.PoolMeanings.{Known, call_of, sized_array, array_of, new_object}
use Rattle.dj_instructions.specs.Meanings.{meaning_of, with_byte, with_short}
use Rattle.dj_instructions.specs.Listing.{HasBadInstruction}

-- ---- opcodes without operands

third_load : alone 44 ≡ Some (Load kind.Ref 2)
unfolding alone
third_load = refl

remainder_of_longs : alone 113 ≡ Some (Calc calc.Rem kind.Long)
unfolding alone
remainder_of_longs = refl

minus_one : alone 2 ≡ Some (Push (constant.Int (negsuc 0)))
unfolding alone
minus_one = refl

no_ret : opcode.Fits 169 → ⊥
unfolding form_of
no_ret h = cc

-- ---- switches

-- a table of the keys 5 and 6
two_keys : List ℕ → Table
two_keys pad = record { padding = pad; other = 30; low = 5; high = 6; offsets = 20 ∷ 25 ∷ [] }

at_one : padding 1 ≡ run 2 CutOff
at_one = refl

at_two : padding 2 ≡ run 1 CutOff
at_two = refl

at_four : padding 4 ≡ run 3 CutOff
at_four = refl

table_bytes : spell_raw (raw.TableSwitch 170 (two_keys (0 ∷ 0 ∷ []))) ≡ 170 ∷ 0 ∷ 0 ∷ 0 ∷ 0 ∷ 0 ∷ 30 ∷ 0 ∷ 0 ∷ 0 ∷ 5 ∷ 0 ∷ 0 ∷ 0 ∷ 6 ∷ 0 ∷ 0 ∷ 0 ∷ 20 ∷ 0 ∷ 0 ∷ 0 ∷ 25 ∷ []
unfolding two_keys form_of number
table_bytes = refl

table_means : table_switch 1 (two_keys (0 ∷ 0 ∷ [])) ≡ Some (TableSwitch (pos 5) (21 ∷ 26 ∷ []) 31)
unfolding two_keys
table_means = refl

-- keys from 1 down to -1
falling : Table
falling = record { padding = []; other = 0; low = 1; high = 0xffffffff; offsets = [] }

no_keys : count_keys (pos 1) (negsuc 0) ≡ 0
no_keys = refl

falling_is_none : table_switch 3 falling ≡ None
unfolding falling
falling_is_none = refl

keys_of : ℕ → ℕ → Lookup
keys_of one other = record { padding = []; other = 40; pairs = (one, 30) ∷ (other, 20) ∷ [] }

rising_keys : lookup_switch 3 (keys_of 0xffffffff 7) ≡ Some (LookupSwitch ((negsuc 0, 33) ∷ (pos 7, 23) ∷ []) 43)
unfolding keys_of
rising_keys = refl

equal_keys : lookup_switch 3 (keys_of 7 7) ≡ None
unfolding keys_of
equal_keys = refl

-- ---- `wide`

wide_step : meaning_of [] 0 (raw.Wide 196 (record { opcode = 132; slot = 300; by = 65535 })) ≡ Known (Some (Iinc 300 (negsuc 0)))
wide_step = refl

wide_bytes : spell_raw (raw.Wide 196 (record { opcode = 132; slot = 300; by = 65535 })) ≡ 196 ∷ 132 ∷ 1 ∷ 44 ∷ 255 ∷ 255 ∷ []
unfolding form_of number
wide_bytes = refl

wide_load_bytes : spell_raw (raw.Wide 196 (record { opcode = 25; slot = 300; by = 0 })) ≡ 196 ∷ 25 ∷ 1 ∷ 44 ∷ []
unfolding form_of number
wide_load_bytes = refl

wide_is_opcode : (raw.opcode).Fits 196
unfolding form_of number
wide_is_opcode = (lit< tt, refl)

-- with nothing behind it, it is cut off
wide_at_end : HasBadInstruction [] (196 ∷ []) (record { kind = CutOff; offset = 0 })
unfolding form_of number
wide_at_end = (
  [],
  196 ∷ [],
  tt,
  refl,
  refl,
  inl (record { kind = CutOff; offset = 1 }, inr (196, [], record { fits = wide_is_opcode; text = refl }, inl (inl (inl (lit< tt, refl)))), refl),
)

-- before `nop` it is none, whatever follows
wide_nop : HasBadInstruction [] (196 ∷ 0 ∷ []) (record { kind = Opcode; offset = 0 })
unfolding form_of number
wide_nop = (
  [],
  196 ∷ 0 ∷ [],
  tt,
  refl,
  refl,
  inl (record { kind = Opcode; offset = 1 }, inr (196, 0 ∷ [], record { fits = wide_is_opcode; text = refl }, inl (inl (inr (0, [], record { fits = lit< tt; text = refl }, refl, refl)))), refl),
)

-- ---- constants

constants : List Entry
constants = entry.Skip ∷ entry.Long (pos 5) ∷ entry.Skip ∷ entry.Integer (pos 70000) ∷ entry.Utf8 (codes "x") ∷ entry.Text 4 ∷ []

no_word : with_byte constants 18 1 ≡ Known None
unfolding constants with_byte
no_word = refl

two_words : with_short constants 0 20 1 ≡ Known (Some (Push (constant.Long (pos 5))))
unfolding constants with_short
two_words = refl

wide_index : with_short constants 0 19 5 ≡ Known (Some (Push (constant.Text (codes "x"))))
unfolding constants with_short
wide_index = refl

-- ---- jumps

backwards : jump 167 (target 5 (cast_signed w16 0xfffd)) ≡ Some (Goto 2)
unfolding jump
backwards = refl

-- ---- calls and types

constructor : Reference
constructor = record { tag = 10; owner = Class (codes "C"); member = record { name = codes "<init>"; descriptor = Method [] None } }

called_so : call_of 183 constructor ≡ Some (InvokeSpecial (record { owner = Class (codes "C"); interface = false; name = codes "<init>"; descriptor = Method [] None }))
unfolding constructor
called_so = refl

not_so : call_of 182 constructor ≡ None
unfolding constructor
not_so = refl

too_many_sizes : sized_array 3 (Array (Array Int)) ≡ None
too_many_sizes = refl

as_many_sizes : sized_array 2 (Array (Array Int)) ≡ Some (MultiNewArray (Array (Array Int)) 2)
as_many_sizes = refl

no_sizes : sized_array 0 (Array Int) ≡ None
no_sizes = refl

no_array_object : new_object (Array Int) ≡ None
no_array_object = refl

-- an array in so many others
nested : ℕ → JType
nested zero = Int
nested (suc n) = Array (nested n)

too_deep : array_of (nested 255) ≡ None
unfolding nested
too_deep = refl
