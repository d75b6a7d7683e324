-- Jumps and switches (JVMS 6.5).
use Rattle.std.specs.Prelude.{ℕ, ◌+◌, ◌-◌, ◌%◌, ◌^◌, ◌==◌, Bool, true, ◌&&◌, if◌then◌else◌, ℤ, int_lt, List, [], ◌∷◌, map, slice_get, Option, Some, None, option_map}
use Rattle.std.specs.Int.{w32, cast_signed, cast_unsigned, is_in_range}
use Rattle.dj_instructions.specs.declared.kinds.Test.{Test}
use Rattle.dj_instructions.specs.declared.kinds.Test.TheVariants as test
use Rattle.dj_instructions.specs.Instructions.{Instruction, IfZero, IfInts, IfRefs, IfNull, Goto, TableSwitch, LookupSwitch}
use Rattle.dj_instructions.specs.RawInstructions.{Table, Lookup}

-- the pc that lies so far from this one, as a number of 32 bits
abbrev pub target : ℕ → ℤ → ℕ
target pc offset = (pc + cast_unsigned w32 offset) % 2 ^ 32

-- the tests in the order of `ifeq` to `ifle`
abbrev pub tests : List Test
tests = test.Eq ∷ test.Ne ∷ test.Lt ∷ test.Ge ∷ test.Gt ∷ test.Le ∷ []

-- a jump to this pc
unfoldable pub jump : ℕ → ℕ → Option Instruction
jump op to =
    if is_in_range 153 158 op then option_map (λ t. IfZero t to) (slice_get tests (op - 153))  -- `ifeq` to `ifle`
    else (if is_in_range 159 164 op then option_map (λ t. IfInts t to) (slice_get tests (op - 159))  -- `if_icmpeq` to `if_icmple`
    else (if is_in_range 165 166 op then Some (IfRefs (op == 165) to)  -- `if_acmpeq`, `if_acmpne`
    else (if op == 167 then Some (Goto to)  -- `goto`
    else (if is_in_range 198 199 op then Some (IfNull (op == 198) to)  -- `ifnull`, `ifnonnull`
    else None))))

-- a `tableswitch` with these targets; its lowest key isn't above its highest
abbrev pub table_with : ℕ → ℕ → ℕ → ℕ → List ℕ → Option Instruction
table_with pc other low high targets =
    if int_lt (cast_signed w32 high) (cast_signed w32 low) then None
    else Some (TableSwitch (cast_signed w32 low) targets (target pc (cast_signed w32 other)))

-- a `tableswitch` by its operands
abbrev pub table_switch : ℕ → Table → Option Instruction
table_switch pc t = table_with pc t.other t.low t.high (map (λ offset. target pc (cast_signed w32 offset)) t.offsets)

-- each key is above the one before it
abbrev pub do_rise : List (ℤ × ℕ) → Bool
do_rise [] = true
do_rise (one ∷ []) = true
do_rise (one ∷ next ∷ rest) = int_lt one.0 next.0 && do_rise (next ∷ rest)

-- a `lookupswitch` with these keys and targets; the keys rise
abbrev pub lookup_with : ℕ → ℕ → List (ℤ × ℕ) → Option Instruction
lookup_with pc other cases = if do_rise cases then Some (LookupSwitch cases (target pc (cast_signed w32 other))) else None

-- a `lookupswitch` by its operands
abbrev pub lookup_switch : ℕ → Lookup → Option Instruction
lookup_switch pc l = lookup_with pc l.other (map (λ p. (cast_signed w32 p.0, target pc (cast_signed w32 p.1))) l.pairs)
