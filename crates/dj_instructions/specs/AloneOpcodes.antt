-- The instructions that no operands follow (JVMS 6.5).
use Rattle.std.specs.Prelude.{ℕ, ◌-◌, ◌/◌, ◌%◌, ◌==◌, true, false, if◌then◌else◌, pos, ◌-ℤ◌, List, [], ◌∷◌, slice_get, Option, Some, None, option_map}
use Rattle.std.specs.Int.{is_in_range}
use Rattle.std.specs.Option.{option_and_then}
use Rattle.dj_names.specs.declared.members.Constant.TheVariants as constant
use Rattle.dj_names.specs.Types.{Byte, Char, Short, Int, Long, Float, Double}
use Rattle.dj_instructions.specs.declared.kinds.Kind.{Kind}
use Rattle.dj_instructions.specs.declared.kinds.Kind.TheVariants as kind
use Rattle.dj_instructions.specs.declared.kinds.Element.{Element}
use Rattle.dj_instructions.specs.declared.kinds.Element.TheVariants as element
use Rattle.dj_instructions.specs.declared.kinds.Calc as calc_type
use Rattle.dj_instructions.specs.declared.kinds.Calc.TheVariants as calc
use Rattle.dj_instructions.specs.Instructions.{Instruction, Nop, PushNull, Push, Load, Store, ArrayLoad, ArrayStore, Pop, Pop2, Dup, DupX1, DupX2, Dup2, Dup2X1, Dup2X2, Swap, Calc, Convert, Compare, Return, ArrayLength, Throw, MonitorEnter, MonitorExit}

-- the kinds in the order of opcodes (JVMS 2.11.1)
abbrev pub kinds : List Kind
kinds = kind.Int ∷ kind.Long ∷ kind.Float ∷ kind.Double ∷ kind.Ref ∷ []

-- the elements of arrays in the order of `iaload` to `saload`
abbrev pub elements : List Element
elements = element.Int ∷ element.Long ∷ element.Float ∷ element.Double ∷ element.Ref ∷ element.Byte ∷ element.Char ∷ element.Short ∷ []

-- `pop` to `swap`
abbrev pub stack_moves : List Instruction
stack_moves = Pop ∷ Pop2 ∷ Dup ∷ DupX1 ∷ DupX2 ∷ Dup2 ∷ Dup2X1 ∷ Dup2X2 ∷ Swap ∷ []

-- `iadd` to `dneg`, each for four kinds
abbrev pub calcs : List calc_type.Calc
calcs = calc.Add ∷ calc.Sub ∷ calc.Mul ∷ calc.Div ∷ calc.Rem ∷ calc.Neg ∷ []

-- `ishl` to `lxor`, each for two kinds
abbrev pub bit_calcs : List calc_type.Calc
bit_calcs = calc.Shl ∷ calc.Shr ∷ calc.Ushr ∷ calc.And ∷ calc.Or ∷ calc.Xor ∷ []

-- `i2l` to `i2s`
abbrev pub conversions : List Instruction
conversions =
    Convert kind.Int Long ∷ Convert kind.Int Float ∷ Convert kind.Int Double
    ∷ Convert kind.Long Int ∷ Convert kind.Long Float ∷ Convert kind.Long Double
    ∷ Convert kind.Float Int ∷ Convert kind.Float Long ∷ Convert kind.Float Double
    ∷ Convert kind.Double Int ∷ Convert kind.Double Long ∷ Convert kind.Double Float
    ∷ Convert kind.Int Byte ∷ Convert kind.Int Char ∷ Convert kind.Int Short ∷ []

-- `lcmp` to `dcmpg`
abbrev pub comparisons : List Instruction
comparisons = Compare kind.Long false ∷ Compare kind.Float false ∷ Compare kind.Float true ∷ Compare kind.Double false ∷ Compare kind.Double true ∷ []

-- the bits of 0.0, 1.0 and 2.0 as floats (JVMS 2.3.2)
abbrev pub float_bits : List ℕ
float_bits = 0 ∷ 0x3f800000 ∷ 0x40000000 ∷ []

-- the bits of 0.0 and 1.0 as doubles (JVMS 2.3.2)
abbrev pub double_bits : List ℕ
double_bits = 0 ∷ 0x3ff0000000000000 ∷ []

-- a load of the kind at this place
abbrev pub load : ℕ → ℕ → Option Instruction
load place slot = option_map (λ k. Load k slot) (slice_get kinds place)

-- a store of the kind at this place
abbrev pub store : ℕ → ℕ → Option Instruction
store place slot = option_map (λ k. Store k slot) (slice_get kinds place)

-- the calculation and the kind at these places
abbrev pub calculation : List calc_type.Calc → ℕ → ℕ → Option Instruction
calculation all place of = option_and_then (λ c. option_map (Calc c) (slice_get kinds of)) (slice_get all place)

-- the opcodes that no operands follow
unfoldable pub alone : ℕ → Option Instruction
alone op =
    if op == 0 then Some Nop  -- `nop`
    else (if op == 1 then Some PushNull  -- `aconst_null`
    else (if is_in_range 2 8 op then Some (Push (constant.Int (pos op -ℤ pos 3)))  -- `iconst_m1` to `iconst_5`
    else (if is_in_range 9 10 op then Some (Push (constant.Long (pos (op - 9))))  -- `lconst_0`, `lconst_1`
    else (if is_in_range 11 13 op then option_map (λ bits. Push (constant.Float bits)) (slice_get float_bits (op - 11))  -- `fconst_0` to `fconst_2`
    else (if is_in_range 14 15 op then option_map (λ bits. Push (constant.Double bits)) (slice_get double_bits (op - 14))  -- `dconst_0`, `dconst_1`
    else (if is_in_range 26 45 op then load ((op - 26) / 4) ((op - 26) % 4)  -- `iload_0` to `aload_3`
    else (if is_in_range 46 53 op then option_map ArrayLoad (slice_get elements (op - 46))  -- `iaload` to `saload`
    else (if is_in_range 59 78 op then store ((op - 59) / 4) ((op - 59) % 4)  -- `istore_0` to `astore_3`
    else (if is_in_range 79 86 op then option_map ArrayStore (slice_get elements (op - 79))  -- `iastore` to `sastore`
    else (if is_in_range 87 95 op then slice_get stack_moves (op - 87)  -- `pop` to `swap`
    else (if is_in_range 96 119 op then calculation calcs ((op - 96) / 4) ((op - 96) % 4)  -- `iadd` to `dneg`
    else (if is_in_range 120 131 op then calculation bit_calcs ((op - 120) / 2) ((op - 120) % 2)  -- `ishl` to `lxor`
    else (if is_in_range 133 147 op then slice_get conversions (op - 133)  -- `i2l` to `i2s`
    else (if is_in_range 148 152 op then slice_get comparisons (op - 148)  -- `lcmp` to `dcmpg`
    else (if is_in_range 172 176 op then option_map (λ k. Return (Some k)) (slice_get kinds (op - 172))  -- `ireturn` to `areturn`
    else (if op == 177 then Some (Return None)  -- `return`
    else (if op == 190 then Some ArrayLength  -- `arraylength`
    else (if op == 191 then Some Throw  -- `athrow`
    else (if op == 194 then Some MonitorEnter  -- `monitorenter`
    else (if op == 195 then Some MonitorExit  -- `monitorexit`
    else None))))))))))))))))))))
