-- Instructions as they are spelled: an opcode, and the numbers behind it as they stand (JVMS 6.5).
use Rattle.std.specs.Prelude.{ℕ, ◌+◌, ◌-◌, ◌%◌, ◌==◌, Bool, true, false, ◌||◌, if◌then◌else◌, ℤ, int_lt, unsigned_abs, ◌-ℤ◌, List, [], length}
use Rattle.std.specs.Int.{w32, cast_signed, is_in_range}
use Rattle.dj_layout.specs.Layout.{Layout}
use Rattle.dj_layout.specs.Parts.{number, run, exactly, headed, times, tested, choice}
use Rattle.dj_layout.specs.Passes.{told_in_front}
use Rattle.dj_instructions.specs.declared.kinds.BadKind.{BadKind}
use Rattle.dj_instructions.specs.declared.kinds.BadKind.TheVariants.{Opcode, CutOff}
use Rattle.dj_instructions.specs.declared.form.Form.{Form}
use Rattle.dj_instructions.specs.declared.form.Form.TheVariants as form

-- what follows each opcode (JVMS 6.5, 7); `jsr`, `ret` and `jsr_w` are none
unfoldable pub form_of : ℕ → Form
form_of op =
    if is_in_range 0 15 op then form.Alone  -- `nop` to `dconst_1`
    else (if op == 16 then form.Byte  -- `bipush`
    else (if op == 17 then form.Short  -- `sipush`
    else (if op == 18 then form.Byte  -- `ldc`
    else (if is_in_range 19 20 op then form.Short  -- `ldc_w`, `ldc2_w`
    else (if is_in_range 21 25 op then form.Byte  -- `iload` to `aload`
    else (if is_in_range 26 53 op then form.Alone  -- `iload_0` to `saload`
    else (if is_in_range 54 58 op then form.Byte  -- `istore` to `astore`
    else (if is_in_range 59 131 op then form.Alone  -- `istore_0` to `lxor`
    else (if op == 132 then form.Step  -- `iinc`
    else (if is_in_range 133 152 op then form.Alone  -- `i2l` to `dcmpg`
    else (if is_in_range 153 167 op then form.Short  -- `ifeq` to `goto`
    else (if op == 170 then form.Table  -- `tableswitch`
    else (if op == 171 then form.Lookup  -- `lookupswitch`
    else (if is_in_range 172 177 op then form.Alone  -- `ireturn` to `return`
    else (if is_in_range 178 184 op then form.Short  -- `getstatic` to `invokestatic`
    else (if is_in_range 185 186 op then form.Counted  -- `invokeinterface`, `invokedynamic`
    else (if op == 187 then form.Short  -- `new`
    else (if op == 188 then form.Byte  -- `newarray`
    else (if op == 189 then form.Short  -- `anewarray`
    else (if is_in_range 190 191 op then form.Alone  -- `arraylength`, `athrow`
    else (if is_in_range 192 193 op then form.Short  -- `checkcast`, `instanceof`
    else (if is_in_range 194 195 op then form.Alone  -- `monitorenter`, `monitorexit`
    else (if op == 196 then form.Wide  -- `wide`
    else (if op == 197 then form.Sizes  -- `multianewarray`
    else (if is_in_range 198 199 op then form.Short  -- `ifnull`, `ifnonnull`
    else (if op == 200 then form.Word  -- `goto_w`
    else form.Unknown))))))))))))))))))))))))))

-- whether a form is that of an opcode
abbrev pub is_known : Form → Bool
is_known form.Unknown = false
is_known form.Alone = true
is_known form.Byte = true
is_known form.Short = true
is_known form.Word = true
is_known form.Step = true
is_known form.Counted = true
is_known form.Sizes = true
is_known form.Table = true
is_known form.Lookup = true
is_known form.Wide = true

-- whether `wide` may stand in front of the opcode: a load, a store or `iinc` (JVMS 6.5, `wide`)
abbrev pub can_be_wide : ℕ → Bool
can_be_wide op = is_in_range 21 25 op || is_in_range 54 58 op || (op == 132)

-- the operands of `tableswitch`: padding, the offset for ints that are no key, the lowest and the highest key, and an offset for each
pub record Table : Type 0 where
  pub padding : List ℕ
  pub other : ℕ
  pub low : ℕ
  pub high : ℕ
  pub offsets : List ℕ

-- the operands of `lookupswitch`: padding, the offset for ints that are no key, and keys with their offsets
pub record Lookup : Type 0 where
  pub padding : List ℕ
  pub other : ℕ
  pub pairs : List (ℕ × ℕ)

-- what stands behind `wide`: an opcode, a local and, for `iinc`, what is added to it, else 0
pub record Widened : Type 0 where
  pub opcode : ℕ
  pub slot : ℕ
  pub by : ℕ

-- an opcode and what stands behind it: two numbers, 0 where there are fewer, or operands of a form of their own
pub data Raw : Type 0 where
  Plain : ℕ → ℕ → ℕ → Raw
  TableSwitch : ℕ → Table → Raw
  LookupSwitch : ℕ → Lookup → Raw
  Wide : ℕ → Widened → Raw

-- the opcode of an instruction; of `wide`, `wide` itself
abbrev pub opcode_of : Raw → ℕ
opcode_of (Plain op x y) = op
opcode_of (TableSwitch op t) = op
opcode_of (LookupSwitch op l) = op
opcode_of (Wide op w) = op

-- the first number behind an opcode, 0 in a form of its own
abbrev pub first_of : Raw → ℕ
first_of (Plain op x y) = x
first_of (TableSwitch op t) = 0
first_of (LookupSwitch op l) = 0
first_of (Wide op w) = 0

-- the second number behind an opcode, 0 in a form of its own
abbrev pub second_of : Raw → ℕ
second_of (Plain op x y) = y
second_of (TableSwitch op t) = 0
second_of (LookupSwitch op l) = 0
second_of (Wide op w) = 0

-- the operands of `tableswitch`, empty elsewhere
abbrev pub table_of : Raw → Table
table_of (Plain op x y) = record { padding = []; other = 0; low = 0; high = 0; offsets = [] }
table_of (TableSwitch op t) = t
table_of (LookupSwitch op l) = record { padding = []; other = 0; low = 0; high = 0; offsets = [] }
table_of (Wide op w) = record { padding = []; other = 0; low = 0; high = 0; offsets = [] }

-- the operands of `lookupswitch`, empty elsewhere
abbrev pub lookup_of : Raw → Lookup
lookup_of (Plain op x y) = record { padding = []; other = 0; pairs = [] }
lookup_of (TableSwitch op t) = record { padding = []; other = 0; pairs = [] }
lookup_of (LookupSwitch op l) = l
lookup_of (Wide op w) = record { padding = []; other = 0; pairs = [] }

-- what stands behind `wide`, empty elsewhere
abbrev pub widened_of : Raw → Widened
widened_of (Plain op x y) = record { opcode = 0; slot = 0; by = 0 }
widened_of (TableSwitch op t) = record { opcode = 0; slot = 0; by = 0 }
widened_of (LookupSwitch op l) = record { opcode = 0; slot = 0; by = 0 }
widened_of (Wide op w) = w

-- ---- the layout; what is cut off is told at the instruction

-- a number of one byte
abbrev pub u1 : Layout BadKind ℕ
u1 = number 1 CutOff

-- a number of two bytes
abbrev pub u2 : Layout BadKind ℕ
u2 = number 2 CutOff

-- a number of four bytes
abbrev pub u4 : Layout BadKind ℕ
u4 = number 4 CutOff

-- bytes up to the next offset that is a multiple of four, behind an opcode at this one
abbrev pub padding : ℕ → Layout BadKind (List ℕ)
padding pc = run (3 - pc % 4) CutOff

-- how many keys a `tableswitch` has, none where the lowest is above the highest
abbrev pub count_keys : ℤ → ℤ → ℕ
count_keys low high = if int_lt high low then 0 else unsigned_abs (high -ℤ low) + 1

-- a `tableswitch` at this pc, behind its opcode (JVMS 6.5)
abbrev pub table : ℕ → Layout BadKind Table
table pc =
    headed (λ t. t.padding) (padding pc) (λ pad.
    headed (λ t. t.other) u4 (λ other.
    headed (λ t. t.low) u4 (λ low.
    headed (λ t. t.high) u4 (λ high.
    headed (λ t. t.offsets) (times (count_keys (cast_signed w32 low) (cast_signed w32 high)) u4) (λ offsets.
    exactly (record { padding = pad; other = other; low = low; high = high; offsets = offsets }))))))

-- a key and its offset
abbrev pub pair : Layout BadKind (ℕ × ℕ)
pair = headed (λ p. p.0) u4 (λ key. headed (λ p. p.1) u4 (λ offset. exactly (key, offset)))

-- a `lookupswitch` at this pc, behind its opcode (JVMS 6.5)
abbrev pub lookup : ℕ → Layout BadKind Lookup
lookup pc =
    headed (λ l. l.padding) (padding pc) (λ pad.
    headed (λ l. l.other) u4 (λ other.
    headed (λ l. l.pairs) (headed length u4 (λ n. times n pair)) (λ pairs.
    exactly (record { padding = pad; other = other; pairs = pairs }))))

-- what stands behind `wide` (JVMS 6.5)
abbrev pub widened : Layout BadKind Widened
widened =
    headed (λ w. w.opcode) (tested u1 can_be_wide Opcode) (λ op.
    headed (λ w. w.slot) u2 (λ slot.
    headed (λ w. w.by) (choice (op == 132) u2 (exactly 0)) (λ by.
    exactly (record { opcode = op; slot = slot; by = by }))))

-- an opcode with a number behind it
abbrev pub one : ℕ → Layout BadKind ℕ → Layout BadKind Raw
one op part = headed first_of part (λ x. exactly (Plain op x 0))

-- an opcode with two numbers behind it
abbrev pub two : ℕ → Layout BadKind ℕ → Layout BadKind ℕ → Layout BadKind Raw
two op part other = headed first_of part (λ x. headed second_of other (λ y. exactly (Plain op x y)))

-- what stands behind an opcode of this form at this pc
abbrev pub behind : ℕ → ℕ → Form → Layout BadKind Raw
behind pc op form.Unknown = exactly (Plain op 0 0)
behind pc op form.Alone = exactly (Plain op 0 0)
behind pc op form.Byte = one op u1
behind pc op form.Short = one op u2
behind pc op form.Word = one op u4
behind pc op form.Step = two op u1 u1
behind pc op form.Counted = two op u2 u2
behind pc op form.Sizes = two op u2 u1
behind pc op form.Table = headed table_of (table pc) (λ t. exactly (TableSwitch op t))
behind pc op form.Lookup = headed lookup_of (lookup pc) (λ l. exactly (LookupSwitch op l))
behind pc op form.Wide = headed widened_of widened (λ w. exactly (Wide op w))

-- an opcode, which is judged before anything behind it is looked at
abbrev pub opcode : Layout BadKind ℕ
opcode = tested u1 (λ op. is_known (form_of op)) Opcode

-- an instruction at this pc
abbrev pub raw_instruction : ℕ → Layout BadKind Raw
raw_instruction pc = told_in_front (headed opcode_of opcode (λ op. behind pc op (form_of op)))

-- the one spelling of an instruction, which is the same at each pc
abbrev pub spell_raw : Raw → List ℕ
spell_raw = (raw_instruction 0).spell

-- how many bytes an instruction has
abbrev pub size : Raw → ℕ
size raw = length (spell_raw raw)
