-- What instructions are in a birth, and what their works are.
use Rattle.std.proofs.Common.{◌≡◌, ◌≢◌, ℕ, Bool, true, false, List, [], ◌∷◌, Contains, Option, Some, None, refl, sym, ◌∙◌, subst, arith}
use Rattle.std.specs.Prelude.{if◌then◌else◌, is_none}
use Rattle.dj_names.specs.declared.header.Header.{Header}
use Rattle.dj_names.specs.Headers.{Name}
use Rattle.dj_names.specs.Types.{JType, Descriptor, result_of}
use Rattle.dj_names.specs.MethodNames.{is_constructor}
use Rattle.dj_instructions.specs.declared.kinds.Calc.{Calc}
use Rattle.dj_instructions.specs.declared.kinds.Calc.TheVariants as calcs
use Rattle.dj_instructions.specs.declared.kinds.Kind.{Kind}
use Rattle.dj_instructions.specs.declared.kinds.Kind.TheVariants as kinds
use Rattle.dj_instructions.specs.declared.kinds.Element.{Element}
use Rattle.dj_instructions.specs.declared.kinds.Element.TheVariants as element
use Rattle.dj_instructions.specs.Instructions.{Instruction}
use Rattle.dj_instructions.specs.Instructions as op
use Rattle.dj_frames.specs.Frames as tag
use Rattle.dj_frames.specs.Frames.{Tag, tag_of}
use Rattle.dj_code.specs.MethodCode.{Code}
use Rattle.dj_code.specs.Targets.{targets_of}
use Rattle.dj_effects.specs.Works.{Of, Work, Plain, Moves, Loads, Stores, Counts, Makes, Bears, Elements, Sets, Supers, Leaves, Never}
use Rattle.dj_effects.specs.Spelled.{is_spelled, is_kind}
use Rattle.dj_effects.specs.Rows.{number_tag, kind_of, birth, super_call, of_number, operands, read, write, leave, row, work}
use Rattle.dj_starts.specs.declared.roles.Role.TheVariants as role
use Rattle.dj_starts.specs.Births.{role_of}
use Rattle.dj_starts.specs.Control.{control_of, control_of_calc, divides, ends_block}
use Rattle.dj_bytecode.specs.Meanings.{meaning_of}
use Rattle.dj_rebuilt.specs.Sorts.{sort_of}
use Rattle.dj_rebuilt.specs.Rebuilding.{continues}
use Rattle.dj_rebuildable.specs.Walking.{makes}
use Rattle.dj_exits.proofs.Ending.{IsExit, by_goto, by_return, by_value, by_throw, by_zero, by_ints, by_refs, by_null, by_table, by_lookup, ends}

pub never : {P : Type 0} → false ≡ true → P
never e = absurd (cc)

-- ---- roles

exit-never : {instruction : Instruction} → IsExit instruction → role_of instruction ≡ role.Never
exit-never by_goto = refl
exit-never by_return = refl
exit-never by_value = refl
exit-never by_throw = refl
exit-never by_zero = refl
exit-never by_ints = refl
exit-never by_refs = refl
exit-never by_null = refl
exit-never by_table = refl
exit-never by_lookup = refl

-- control goes on where an instruction may stand in some birth
pub goes-on : (headers : List Header) (class : Name) (instruction : Instruction) → role_of instruction ≢ role.Never → continues (sort_of instruction) (meaning_of headers class instruction) ≡ true
goes-on headers class instruction may = by (continues (sort_of instruction) (meaning_of headers class instruction)) refl
  where
    by : (test : Bool) → continues (sort_of instruction) (meaning_of headers class instruction) ≡ test → test ≡ true
    by true e = refl
    by false e = absurd (may (exit-never (ends headers class instruction e)))

divides-on : (kind : Kind) → ends_block (divides kind) ≡ false
divides-on kinds.Int = refl
divides-on kinds.Long = refl
divides-on kinds.Float = refl
divides-on kinds.Double = refl
divides-on kinds.Ref = refl

calc-on : (operation : Calc) (kind : Kind) → ends_block (control_of_calc operation kind) ≡ false
calc-on calcs.Add kind = refl
calc-on calcs.Sub kind = refl
calc-on calcs.Mul kind = refl
calc-on calcs.Div kind = divides-on kind
calc-on calcs.Rem kind = divides-on kind
calc-on calcs.Neg kind = refl
calc-on calcs.Shl kind = refl
calc-on calcs.Shr kind = refl
calc-on calcs.Ushr kind = refl
calc-on calcs.And kind = refl
calc-on calcs.Or kind = refl
calc-on calcs.Xor kind = refl

-- what ends a block stands in no birth
pub ends-never : (instruction : Instruction) → ends_block (control_of instruction) ≡ true → role_of instruction ≡ role.Never
ends-never op.Nop e = never e
ends-never op.PushNull e = never e
ends-never (op.Push constant) e = never e
ends-never (op.PushClass type) e = never e
ends-never (op.PushHandle kind interface owner name descriptor) e = never e
ends-never (op.PushMethodType descriptor) e = never e
ends-never (op.Load kind slot) e = never e
ends-never (op.Store kind slot) e = never e
ends-never (op.ArrayLoad of) e = never e
ends-never (op.ArrayStore of) e = never e
ends-never op.Pop e = never e
ends-never op.Pop2 e = never e
ends-never op.Dup e = never e
ends-never op.DupX1 e = never e
ends-never op.DupX2 e = never e
ends-never op.Dup2 e = never e
ends-never op.Dup2X1 e = never e
ends-never op.Dup2X2 e = never e
ends-never op.Swap e = never e
ends-never (op.Calc operation of) e = never (sym (calc-on operation of) ∙ e)
ends-never (op.Iinc slot by) e = never e
ends-never (op.Convert from to) e = never e
ends-never (op.Compare of greater) e = never e
ends-never (op.IfZero test target) e = refl
ends-never (op.IfInts test target) e = refl
ends-never (op.IfRefs equal target) e = refl
ends-never (op.IfNull null target) e = refl
ends-never (op.Goto target) e = refl
ends-never (op.TableSwitch low targets other) e = refl
ends-never (op.LookupSwitch cases other) e = refl
ends-never (op.Return of) e = refl
ends-never (op.GetStatic field) e = never e
ends-never (op.PutStatic field) e = never e
ends-never (op.GetField field) e = never e
ends-never (op.PutField field) e = never e
ends-never (op.InvokeVirtual method) e = never e
ends-never (op.InvokeSpecial method) e = never e
ends-never (op.InvokeStatic method) e = never e
ends-never (op.InvokeInterface method) e = never e
ends-never (op.InvokeDynamic bootstrap name descriptor) e = never e
ends-never (op.New class) e = never e
ends-never (op.NewArray of) e = never e
ends-never (op.MultiNewArray type sizes) e = never e
ends-never op.ArrayLength e = never e
ends-never op.Throw e = refl
ends-never (op.CheckCast type) e = never e
ends-never (op.InstanceOf type) e = never e
ends-never op.MonitorEnter e = refl
ends-never op.MonitorExit e = refl

none-there : {A P : Type 0} (one : A) → Contains {X = A} [] one → P
none-there one has = let less = has.1 in absurd (omega arith)

-- nor does what jumps
pub jumps-never : (instruction : Instruction) (target : ℕ) → Contains (targets_of instruction) target → role_of instruction ≡ role.Never
jumps-never op.Nop target has = none-there target has
jumps-never op.PushNull target has = none-there target has
jumps-never (op.Push constant) target has = none-there target has
jumps-never (op.PushClass type) target has = none-there target has
jumps-never (op.PushHandle kind interface owner name descriptor) target has = none-there target has
jumps-never (op.PushMethodType descriptor) target has = none-there target has
jumps-never (op.Load kind slot) target has = none-there target has
jumps-never (op.Store kind slot) target has = none-there target has
jumps-never (op.ArrayLoad of) target has = none-there target has
jumps-never (op.ArrayStore of) target has = none-there target has
jumps-never op.Pop target has = none-there target has
jumps-never op.Pop2 target has = none-there target has
jumps-never op.Dup target has = none-there target has
jumps-never op.DupX1 target has = none-there target has
jumps-never op.DupX2 target has = none-there target has
jumps-never op.Dup2 target has = none-there target has
jumps-never op.Dup2X1 target has = none-there target has
jumps-never op.Dup2X2 target has = none-there target has
jumps-never op.Swap target has = none-there target has
jumps-never (op.Calc operation of) target has = none-there target has
jumps-never (op.Iinc slot by) target has = none-there target has
jumps-never (op.Convert from to) target has = none-there target has
jumps-never (op.Compare of greater) target has = none-there target has
jumps-never (op.IfZero test to) target has = refl
jumps-never (op.IfInts test to) target has = refl
jumps-never (op.IfRefs equal to) target has = refl
jumps-never (op.IfNull null to) target has = refl
jumps-never (op.Goto to) target has = refl
jumps-never (op.TableSwitch low targets other) target has = refl
jumps-never (op.LookupSwitch cases other) target has = refl
jumps-never (op.Return of) target has = none-there target has
jumps-never (op.GetStatic field) target has = none-there target has
jumps-never (op.PutStatic field) target has = none-there target has
jumps-never (op.GetField field) target has = none-there target has
jumps-never (op.PutField field) target has = none-there target has
jumps-never (op.InvokeVirtual method) target has = none-there target has
jumps-never (op.InvokeSpecial method) target has = none-there target has
jumps-never (op.InvokeStatic method) target has = none-there target has
jumps-never (op.InvokeInterface method) target has = none-there target has
jumps-never (op.InvokeDynamic bootstrap name descriptor) target has = none-there target has
jumps-never (op.New class) target has = none-there target has
jumps-never (op.NewArray of) target has = none-there target has
jumps-never (op.MultiNewArray type sizes) target has = none-there target has
jumps-never op.ArrayLength target has = none-there target has
jumps-never op.Throw target has = none-there target has
jumps-never (op.CheckCast type) target has = none-there target has
jumps-never (op.InstanceOf type) target has = none-there target has
jumps-never op.MonitorEnter target has = none-there target has
jumps-never op.MonitorExit target has = none-there target has

plainly : (test : Bool) → (if test then role.Silent else role.Plain) ≡ role.New → ⊥
plainly true e = cc
plainly false e = cc

-- a `new` by its role
pub new-makes : (instruction : Instruction) → role_of instruction ≡ role.New → makes instruction ≡ true
new-makes op.Nop e = absurd (cc)
new-makes op.PushNull e = absurd (cc)
new-makes (op.Push constant) e = absurd (cc)
new-makes (op.PushClass type) e = absurd (cc)
new-makes (op.PushHandle kind interface owner name descriptor) e = absurd (cc)
new-makes (op.PushMethodType descriptor) e = absurd (cc)
new-makes (op.Load kind slot) e = absurd (cc)
new-makes (op.Store kind slot) e = absurd (cc)
new-makes (op.ArrayLoad of) e = absurd (cc)
new-makes (op.ArrayStore of) e = absurd (cc)
new-makes op.Pop e = absurd (cc)
new-makes op.Pop2 e = absurd (cc)
new-makes op.Dup e = absurd (cc)
new-makes op.DupX1 e = absurd (cc)
new-makes op.DupX2 e = absurd (cc)
new-makes op.Dup2 e = absurd (cc)
new-makes op.Dup2X1 e = absurd (cc)
new-makes op.Dup2X2 e = absurd (cc)
new-makes op.Swap e = absurd (cc)
new-makes (op.Calc operation of) e = absurd (cc)
new-makes (op.Iinc slot by) e = absurd (cc)
new-makes (op.Convert from to) e = absurd (cc)
new-makes (op.Compare of greater) e = absurd (cc)
new-makes (op.IfZero test target) e = absurd (cc)
new-makes (op.IfInts test target) e = absurd (cc)
new-makes (op.IfRefs equal target) e = absurd (cc)
new-makes (op.IfNull null target) e = absurd (cc)
new-makes (op.Goto target) e = absurd (cc)
new-makes (op.TableSwitch low targets other) e = absurd (cc)
new-makes (op.LookupSwitch cases other) e = absurd (cc)
new-makes (op.Return of) e = absurd (cc)
new-makes (op.GetStatic field) e = absurd (cc)
new-makes (op.PutStatic field) e = absurd (cc)
new-makes (op.GetField field) e = absurd (cc)
new-makes (op.PutField field) e = absurd (cc)
new-makes (op.InvokeVirtual method) e = absurd (plainly (is_none (result_of method.descriptor)) e)
new-makes (op.InvokeSpecial method) e = absurd (plainly (is_none (result_of method.descriptor)) e)
new-makes (op.InvokeStatic method) e = absurd (plainly (is_none (result_of method.descriptor)) e)
new-makes (op.InvokeInterface method) e = absurd (plainly (is_none (result_of method.descriptor)) e)
new-makes (op.InvokeDynamic bootstrap name descriptor) e = absurd (plainly (is_none (result_of descriptor)) e)
new-makes (op.New class) e = refl
new-makes (op.NewArray of) e = absurd (cc)
new-makes (op.MultiNewArray type sizes) e = absurd (cc)
new-makes op.ArrayLength e = absurd (cc)
new-makes op.Throw e = absurd (cc)
new-makes (op.CheckCast type) e = absurd (cc)
new-makes (op.InstanceOf type) e = absurd (cc)
new-makes op.MonitorEnter e = absurd (cc)
new-makes op.MonitorExit e = absurd (cc)

-- ---- works

-- a store stands in no birth, and what makes is a `new`
abbrev Fits : Instruction → Work → Type 0
Fits instruction (Plain wants gives) = Unit {0}
Fits instruction (Moves forms) = Unit {0}
Fits instruction (Loads kind slot) = Unit {0}
Fits instruction (Stores kind slot) = role_of instruction ≡ role.Never
Fits instruction (Counts slot) = Unit {0}
Fits instruction Makes = (class : Name) × (instruction ≡ op.New class)
Fits instruction (Bears wants owner) = Unit {0}
Fits instruction Elements = Unit {0}
Fits instruction (Sets type owner) = Unit {0}
Fits instruction (Supers owner wants gives) = Unit {0}
Fits instruction Leaves = Unit {0}
Fits instruction Never = Unit {0}

fits-read : (instruction : Instruction) (of : Element) → Fits instruction (read of)
fits-read instruction element.Int = tt
fits-read instruction element.Long = tt
fits-read instruction element.Float = tt
fits-read instruction element.Double = tt
fits-read instruction element.Ref = tt
fits-read instruction element.Byte = tt
fits-read instruction element.Char = tt
fits-read instruction element.Short = tt

fits-write : (instruction : Instruction) (of : Element) → Fits instruction (write of)
fits-write instruction element.Int = tt
fits-write instruction element.Long = tt
fits-write instruction element.Float = tt
fits-write instruction element.Double = tt
fits-write instruction element.Ref = tt
fits-write instruction element.Byte = tt
fits-write instruction element.Char = tt
fits-write instruction element.Short = tt

fits-number : (instruction : Instruction) (of : Kind) (made : Tag → Work) → ((held : Tag) → Fits instruction (made held)) → Fits instruction (of_number (number_tag of) made)
fits-number instruction kinds.Int made fit = fit tag.Int
fits-number instruction kinds.Long made fit = fit tag.Long
fits-number instruction kinds.Float made fit = fit tag.Float
fits-number instruction kinds.Double made fit = fit tag.Double
fits-number instruction kinds.Ref made fit = tt

fits-leave : (instruction : Instruction) (result : Option JType) (of : Option Kind) → Fits instruction (leave result of)
fits-leave instruction None None = tt
fits-leave instruction None (Some of) = tt
fits-leave instruction (Some result) None = tt
fits-leave instruction (Some result) (Some of) = by (is_kind (kind_of result) of)
  where
    by : (test : Bool) → Fits instruction (if test then Plain (Of (tag_of result) ∷ []) None else Never)
    by true = tt
    by false = tt

fits-birth : (instruction : Instruction) (descriptor : Descriptor) (owner : JType) (result : Option JType) → Fits instruction (birth descriptor owner result)
fits-birth instruction descriptor owner None = tt
fits-birth instruction descriptor owner (Some result) = tt

fits-special : (instruction : Instruction) (code : Code) (descriptor : Descriptor) (owner : JType) (test : Bool) → Fits instruction (if test then birth descriptor owner (result_of descriptor) else super_call code descriptor owner)
fits-special instruction code descriptor owner true = fits-birth instruction descriptor owner (result_of descriptor)
fits-special instruction code descriptor owner false = tt

fits-row : (code : Code) (instruction : Instruction) → Fits instruction (row code instruction)
fits-row code op.Nop = tt
fits-row code op.PushNull = tt
fits-row code (op.Push constant) = tt
fits-row code (op.PushClass type) = tt
fits-row code (op.PushHandle kind interface owner name descriptor) = tt
fits-row code (op.PushMethodType descriptor) = tt
fits-row code (op.Load kind slot) = tt
fits-row code (op.Store kind slot) = refl
fits-row code (op.ArrayLoad of) = fits-read (op.ArrayLoad of) of
fits-row code (op.ArrayStore of) = fits-write (op.ArrayStore of) of
fits-row code op.Pop = tt
fits-row code op.Pop2 = tt
fits-row code op.Dup = tt
fits-row code op.DupX1 = tt
fits-row code op.DupX2 = tt
fits-row code op.Dup2 = tt
fits-row code op.Dup2X1 = tt
fits-row code op.Dup2X2 = tt
fits-row code op.Swap = tt
fits-row code (op.Calc operation of) = fits-number (op.Calc operation of) of (λ held. Plain (operands operation held) (Some held)) (λ held. tt)
fits-row code (op.Iinc slot by) = tt
fits-row code (op.Convert from to) = fits-number (op.Convert from to) from (λ held. Plain (Of held ∷ []) (Some (tag_of to))) (λ held. tt)
fits-row code (op.Compare of greater) = fits-number (op.Compare of greater) of (λ held. Plain (Of held ∷ Of held ∷ []) (Some tag.Int)) (λ held. tt)
fits-row code (op.IfZero test target) = tt
fits-row code (op.IfInts test target) = tt
fits-row code (op.IfRefs equal target) = tt
fits-row code (op.IfNull null target) = tt
fits-row code (op.Goto target) = tt
fits-row code (op.TableSwitch low targets other) = tt
fits-row code (op.LookupSwitch cases other) = tt
fits-row code (op.Return of) = fits-leave (op.Return of) (result_of code.descriptor) of
fits-row code (op.GetStatic field) = tt
fits-row code (op.PutStatic field) = tt
fits-row code (op.GetField field) = tt
fits-row code (op.PutField field) = tt
fits-row code (op.InvokeVirtual method) = tt
fits-row code (op.InvokeSpecial method) = fits-special (op.InvokeSpecial method) code method.descriptor method.owner (is_constructor method.name)
fits-row code (op.InvokeStatic method) = tt
fits-row code (op.InvokeInterface method) = tt
fits-row code (op.InvokeDynamic bootstrap name descriptor) = tt
fits-row code (op.New class) = (class, refl)
fits-row code (op.NewArray of) = tt
fits-row code (op.MultiNewArray type sizes) = tt
fits-row code op.ArrayLength = tt
fits-row code op.Throw = tt
fits-row code (op.CheckCast type) = tt
fits-row code (op.InstanceOf type) = tt
fits-row code op.MonitorEnter = tt
fits-row code op.MonitorExit = tt

fits-work : (code : Code) (instruction : Instruction) → Fits instruction (work code instruction)
fits-work code instruction = by (is_spelled instruction)
  where
    by : (test : Bool) → Fits instruction (if test then row code instruction else Never)
    by true = fits-row code instruction
    by false = tt

pub makes-new : (code : Code) (instruction : Instruction) → work code instruction ≡ Makes → (class : Name) × (instruction ≡ op.New class)
makes-new code instruction e = subst (Fits instruction) e (fits-work code instruction)

pub stores-never : (code : Code) (instruction : Instruction) (kind : Kind) (slot : ℕ) → work code instruction ≡ Stores kind slot → role_of instruction ≡ role.Never
stores-never code instruction kind slot e = subst (Fits instruction) e (fits-work code instruction)
