-- Control goes on behind each instruction that a block goes on with.
use Rattle.std.proofs.Common.{◌≡◌, true, List, Some, None, refl}
use Rattle.dj_names.specs.declared.header.Header.{Header}
use Rattle.dj_names.specs.Headers.{Name}
use Rattle.dj_instructions.specs.declared.kinds.Calc.{Calc}
use Rattle.dj_instructions.specs.declared.kinds.Calc.TheVariants as calcs
use Rattle.dj_instructions.specs.declared.kinds.Kind.{Kind}
use Rattle.dj_instructions.specs.declared.kinds.Kind.TheVariants as kinds
use Rattle.dj_instructions.specs.Instructions.{Instruction}
use Rattle.dj_instructions.specs.Instructions as op
use Rattle.dj_starts.specs.Control.{control_of, control_of_calc, divides, falls_through}
use Rattle.dj_bytecode.specs.Meanings.{meaning_of}
use Rattle.dj_rebuilt.specs.Sorts.{sort_of}
use Rattle.dj_rebuilt.specs.Rebuilding.{continues}

divides-goes : (kind : Kind) → falls_through (divides kind) ≡ true
divides-goes kinds.Int = refl
divides-goes kinds.Long = refl
divides-goes kinds.Float = refl
divides-goes kinds.Double = refl
divides-goes kinds.Ref = refl

calc-goes : (operation : Calc) (kind : Kind) → falls_through (control_of_calc operation kind) ≡ true
calc-goes calcs.Add kind = refl
calc-goes calcs.Sub kind = refl
calc-goes calcs.Mul kind = refl
calc-goes calcs.Div kind = divides-goes kind
calc-goes calcs.Rem kind = divides-goes kind
calc-goes calcs.Neg kind = refl
calc-goes calcs.Shl kind = refl
calc-goes calcs.Shr kind = refl
calc-goes calcs.Ushr kind = refl
calc-goes calcs.And kind = refl
calc-goes calcs.Or kind = refl
calc-goes calcs.Xor kind = refl

-- an instruction with which a block goes on is no jump, switch, return or `athrow`
pub goes-behind : (headers : List Header) (class : Name) (instruction : Instruction) → continues (sort_of instruction) (meaning_of headers class instruction) ≡ true → falls_through (control_of instruction) ≡ true
goes-behind headers class op.Nop e = refl
goes-behind headers class op.PushNull e = refl
goes-behind headers class (op.Push constant) e = refl
goes-behind headers class (op.PushClass type) e = refl
goes-behind headers class (op.PushHandle kind interface owner name descriptor) e = refl
goes-behind headers class (op.PushMethodType descriptor) e = refl
goes-behind headers class (op.Load kind slot) e = refl
goes-behind headers class (op.Store kind slot) e = refl
goes-behind headers class (op.ArrayLoad element) e = refl
goes-behind headers class (op.ArrayStore element) e = refl
goes-behind headers class op.Pop e = refl
goes-behind headers class op.Pop2 e = refl
goes-behind headers class op.Dup e = refl
goes-behind headers class op.DupX1 e = refl
goes-behind headers class op.DupX2 e = refl
goes-behind headers class op.Dup2 e = refl
goes-behind headers class op.Dup2X1 e = refl
goes-behind headers class op.Dup2X2 e = refl
goes-behind headers class op.Swap e = refl
goes-behind headers class (op.Calc operation kind) e = calc-goes operation kind
goes-behind headers class (op.Iinc slot by) e = refl
goes-behind headers class (op.Convert from to) e = refl
goes-behind headers class (op.Compare kind greater) e = refl
goes-behind headers class (op.IfZero test target) e = refl
goes-behind headers class (op.IfInts test target) e = refl
goes-behind headers class (op.IfRefs equal target) e = refl
goes-behind headers class (op.IfNull null target) e = refl
goes-behind headers class (op.Goto target) e = absurd (cc)
goes-behind headers class (op.TableSwitch low targets other) e = absurd (cc)
goes-behind headers class (op.LookupSwitch cases other) e = absurd (cc)
goes-behind headers class (op.Return None) e = absurd (cc)
goes-behind headers class (op.Return (Some kind)) e = absurd (cc)
goes-behind headers class (op.GetStatic field) e = refl
goes-behind headers class (op.PutStatic field) e = refl
goes-behind headers class (op.GetField field) e = refl
goes-behind headers class (op.PutField field) e = refl
goes-behind headers class (op.InvokeVirtual method) e = refl
goes-behind headers class (op.InvokeSpecial method) e = refl
goes-behind headers class (op.InvokeStatic method) e = refl
goes-behind headers class (op.InvokeInterface method) e = refl
goes-behind headers class (op.InvokeDynamic bootstrap name descriptor) e = refl
goes-behind headers class (op.New name) e = refl
goes-behind headers class (op.NewArray element) e = refl
goes-behind headers class (op.MultiNewArray type sizes) e = refl
goes-behind headers class op.ArrayLength e = refl
goes-behind headers class op.Throw e = absurd (cc)
goes-behind headers class (op.CheckCast type) e = refl
goes-behind headers class (op.InstanceOf type) e = refl
goes-behind headers class op.MonitorEnter e = refl
goes-behind headers class op.MonitorExit e = refl
