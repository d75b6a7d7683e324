-- What each instruction builds, where variables and statements are those of a world.
use Rattle.std.specs.Prelude.{ℕ, Bool, true, false, List, ◌∷◌, slice_get, Option, Some, None}
use Rattle.dj_names.specs.Types as types
use Rattle.dj_names.specs.Types.{JType}
use Rattle.dj_syntax.specs.declared.variable.Var.{Var}
use Rattle.dj_instructions.specs.Instructions.{Instruction}
use Rattle.dj_instructions.specs.Instructions as op
use Rattle.dj_bytecode.specs.Shuffles.{dup_x1_forms, dup_x2_forms, dup2_forms, dup2_x1_forms, dup2_x2_forms, swap_forms}
use Rattle.dj_meaning.specs.Calls.{is_assignable}
use Rattle.dj_places.specs.Constants.{Surroundings}
use Rattle.dj_rebuilding.specs.Pending.{Nothing, Pending, Kept, Born, Built, none, and_then, spill, grown}
use Rattle.dj_rebuilt.specs.Nodes.{calc_nodes, convert_nodes}
use Rattle.dj_rebuilt.specs.Known.{atom_of_constant, compare_nodes}
use Rattle.dj_rebuilt.specs.Rebuilding.{Names, Step, under, store, count, first_spilled, then_spilled}
use Rattle.dj_exits.specs.Ways.{before, after}
use Rattle.dj_pending.specs.Births.{is_kept_entry}
use Rattle.dj_pending.specs.Steps.{loaded}
use Rattle.dj_pending.specs.Shifts.{moved_built, doubled_built, dropped_built}
use Rattle.dj_pending.specs.Strict.{constant_built, node_built}
use Rattle.dj_pending.specs.Numbers.{calc_count}
use Rattle.dj_member_trees.specs.Stepping.{member_built}
use Rattle.dj_rebuild.specs.declared.advancing.Write.{Write}
use Rattle.dj_rebuild.specs.declared.advancing.Write.TheVariants as writes

-- an instruction that writes no local
abbrev pub advanced_built : Surroundings → Names → Instruction → ℕ → List Pending → Option Built
advanced_built known names op.Nop n stack = grown n stack
advanced_built known names op.PushNull n stack = grown n (Kept types.Null Nothing ∷ stack)
advanced_built known names (op.Push constant) n stack = constant_built n stack (atom_of_constant constant)
advanced_built known names (op.PushClass type) n stack = member_built known (op.PushClass type) n stack
advanced_built known names (op.PushHandle kind interface owner name descriptor) n stack = member_built known (op.PushHandle kind interface owner name descriptor) n stack
advanced_built known names (op.PushMethodType descriptor) n stack = member_built known (op.PushMethodType descriptor) n stack
advanced_built known names (op.Load kind slot) n stack = loaded kind n stack (names slot)
advanced_built known names (op.Store kind slot) n stack = member_built known (op.Store kind slot) n stack
advanced_built known names (op.ArrayLoad element) n stack = member_built known (op.ArrayLoad element) n stack
advanced_built known names (op.ArrayStore element) n stack = member_built known (op.ArrayStore element) n stack
advanced_built known names op.Pop n stack = dropped_built false n stack
advanced_built known names op.Pop2 n stack = dropped_built true n stack
advanced_built known names op.Dup n stack = doubled_built n stack
advanced_built known names op.DupX1 n stack = moved_built n stack dup_x1_forms
advanced_built known names op.DupX2 n stack = moved_built n stack dup_x2_forms
advanced_built known names op.Dup2 n stack = moved_built n stack dup2_forms
advanced_built known names op.Dup2X1 n stack = moved_built n stack dup2_x1_forms
advanced_built known names op.Dup2X2 n stack = moved_built n stack dup2_x2_forms
advanced_built known names op.Swap n stack = moved_built n stack swap_forms
advanced_built known names (op.Calc operation kind) n stack = node_built (calc_count operation) (calc_nodes operation kind) n stack
advanced_built known names (op.Iinc slot by) n stack = member_built known (op.Iinc slot by) n stack
advanced_built known names (op.Convert from to) n stack = node_built 1 (convert_nodes from to) n stack
advanced_built known names (op.Compare kind greater) n stack = node_built 2 (compare_nodes kind) n stack
advanced_built known names (op.IfZero test target) n stack = member_built known (op.IfZero test target) n stack
advanced_built known names (op.IfInts test target) n stack = member_built known (op.IfInts test target) n stack
advanced_built known names (op.IfRefs equal target) n stack = member_built known (op.IfRefs equal target) n stack
advanced_built known names (op.IfNull null target) n stack = member_built known (op.IfNull null target) n stack
advanced_built known names (op.Goto target) n stack = member_built known (op.Goto target) n stack
advanced_built known names (op.TableSwitch low targets other) n stack = member_built known (op.TableSwitch low targets other) n stack
advanced_built known names (op.LookupSwitch cases other) n stack = member_built known (op.LookupSwitch cases other) n stack
advanced_built known names (op.Return kind) n stack = member_built known (op.Return kind) n stack
advanced_built known names (op.GetStatic field) n stack = member_built known (op.GetStatic field) n stack
advanced_built known names (op.PutStatic field) n stack = member_built known (op.PutStatic field) n stack
advanced_built known names (op.GetField field) n stack = member_built known (op.GetField field) n stack
advanced_built known names (op.PutField field) n stack = member_built known (op.PutField field) n stack
advanced_built known names (op.InvokeVirtual method) n stack = member_built known (op.InvokeVirtual method) n stack
advanced_built known names (op.InvokeSpecial method) n stack = member_built known (op.InvokeSpecial method) n stack
advanced_built known names (op.InvokeStatic method) n stack = member_built known (op.InvokeStatic method) n stack
advanced_built known names (op.InvokeInterface method) n stack = member_built known (op.InvokeInterface method) n stack
advanced_built known names (op.InvokeDynamic bootstrap name descriptor) n stack = member_built known (op.InvokeDynamic bootstrap name descriptor) n stack
advanced_built known names (op.New name) n stack = grown n (Born name ∷ stack)
advanced_built known names (op.NewArray element) n stack = member_built known (op.NewArray element) n stack
advanced_built known names (op.MultiNewArray type sizes) n stack = member_built known (op.MultiNewArray type sizes) n stack
advanced_built known names op.ArrayLength n stack = member_built known op.ArrayLength n stack
advanced_built known names op.Throw n stack = member_built known op.Throw n stack
advanced_built known names (op.CheckCast type) n stack = member_built known (op.CheckCast type) n stack
advanced_built known names (op.InstanceOf type) n stack = member_built known (op.InstanceOf type) n stack
advanced_built known names op.MonitorEnter n stack = member_built known op.MonitorEnter n stack
advanced_built known names op.MonitorExit n stack = member_built known op.MonitorExit n stack

-- what an instruction writes
abbrev pub write_of : Instruction → Write
write_of (op.Store kind slot) = writes.Stored kind slot
write_of (op.Iinc slot by) = writes.Counted slot by
write_of other = writes.No

-- an instruction that writes this, with the variable that it writes
abbrev pub writing_step : Surroundings → Names → Option (Var × JType) → Write → Instruction → ℕ → List Pending → Option Step
writing_step known names target (writes.Stored kind slot) instruction n stack = store (is_assignable known.headers) kind slot names n target stack
writing_step known names target (writes.Counted slot by) instruction n stack = count slot by names n stack (names slot) target
writing_step known names target writes.No instruction n stack = under names (advanced_built known names instruction n stack)

-- an instruction, with the variable that it writes
abbrev pub advanced : Surroundings → Names → Option (Var × JType) → Instruction → ℕ → List Pending → Option Step
advanced known names target instruction n stack = writing_step known names target (write_of instruction) instruction n stack

-- and with all that is pending spilled around it, where it is to be
abbrev pub advanced_one : Surroundings → Names → Option (Var × JType) → Instruction → ℕ → List Pending → Option Step
advanced_one known names target instruction n stack =
    and_then (first_spilled (before instruction stack) n stack (λ from entries. advanced known names target instruction from entries)) (λ step. then_spilled (after step.0.stack) step)

-- all that is pending is spilled, where it is to be
abbrev pub spilled_if : Bool → ℕ → List Pending → Option Built
spilled_if true n stack = spill none n stack
spilled_if false n stack = grown n stack

-- an entry that may be there is an atom
abbrev pub is_kept_found : Option Pending → Bool
is_kept_found None = false
is_kept_found (Some entry) = is_kept_entry entry

-- the entry at a place is an atom
abbrev pub is_kept_at : ℕ → List Pending → Bool
is_kept_at place stack = is_kept_found (slice_get stack place)
