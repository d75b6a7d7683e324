-- What the program builds by instructions is what the definition builds.
use Rattle.std.proofs.Common.{◌≡◌, ℕ, zero, suc, Bool, true, false, List, [], ◌∷◌, Option, Some, None, refl, sym, ap, ◌∙◌}
use mathlib.Core.Path.{fun_ext}
use Rattle.std.specs.Prelude.{if◌then◌else◌, ◌==◌}
use Rattle.std.proofs.lemmas.Option.{same_Some}
use Rattle.dj_names.specs.declared.header.Header.{Header}
use Rattle.dj_names.specs.declared.members.Constant.{Constant}
use Rattle.dj_names.specs.declared.members.Constant.TheVariants as constants
use Rattle.dj_names.specs.Headers.{Name}
use Rattle.dj_names.specs.Types as types
use Rattle.dj_names.specs.Types.{JType, Boolean, Byte, Char, Short, Float, Double, Class, Array, StaticType}
use Rattle.dj_syntax.specs.Trees.{Exp, Stms}
use Rattle.dj_instructions.specs.declared.kinds.Kind.{Kind}
use Rattle.dj_instructions.specs.declared.kinds.Kind.TheVariants as kinds
use Rattle.dj_instructions.specs.declared.kinds.Calc as calcs
use Rattle.dj_instructions.specs.declared.kinds.Calc.TheVariants as calc
use Rattle.dj_instructions.specs.Instructions.{Instruction}
use Rattle.dj_instructions.specs.Instructions as op
use Rattle.dj_bytecode.specs.Meanings.{meaning_of, calculation, conversion, int_calculation, long_calculation, int_conversion, long_conversion, float_conversion}
use Rattle.dj_meaning.specs.Calls.{is_assignable}
use Rattle.dj_places.specs.Constants.{Surroundings}
use Rattle.dj_rebuilding.specs.Pending.{Atom, Pending, Kept, Whole, Born, Again, Built, Typed, and_then, with_operands, grown, emit, sets}
use Rattle.dj_rebuilt.specs.Nodes.{calc_nodes, convert_nodes, int_nodes, long_nodes, int_convert_nodes, long_convert_nodes, no_node}
use Rattle.dj_rebuilt.specs.Known.{compare_nodes, atom_of_constant}
use Rattle.dj_rebuilt.specs.Rebuilding.{Names, Ways, Plain, under, load, store, or_else, advance, strictly_built, strict_step, takes_kind, static_of, moved_step, double, dropped, drop_words, drop_whole, drop_top}
use Rattle.dj_rebuilt.specs.Moving.{type_words}
use Rattle.dj_rebuilt.specs.Sorts.{sort_of, drop_forms}
use Rattle.dj_member_nodes.specs.Together.{AreMemberWays}
use Rattle.dj_pending.specs.Building.{as_built}
use Rattle.dj_pending.specs.Spilling.{behind}
use Rattle.dj_pending.specs.Steps.{loaded}
use Rattle.dj_pending.specs.Shifts.{moved_built, doubled_built, dropped_whole, dropped_built}
use Rattle.dj_pending.specs.Operands.{taken_from}
use Rattle.dj_pending.specs.Strict.{constant_built, put_built, node_built}
use Rattle.dj_pending.specs.Numbers.{calc_count}
use Rattle.dj_pending.proofs.Spills.{shifted}
use Rattle.dj_rebuild.specs.Stores.{as_step, behind_step}
use Rattle.dj_rebuild.specs.Advancing.{advanced}
use Rattle.dj_member_trees.proofs.Advancing.{member-advance}

-- ---- operands

operands-taken : (count : ℕ) (behind : List Typed) (stack : List Pending) (next : List Typed → List Pending → Option Built)
    → with_operands count behind stack next ≡ and_then (taken_from count behind stack) (λ found. next found.0 found.1)
operands-taken zero behind stack next = refl
operands-taken (suc count) behind [] next = refl
operands-taken (suc count) behind (Kept type atom ∷ below) next = operands-taken count _ below next
operands-taken (suc count) behind (Whole type exp ∷ below) next = operands-taken count _ below next
operands-taken (suc count) behind (Born class ∷ below) next = refl
operands-taken (suc count) behind (Again ∷ below) next = refl

none-behind : {A : Type 0} (found : Option A) → and_then found (λ (one : A). put_built 0 [] None) ≡ None
none-behind None = refl
none-behind (Some one) = refl

-- ---- expressions

put-is : (n : ℕ) (below : List Pending) (found : Option Typed) → strictly_built n below None found None ≡ put_built n below found
put-is n below None = refl
put-is n below (Some found) = refl

-- an instruction stands for an expression of its operands alone
record IsNodeOf (ways : Ways) (instruction : Instruction) (node : List Typed → Option Typed) : Type 0 where
  is : (are : List Typed) → ways.node instruction are ≡ node are
  alone : (are : List Typed) → ways.effect instruction are ≡ None
  constant : ways.constant instruction ≡ None

-- what an instruction builds of so many operands
abbrev strict_built : Ways → Instruction → ℕ → ℕ → List Pending → Option Built
strict_built ways instruction count n stack = with_operands count [] stack (λ are below. strictly_built n below (ways.constant instruction) (ways.node instruction are) (ways.effect instruction are))

node-step : (ways : Ways) (instruction : Instruction) (node : List Typed → Option Typed) → IsNodeOf ways instruction node
    → (count n : ℕ) (stack : List Pending) → strict_built ways instruction count n stack ≡ node_built count node n stack
node-step ways instruction node of count n stack =
    operands-taken count [] stack _
    ∙ ap (and_then (taken_from count [] stack)) (fun_ext (λ found.
    ap (λ (one : Option (StaticType × Atom)). strictly_built n found.1 one (ways.node instruction found.0) (ways.effect instruction found.0)) of.constant
    ∙ ap (λ (one : Option Typed). strictly_built n found.1 None one (ways.effect instruction found.0)) (of.is found.0)
    ∙ ap (λ (one : Option Plain). strictly_built n found.1 None (node found.0) one) (of.alone found.0)
    ∙ put-is n found.1 (node found.0)))

-- where there is no expression, nothing is built
no-node-built : (count : ℕ) (n : ℕ) (stack : List Pending) → node_built count no_node n stack ≡ None
no-node-built count n stack = none-behind (taken_from count [] stack)

no-step : (ways : Ways) (instruction : Instruction) → IsNodeOf ways instruction no_node → (count n : ℕ) (stack : List Pending) → strict_built ways instruction count n stack ≡ None
no-step ways instruction of count n stack = node-step ways instruction no_node of count n stack ∙ no-node-built count n stack

-- ---- calculations

ints-step : (ways : Ways) (operation : calcs.Calc) → IsNodeOf ways (op.Calc operation kinds.Int) (int_nodes operation) → (n : ℕ) (stack : List Pending)
    → strict_step ways (op.Calc operation kinds.Int) n stack (int_calculation operation) ≡ node_built (calc_count operation) (int_nodes operation) n stack
ints-step ways calc.Add of n stack = node-step ways _ _ of 2 n stack
ints-step ways calc.Sub of n stack = node-step ways _ _ of 2 n stack
ints-step ways calc.Mul of n stack = node-step ways _ _ of 2 n stack
ints-step ways calc.Div of n stack = node-step ways _ _ of 2 n stack
ints-step ways calc.Rem of n stack = node-step ways _ _ of 2 n stack
ints-step ways calc.Neg of n stack = node-step ways _ _ of 1 n stack
ints-step ways calc.Shl of n stack = node-step ways _ _ of 2 n stack
ints-step ways calc.Shr of n stack = node-step ways _ _ of 2 n stack
ints-step ways calc.Ushr of n stack = node-step ways _ _ of 2 n stack
ints-step ways calc.And of n stack = node-step ways _ _ of 2 n stack
ints-step ways calc.Or of n stack = node-step ways _ _ of 2 n stack
ints-step ways calc.Xor of n stack = node-step ways _ _ of 2 n stack

longs-step : (ways : Ways) (operation : calcs.Calc) → IsNodeOf ways (op.Calc operation kinds.Long) (long_nodes operation) → (n : ℕ) (stack : List Pending)
    → strict_step ways (op.Calc operation kinds.Long) n stack (long_calculation operation) ≡ node_built (calc_count operation) (long_nodes operation) n stack
longs-step ways calc.Add of n stack = node-step ways _ _ of 2 n stack
longs-step ways calc.Sub of n stack = node-step ways _ _ of 2 n stack
longs-step ways calc.Mul of n stack = node-step ways _ _ of 2 n stack
longs-step ways calc.Div of n stack = node-step ways _ _ of 2 n stack
longs-step ways calc.Rem of n stack = node-step ways _ _ of 2 n stack
longs-step ways calc.Neg of n stack = node-step ways _ _ of 1 n stack
longs-step ways calc.Shl of n stack = node-step ways _ _ of 2 n stack
longs-step ways calc.Shr of n stack = node-step ways _ _ of 2 n stack
longs-step ways calc.Ushr of n stack = node-step ways _ _ of 2 n stack
longs-step ways calc.And of n stack = node-step ways _ _ of 2 n stack
longs-step ways calc.Or of n stack = node-step ways _ _ of 2 n stack
longs-step ways calc.Xor of n stack = node-step ways _ _ of 2 n stack

calc-step : (ways : Ways) (operation : calcs.Calc) (kind : Kind) → IsNodeOf ways (op.Calc operation kind) (calc_nodes operation kind) → (n : ℕ) (stack : List Pending)
    → strict_step ways (op.Calc operation kind) n stack (calculation operation kind) ≡ node_built (calc_count operation) (calc_nodes operation kind) n stack
calc-step ways operation kinds.Int of n stack = ints-step ways operation of n stack
calc-step ways operation kinds.Long of n stack = longs-step ways operation of n stack
calc-step ways operation kinds.Float of n stack = no-step ways _ of 1 n stack ∙ sym (no-node-built (calc_count operation) n stack)
calc-step ways operation kinds.Double of n stack = no-step ways _ of 1 n stack ∙ sym (no-node-built (calc_count operation) n stack)
calc-step ways operation kinds.Ref of n stack = no-step ways _ of 1 n stack ∙ sym (no-node-built (calc_count operation) n stack)

-- ---- conversions

int-step : (ways : Ways) (to : JType) → IsNodeOf ways (op.Convert kinds.Int to) (int_convert_nodes to) → (n : ℕ) (stack : List Pending)
    → strict_step ways (op.Convert kinds.Int to) n stack (int_conversion to) ≡ node_built 1 (int_convert_nodes to) n stack
int-step ways Boolean of n stack = node-step ways _ _ of 1 n stack
int-step ways Byte of n stack = node-step ways _ _ of 1 n stack
int-step ways Char of n stack = node-step ways _ _ of 1 n stack
int-step ways Short of n stack = node-step ways _ _ of 1 n stack
int-step ways types.Int of n stack = node-step ways _ _ of 1 n stack
int-step ways types.Long of n stack = node-step ways _ _ of 1 n stack
int-step ways Float of n stack = sym (no-node-built 1 n stack)
int-step ways Double of n stack = sym (no-node-built 1 n stack)
int-step ways (Class name) of n stack = node-step ways _ _ of 1 n stack
int-step ways (Array element) of n stack = node-step ways _ _ of 1 n stack

long-step : (ways : Ways) (to : JType) → IsNodeOf ways (op.Convert kinds.Long to) (long_convert_nodes to) → (n : ℕ) (stack : List Pending)
    → strict_step ways (op.Convert kinds.Long to) n stack (long_conversion to) ≡ node_built 1 (long_convert_nodes to) n stack
long-step ways Boolean of n stack = node-step ways _ _ of 1 n stack
long-step ways Byte of n stack = node-step ways _ _ of 1 n stack
long-step ways Char of n stack = node-step ways _ _ of 1 n stack
long-step ways Short of n stack = node-step ways _ _ of 1 n stack
long-step ways types.Int of n stack = node-step ways _ _ of 1 n stack
long-step ways types.Long of n stack = node-step ways _ _ of 1 n stack
long-step ways Float of n stack = sym (no-node-built 1 n stack)
long-step ways Double of n stack = sym (no-node-built 1 n stack)
long-step ways (Class name) of n stack = node-step ways _ _ of 1 n stack
long-step ways (Array element) of n stack = node-step ways _ _ of 1 n stack

float-step : (ways : Ways) (kind : Kind) (to : JType) → IsNodeOf ways (op.Convert kind to) no_node → (n : ℕ) (stack : List Pending)
    → strict_step ways (op.Convert kind to) n stack (float_conversion to) ≡ node_built 1 no_node n stack
float-step ways kind Boolean of n stack = node-step ways _ _ of 1 n stack
float-step ways kind Byte of n stack = node-step ways _ _ of 1 n stack
float-step ways kind Char of n stack = node-step ways _ _ of 1 n stack
float-step ways kind Short of n stack = node-step ways _ _ of 1 n stack
float-step ways kind types.Int of n stack = node-step ways _ _ of 1 n stack
float-step ways kind types.Long of n stack = node-step ways _ _ of 1 n stack
float-step ways kind Float of n stack = sym (no-node-built 1 n stack)
float-step ways kind Double of n stack = sym (no-node-built 1 n stack)
float-step ways kind (Class name) of n stack = node-step ways _ _ of 1 n stack
float-step ways kind (Array element) of n stack = node-step ways _ _ of 1 n stack

convert-step : (ways : Ways) (from : Kind) (to : JType) → IsNodeOf ways (op.Convert from to) (convert_nodes from to) → (n : ℕ) (stack : List Pending)
    → strict_step ways (op.Convert from to) n stack (conversion from to) ≡ node_built 1 (convert_nodes from to) n stack
convert-step ways kinds.Int to of n stack = int-step ways to of n stack
convert-step ways kinds.Long to of n stack = long-step ways to of n stack
convert-step ways kinds.Float to of n stack = float-step ways kinds.Float to of n stack
convert-step ways kinds.Double to of n stack = float-step ways kinds.Double to of n stack
convert-step ways kinds.Ref to of n stack = node-step ways _ _ of 1 n stack

-- ---- by sorts, with the names of slots

-- a step that leaves the names as they are
pub step-of : (first : Stms) (found : Option Built) (done : Bool) (built : Built) (names : Names) → as_built done built ≡ behind first found → as_step done built names ≡ behind_step first (under names found)
step-of first None true built names e = absurd (cc)
step-of first None false built names e = refl
step-of first (Some found) true built names e = ap (λ (one : Built). Some (one, names)) (same_Some built (shifted first found) e)
step-of first (Some found) false built names e = absurd (cc)

by-test : (names : Names) (test : Bool) (found : Option Built) → (if test then under names found else None) ≡ under names (if test then found else None)
by-test names true found = refl
by-test names false found = refl

load-is : (of : Kind) (names : Names) (n : ℕ) (stack : List Pending) (found : Option (JType × Atom)) → load of names n stack found ≡ under names (loaded of n stack found)
load-is of names n stack None = refl
load-is of names n stack (Some found) = by-test names (takes_kind of found.0) (grown n (Kept (static_of found) found.1 ∷ stack))

double-is : (names : Names) (n : ℕ) (stack : List Pending) → double names n stack ≡ under names (doubled_built n stack)
double-is names n [] = refl
double-is names n (Kept type atom ∷ below) = refl
double-is names n (Whole type exp ∷ below) = refl
double-is names n (Born class ∷ below) = refl
double-is names n (Again ∷ below) = refl

drop-whole-is : (two : Bool) (names : Names) (n : ℕ) (type : StaticType) (exp : Exp) (below : List Pending) (found : Option Plain) → drop_whole two names n type exp below found ≡ under names (dropped_whole two n type exp below found)
drop-whole-is two names n type exp below None = refl
drop-whole-is two names n type exp below (Some statement) = by-words (type_words type == drop_words two)
  where
    by-words : (test : Bool) → (if test then under names (emit (sets statement.1) n below statement.0) else moved_step names n (Whole type exp ∷ below) (drop_forms two))
        ≡ under names (if test then emit (sets statement.1) n below statement.0 else moved_built n (Whole type exp ∷ below) (drop_forms two))
    by-words true = refl
    by-words false = refl

drop-is : (two : Bool) (names : Names) (n : ℕ) (stack : List Pending) → drop_top two names n stack ≡ under names (dropped_built two n stack)
drop-is two names n [] = refl
drop-is two names n (Kept type atom ∷ below) = refl
drop-is two names n (Whole type exp ∷ below) = drop-whole-is two names n type exp below (dropped exp)
drop-is two names n (Born class ∷ below) = refl
drop-is two names n (Again ∷ below) = refl

-- ---- by instructions

pub or-none : {A : Type 0} (found : Option A) → or_else found None ≡ found
or-none None = refl
or-none (Some one) = refl

constant-is : (headers : List Header) (class : Name) (known : Surroundings) (ways : Ways) → AreMemberWays known ways → (constant : Constant) (n : ℕ) (stack : List Pending)
    → strict_step ways (op.Push constant) n stack (meaning_of headers class (op.Push constant)) ≡ constant_built n stack (atom_of_constant constant)
constant-is headers class known ways are (constants.Int number) n stack =
    ap (λ (one : Option (StaticType × Atom)). strictly_built n stack one (ways.node (op.Push (constants.Int number)) []) (ways.effect (op.Push (constants.Int number)) [])) (are.constant (op.Push (constants.Int number)))
constant-is headers class known ways are (constants.Long number) n stack =
    ap (λ (one : Option (StaticType × Atom)). strictly_built n stack one (ways.node (op.Push (constants.Long number)) []) (ways.effect (op.Push (constants.Long number)) [])) (are.constant (op.Push (constants.Long number)))
constant-is headers class known ways are (constants.Text units) n stack =
    ap (λ (one : Option (StaticType × Atom)). strictly_built n stack one (ways.node (op.Push (constants.Text units)) []) (ways.effect (op.Push (constants.Text units)) [])) (are.constant (op.Push (constants.Text units)))
constant-is headers class known ways are (constants.Float bits) n stack = refl
constant-is headers class known ways are (constants.Double bits) n stack = refl

module _ (headers : List Header) (class : Name) (known : Surroundings) (ways : Ways) (are : AreMemberWays known ways) where
  calc-of : (operation : calcs.Calc) (kind : Kind) → IsNodeOf ways (op.Calc operation kind) (calc_nodes operation kind)
  calc-of operation kind = record { is = λ list. are.node (op.Calc operation kind) list ∙ or-none (calc_nodes operation kind list); alone = are.effect (op.Calc operation kind); constant = are.constant (op.Calc operation kind) }

  convert-of : (from : Kind) (to : JType) → IsNodeOf ways (op.Convert from to) (convert_nodes from to)
  convert-of from to = record { is = λ list. are.node (op.Convert from to) list ∙ or-none (convert_nodes from to list); alone = are.effect (op.Convert from to); constant = are.constant (op.Convert from to) }

  compare-of : (kind : Kind) (greater : Bool) → IsNodeOf ways (op.Compare kind greater) (compare_nodes kind)
  compare-of kind greater = record { is = λ list. are.node (op.Compare kind greater) list ∙ or-none (compare_nodes kind list); alone = are.effect (op.Compare kind greater); constant = are.constant (op.Compare kind greater) }

  compare-step : (kind : Kind) (greater : Bool) (n : ℕ) (stack : List Pending) → strict_step ways (op.Compare kind greater) n stack (meaning_of headers class (op.Compare kind greater)) ≡ node_built 2 (compare_nodes kind) n stack
  compare-step kinds.Int greater n stack = node-step ways _ _ (compare-of kinds.Int greater) 2 n stack
  compare-step kinds.Long greater n stack = node-step ways _ _ (compare-of kinds.Long greater) 2 n stack
  compare-step kinds.Float greater n stack = node-step ways _ _ (compare-of kinds.Float greater) 2 n stack
  compare-step kinds.Double greater n stack = node-step ways _ _ (compare-of kinds.Double greater) 2 n stack
  compare-step kinds.Ref greater n stack = node-step ways _ _ (compare-of kinds.Ref greater) 2 n stack

  entered-of : IsNodeOf ways op.MonitorEnter no_node
  entered-of = record { is = are.node op.MonitorEnter; alone = are.effect op.MonitorEnter; constant = are.constant op.MonitorEnter }

  left-of : IsNodeOf ways op.MonitorExit no_node
  left-of = record { is = are.node op.MonitorExit; alone = are.effect op.MonitorExit; constant = are.constant op.MonitorExit }

  goes-is : ways.goes ≡ is_assignable known.headers
  goes-is = fun_ext (λ from. fun_ext (λ to. are.goes from to))

  -- one instruction
  pub advance-is : (names : Names) (pc : ℕ) (instruction : Instruction) (n : ℕ) (stack : List Pending)
      → advance headers class ways names pc instruction n stack (sort_of instruction) ≡ advanced known names (ways.target pc) instruction n stack
  advance-is names pc op.Nop n stack = refl
  advance-is names pc op.PushNull n stack =
      ap (λ (one : Option (StaticType × Atom)). under names (strictly_built n stack one (ways.node op.PushNull []) (ways.effect op.PushNull []))) (are.constant op.PushNull)
  advance-is names pc (op.Push constant) n stack = ap (under names) (constant-is headers class known ways are constant n stack)
  advance-is names pc (op.PushClass type) n stack = member-advance known ways are headers class names pc n stack (op.PushClass type) refl
  advance-is names pc (op.PushHandle kind interface owner name descriptor) n stack = refl
  advance-is names pc (op.PushMethodType descriptor) n stack = refl
  advance-is names pc (op.Load kind slot) n stack = load-is kind names n stack (names slot)
  advance-is names pc (op.Store kind slot) n stack = ap (λ (goes : StaticType → JType → Bool). store goes kind slot names n (ways.target pc) stack) goes-is
  advance-is names pc (op.ArrayLoad element) n stack = member-advance known ways are headers class names pc n stack (op.ArrayLoad element) refl
  advance-is names pc (op.ArrayStore element) n stack = member-advance known ways are headers class names pc n stack (op.ArrayStore element) refl
  advance-is names pc op.Pop n stack = drop-is false names n stack
  advance-is names pc op.Pop2 n stack = drop-is true names n stack
  advance-is names pc op.Dup n stack = double-is names n stack
  advance-is names pc op.DupX1 n stack = refl
  advance-is names pc op.DupX2 n stack = refl
  advance-is names pc op.Dup2 n stack = refl
  advance-is names pc op.Dup2X1 n stack = refl
  advance-is names pc op.Dup2X2 n stack = refl
  advance-is names pc op.Swap n stack = refl
  advance-is names pc (op.Calc operation kind) n stack = ap (under names) (calc-step ways operation kind (calc-of operation kind) n stack)
  advance-is names pc (op.Iinc slot by) n stack = refl
  advance-is names pc (op.Convert from to) n stack = ap (under names) (convert-step ways from to (convert-of from to) n stack)
  advance-is names pc (op.Compare kind greater) n stack = ap (under names) (compare-step kind greater n stack)
  advance-is names pc (op.IfZero test target) n stack = refl
  advance-is names pc (op.IfInts test target) n stack = refl
  advance-is names pc (op.IfRefs true target) n stack = refl
  advance-is names pc (op.IfRefs false target) n stack = refl
  advance-is names pc (op.IfNull true target) n stack = refl
  advance-is names pc (op.IfNull false target) n stack = refl
  advance-is names pc (op.Goto target) n stack = refl
  advance-is names pc (op.TableSwitch low targets other) n stack = refl
  advance-is names pc (op.LookupSwitch cases other) n stack = refl
  advance-is names pc (op.Return None) n stack = refl
  advance-is names pc (op.Return (Some kind)) n stack = refl
  advance-is names pc (op.GetStatic field) n stack = member-advance known ways are headers class names pc n stack (op.GetStatic field) refl
  advance-is names pc (op.PutStatic field) n stack = member-advance known ways are headers class names pc n stack (op.PutStatic field) refl
  advance-is names pc (op.GetField field) n stack = member-advance known ways are headers class names pc n stack (op.GetField field) refl
  advance-is names pc (op.PutField field) n stack = member-advance known ways are headers class names pc n stack (op.PutField field) refl
  advance-is names pc (op.InvokeVirtual method) n stack = member-advance known ways are headers class names pc n stack (op.InvokeVirtual method) refl
  advance-is names pc (op.InvokeSpecial method) n stack = member-advance known ways are headers class names pc n stack (op.InvokeSpecial method) refl
  advance-is names pc (op.InvokeStatic method) n stack = member-advance known ways are headers class names pc n stack (op.InvokeStatic method) refl
  advance-is names pc (op.InvokeInterface method) n stack = member-advance known ways are headers class names pc n stack (op.InvokeInterface method) refl
  advance-is names pc (op.InvokeDynamic bootstrap name descriptor) n stack = refl
  advance-is names pc (op.New name) n stack = refl
  advance-is names pc (op.NewArray element) n stack = member-advance known ways are headers class names pc n stack (op.NewArray element) refl
  advance-is names pc (op.MultiNewArray type sizes) n stack = member-advance known ways are headers class names pc n stack (op.MultiNewArray type sizes) refl
  advance-is names pc op.ArrayLength n stack = member-advance known ways are headers class names pc n stack op.ArrayLength refl
  advance-is names pc op.Throw n stack = refl
  advance-is names pc (op.CheckCast type) n stack = member-advance known ways are headers class names pc n stack (op.CheckCast type) refl
  advance-is names pc (op.InstanceOf type) n stack = member-advance known ways are headers class names pc n stack (op.InstanceOf type) refl
  advance-is names pc op.MonitorEnter n stack = ap (under names) (no-step ways _ entered-of 1 n stack)
  advance-is names pc op.MonitorExit n stack = ap (under names) (no-step ways _ left-of 1 n stack)
