-- How the formula of a straight method is rebuilt: its instructions run on a stack of formulas, from the top down.
use Rattle.std.specs.Prelude.{◌≡◌, ◌≢◌, ◌⊎◌, ℕ, nat_le, nat_lt, Bool, true, false, if◌then◌else◌, List, [], ◌∷◌, ◌++◌, length, map, reverse, Option, Some, None, option_map}
use Rattle.std.specs.Option.{option_and_then}
use Rattle.dj_names.specs.declared.members.Constant.TheVariants as constant
use Rattle.dj_syntax.specs.Trees.{view_exp}
use Rattle.dj_syntax.specs.WellFormed.{IsWellFormedExp}
use Rattle.dj_instructions.specs.declared.kinds.Kind.TheVariants as kind
use Rattle.dj_instructions.specs.declared.kinds.Calc.{Calc}
use Rattle.dj_instructions.specs.declared.kinds.Calc.TheVariants as calc
use Rattle.dj_instructions.specs.declared.instruction.Instruction as declared
use Rattle.dj_instructions.specs.Instructions.{Instruction, Instructions, view_instruction}
use Rattle.dj_instructions.specs.Instructions as instruction
use Rattle.dj_straight.specs.declared.part.Operation.{Operation}
use Rattle.dj_straight.specs.declared.part.Operation.TheVariants as operation
use Rattle.dj_straight.specs.declared.part.Part.{Part}
use Rattle.dj_straight.specs.declared.part.Part.TheVariants as part
use Rattle.dj_straight.specs.declared.straight.Node.{Node}
use Rattle.dj_straight.specs.declared.straight.Begun.{Begun}
use Rattle.dj_straight.specs.declared.straight.Begun.TheVariants as begun
use Rattle.dj_straight.specs.declared.straight.Rebuilt.{Rebuilt}
use Rattle.dj_straight.specs.declared.straight.Rebuilt.TheVariants.{Tree, Breaks}
use Rattle.dj_straight.specs.Straight.{Formula, Number, Parameter, Calculation, calc_of, exp_of, depth, HasStraightOpcode, HaveStraightOpcodes}

-- ---- instructions of straight code

-- the operation of straight code that an instruction on ints is
abbrev pub operation_of : Calc → Option Operation
operation_of calc.Add = Some operation.Add
operation_of calc.Sub = Some operation.Sub
operation_of calc.Mul = Some operation.Mul
operation_of calc.Div = None
operation_of calc.Rem = None
operation_of calc.Neg = None
operation_of calc.Shl = None
operation_of calc.Shr = None
operation_of calc.Ushr = None
operation_of calc.And = None
operation_of calc.Or = None
operation_of calc.Xor = None

-- what an instruction is in straight code
abbrev pub part_of : Instruction → Option Part
part_of instruction.Nop = None
part_of instruction.PushNull = None
part_of (instruction.Push (constant.Int number)) = Some (part.Number number)
part_of (instruction.Push (constant.Long number)) = None
part_of (instruction.Push (constant.Text units)) = None
part_of (instruction.Push (constant.Float bits)) = None
part_of (instruction.Push (constant.Double bits)) = None
part_of (instruction.PushClass class) = None
part_of (instruction.PushHandle kind interface owner name descriptor) = None
part_of (instruction.PushMethodType descriptor) = None
part_of (instruction.Load kind.Int slot) = Some (part.Parameter slot)
part_of (instruction.Load kind.Long slot) = None
part_of (instruction.Load kind.Float slot) = None
part_of (instruction.Load kind.Double slot) = None
part_of (instruction.Load kind.Ref slot) = None
part_of (instruction.Store kind slot) = None
part_of (instruction.ArrayLoad element) = None
part_of (instruction.ArrayStore element) = None
part_of instruction.Pop = None
part_of instruction.Pop2 = None
part_of instruction.Dup = None
part_of instruction.DupX1 = None
part_of instruction.DupX2 = None
part_of instruction.Dup2 = None
part_of instruction.Dup2X1 = None
part_of instruction.Dup2X2 = None
part_of instruction.Swap = None
part_of (instruction.Calc calc kind.Int) = option_map part.Operator (operation_of calc)
part_of (instruction.Calc calc kind.Long) = None
part_of (instruction.Calc calc kind.Float) = None
part_of (instruction.Calc calc kind.Double) = None
part_of (instruction.Calc calc kind.Ref) = None
part_of (instruction.Iinc slot by) = None
part_of (instruction.Convert from to) = None
part_of (instruction.Compare kind greater) = None
part_of (instruction.IfZero test target) = None
part_of (instruction.IfInts test target) = None
part_of (instruction.IfRefs equal target) = None
part_of (instruction.IfNull null target) = None
part_of (instruction.Goto target) = None
part_of (instruction.TableSwitch low targets other) = None
part_of (instruction.LookupSwitch cases other) = None
part_of (instruction.Return None) = None
part_of (instruction.Return (Some kind.Int)) = Some part.Return
part_of (instruction.Return (Some kind.Long)) = None
part_of (instruction.Return (Some kind.Float)) = None
part_of (instruction.Return (Some kind.Double)) = None
part_of (instruction.Return (Some kind.Ref)) = None
part_of (instruction.GetStatic field) = None
part_of (instruction.PutStatic field) = None
part_of (instruction.GetField field) = None
part_of (instruction.PutField field) = None
part_of (instruction.InvokeVirtual method) = None
part_of (instruction.InvokeSpecial method) = None
part_of (instruction.InvokeStatic method) = None
part_of (instruction.InvokeInterface method) = None
part_of (instruction.InvokeDynamic bootstrap name descriptor) = None
part_of (instruction.New class) = None
part_of (instruction.NewArray element) = None
part_of (instruction.MultiNewArray class sizes) = None
part_of instruction.ArrayLength = None
part_of instruction.Throw = None
part_of (instruction.CheckCast class) = None
part_of (instruction.InstanceOf class) = None
part_of instruction.MonitorEnter = None
part_of instruction.MonitorExit = None

-- the instruction of a part
abbrev pub instruction_of : Part → Instruction
instruction_of (part.Number number) = instruction.Push (constant.Int number)
instruction_of (part.Parameter slot) = instruction.Load kind.Int slot
instruction_of (part.Operator operation) = instruction.Calc (calc_of operation) kind.Int
instruction_of part.Return = instruction.Return (Some kind.Int)

-- ---- the code's stack

-- a node holds the tree of a formula, and its height
pub record IsNode (node : Node) (formula : Formula) : Type 0 where
  pub tree : view_exp node.exp ≡ exp_of formula
  pub height : depth formula ≡ node.levels
  pub fits : IsWellFormedExp (view_exp node.exp)

-- the node of a formula, where there is one
abbrev pub IsNodeOf : Option Node → Option Formula → Type 0
IsNodeOf None None = Unit {0}
IsNodeOf None (Some formula) = ⊥
IsNodeOf (Some node) None = ⊥
IsNodeOf (Some node) (Some formula) = IsNode node formula

-- the nodes of formulas, one each
abbrev pub AreNodes : List Node → List Formula → Type 0
AreNodes [] [] = Unit {0}
AreNodes [] (formula ∷ formulas) = ⊥
AreNodes (node ∷ nodes) [] = ⊥
AreNodes (node ∷ nodes) (formula ∷ formulas) = IsNode node formula × AreNodes nodes formulas

-- ---- the stack of formulas

-- the formula on top, where there is room for it
abbrev pub pushed : ℕ → Formula → List Formula → Option (List Formula)
pushed max_stack formula stack = if nat_lt (length stack) max_stack then Some (formula ∷ stack) else None

-- an operator with its operands, where it has no more than 64 levels
abbrev pub joined : Operation → Formula → Formula → Option Formula
joined operation left right = if nat_le (depth (Calculation operation left right)) 64 then Some (Calculation operation left right) else None

-- an operator takes the two topmost formulas
abbrev pub calculated : Operation → List Formula → Option (List Formula)
calculated operation [] = None
calculated operation (right ∷ []) = None
calculated operation (right ∷ left ∷ below) = option_map (λ formula. formula ∷ below) (joined operation left right)

-- one part, where there is one that is no return and stays within the limits
abbrev pub advanced_by : ℕ → ℕ → Option Part → List Formula → Option (List Formula)
advanced_by parameters max_stack None stack = None
advanced_by parameters max_stack (Some (part.Number number)) stack = pushed max_stack (Number number) stack
advanced_by parameters max_stack (Some (part.Parameter slot)) stack =
    if nat_lt slot parameters then pushed max_stack (Parameter slot) stack else None
advanced_by parameters max_stack (Some (part.Operator operation)) stack = calculated operation stack
advanced_by parameters max_stack (Some part.Return) stack = None

-- one instruction
abbrev pub advanced : ℕ → ℕ → Instruction → List Formula → Option (List Formula)
advanced parameters max_stack instruction stack = advanced_by parameters max_stack (part_of instruction) stack

-- instructions one after another
abbrev pub built : ℕ → ℕ → List Instruction → List Formula → Option (List Formula)
built parameters max_stack [] stack = Some stack
built parameters max_stack (first ∷ rest) stack = option_and_then (built parameters max_stack rest) (advanced parameters max_stack first stack)

-- ---- what the code tells of them

-- it went on to these nodes, or there was nothing to go on to
abbrev pub WentOn : Bool → Option (List Formula) → List Node → Type 0
WentOn true None nodes = ⊥
WentOn true (Some stack) nodes = AreNodes nodes stack
WentOn false None nodes = Unit {0}
WentOn false (Some stack) nodes = ⊥

-- `ireturn` at the end of the code finds exactly one formula, or breaks it
abbrev pub IsClosed : Rebuilt → List Formula → ℕ → Type 0
IsClosed (Tree exp) stack pc = (formula : Formula) × (stack ≡ formula ∷ []) × (view_exp exp ≡ exp_of formula) × IsWellFormedExp (view_exp exp)
IsClosed (Breaks at) stack pc = (at ≡ pc) × ((formula : Formula) → stack ≢ formula ∷ [])

-- `ireturn`
abbrev pub IsReturn : Instruction → Type 0
IsReturn one = one ≡ instruction.Return (Some kind.Int)

-- an instruction of the code at its offset, seen as plain data
abbrev pub viewed : ℕ × declared.Instruction → ℕ × Instruction
viewed at = (at.0, view_instruction at.1)

-- these instructions have opcodes of straight code, and build this stack
pub record Builds (parameters max_stack : ℕ) (bytes : List ℕ) (instructions : Instructions) (stack : List Formula) : Type 0 where
  pub opcodes : HaveStraightOpcodes bytes instructions
  pub ran : built parameters max_stack (map (λ i. i.1) instructions) [] ≡ Some stack

-- an instruction that such a stack doesn't go on with
abbrev pub Blocks : ℕ → ℕ → List ℕ → List Formula → ℕ × Instruction → Type 0
Blocks parameters max_stack bytes stack at = (HasStraightOpcode bytes at.0 → ⊥) ⊎ (advanced parameters max_stack at.1 stack ≡ None)

-- the first of these instructions that the stack of those before it doesn't go on with
pub record IsBlockedAt (parameters max_stack : ℕ) (bytes : List ℕ) (instructions : Instructions) (pc : ℕ) : Type 0 where
  pub before : Instructions
  pub first : ℕ × Instruction
  pub behind : Instructions
  pub is : instructions ≡ before ++ first ∷ behind
  pub at : pc ≡ first.0
  pub stack : List Formula
  pub builds : Builds parameters max_stack bytes before stack
  pub blocks : Blocks parameters max_stack bytes stack first

-- what building tells of instructions
abbrev pub IsBuiltOf : ℕ → ℕ → List ℕ → Instructions → Begun → Type 0
IsBuiltOf parameters max_stack bytes instructions (begun.Stack nodes) = (stack : List Formula) × Builds parameters max_stack bytes instructions stack × AreNodes (reverse nodes) stack
IsBuiltOf parameters max_stack bytes instructions (begun.Breaks pc) = IsBlockedAt parameters max_stack bytes instructions pc
