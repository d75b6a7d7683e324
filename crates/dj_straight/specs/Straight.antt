-- Straight methods: code that is one expression in postfix form and `ireturn`, and the expression that it is.
use Rattle.std.specs.Prelude.{◌≡◌, ℕ, ◌+◌, ◌≤◌, ◌<◌, ◌==◌, ◌||◌, Bool, IsTrue, max, ℤ, All, length, map, slice_index_or, List, [], ◌∷◌, ◌++◌, Some}
use Rattle.std.specs.Int.{is_in_range}
use Rattle.dj_names.specs.declared.members.Constant.TheVariants as constant
use Rattle.dj_syntax.specs.declared.operator.Op.{Op}
use Rattle.dj_syntax.specs.declared.operator.Op.TheVariants as op
use Rattle.dj_syntax.specs.declared.variable.VarKind.TheVariants as variable
use Rattle.dj_syntax.specs.Trees.{Exp, Variable, Binary, view_exp}
use Rattle.dj_syntax.specs.Trees as trees
use Rattle.dj_instructions.specs.declared.kinds.Kind.TheVariants as kind
use Rattle.dj_instructions.specs.declared.kinds.Calc.{Calc}
use Rattle.dj_instructions.specs.declared.kinds.Calc.TheVariants as calc
use Rattle.dj_instructions.specs.Instructions.{Instruction, Instructions}
use Rattle.dj_instructions.specs.Instructions as instruction
use Rattle.dj_straight.specs.declared.part.Operation.{Operation}
use Rattle.dj_straight.specs.declared.part.Operation.TheVariants.{Add, Sub, Mul}
use Rattle.dj_straight.specs.declared.straight.Rebuilt.{Rebuilt}
use Rattle.dj_straight.specs.declared.straight.Rebuilt.TheVariants.{Tree, Breaks}

-- ---- formulas

-- an expression over the parameters of a static method whose parameters are ints
pub data Formula : Type 0 where
  Number : ℤ → Formula
  Parameter : ℕ → Formula
  Calculation : Operation → Formula → Formula → Formula

-- the instruction of an operation
abbrev pub calc_of : Operation → Calc
calc_of Add = calc.Add
calc_of Sub = calc.Sub
calc_of Mul = calc.Mul

-- the operator of an operation
abbrev pub operator : Operation → Op
operator Add = op.Add
operator Sub = op.Sub
operator Mul = op.Mul

-- a formula as Java writes it
abbrev pub exp_of : Formula → Exp
exp_of (Number number) = trees.Int number
exp_of (Parameter slot) = Variable (record { kind = variable.Param; number = slot })
exp_of (Calculation operation left right) = Binary (operator operation) (exp_of left) (exp_of right)

-- a formula in postfix form: operands first, then the instruction that takes them
abbrev pub postfix : Formula → List Instruction
postfix (Number number) = instruction.Push (constant.Int number) ∷ []
postfix (Parameter slot) = instruction.Load kind.Int slot ∷ []
postfix (Calculation operation left right) = postfix left ++ (postfix right ++ instruction.Calc (calc_of operation) kind.Int ∷ [])

-- the height of a formula's tree
abbrev pub depth : Formula → ℕ
depth (Number number) = 1
depth (Parameter slot) = 1
depth (Calculation operation left right) = max (depth left) (depth right) + 1

-- how many values stand on the stack at once
abbrev pub height : Formula → ℕ
height (Number number) = 1
height (Parameter slot) = 1
height (Calculation operation left right) = max (height left) (height right + 1)

-- each parameter is one of so many
abbrev pub UsesParameters : ℕ → Formula → Type 0
UsesParameters count (Number number) = Unit {0}
UsesParameters count (Parameter slot) = slot < count
UsesParameters count (Calculation operation left right) = UsesParameters count left × UsesParameters count right

-- Instructions are the postfix form of a formula and `ireturn`, within these limits: parameters that
-- there are, 64 levels of operators, values on the stack.
pub record IsStraight (parameters max_stack : ℕ) (instructions : List Instruction) (formula : Formula) : Type 0 where
  pub form : instructions ≡ postfix formula ++ instruction.Return (Some kind.Int) ∷ []
  pub slots : UsesParameters parameters formula
  pub levels : depth formula ≤ 64
  pub stack : height formula ≤ max_stack

-- ---- code

-- the opcodes of straight code; `ldc` and what `wide` makes wide give equal instructions, and aren't straight
abbrev pub is_straight_opcode : ℕ → Bool
is_straight_opcode opcode =
    is_in_range 2 8 opcode  -- `iconst_m1` to `iconst_5`
    || is_in_range 16 17 opcode  -- `bipush`, `sipush`
    || (opcode == 21)  -- `iload`
    || is_in_range 26 29 opcode  -- `iload_0` to `iload_3`
    || (opcode == 96)  -- `iadd`
    || (opcode == 100)  -- `isub`
    || (opcode == 104)  -- `imul`
    || (opcode == 172)  -- `ireturn`

-- of the bytes of a method's code, that at this pc is an opcode of straight code
abbrev pub HasStraightOpcode : List ℕ → ℕ → Type 0
HasStraightOpcode bytes pc = IsTrue (is_straight_opcode (slice_index_or bytes pc 0))

-- each of these instructions has an opcode of straight code
abbrev pub HaveStraightOpcodes : List ℕ → Instructions → Type 0
HaveStraightOpcodes bytes instructions = All (λ at. HasStraightOpcode bytes at.0) instructions

-- the instructions of a method's code, spelled by these bytes, are straight, and this is the formula that they are
pub record IsStraightCode (parameters max_stack : ℕ) (bytes : List ℕ) (instructions : Instructions) (formula : Formula) : Type 0 where
  pub opcodes : HaveStraightOpcodes bytes instructions
  pub straight : IsStraight parameters max_stack (map (λ i. i.1) instructions) formula

-- the postfix form of formulas that stand on a stack, from the top down
abbrev pub stack_postfix : List Formula → List Instruction
stack_postfix [] = []
stack_postfix (top ∷ below) = stack_postfix below ++ postfix top

-- how many values stand at once while such a stack is built
abbrev pub stack_height : List Formula → ℕ
stack_height [] = 0
stack_height (top ∷ below) = max (stack_height below) (length below + height top)

-- formulas over parameters that there are, each of 64 levels at most
abbrev pub AreFormulas : ℕ → List Formula → Type 0
AreFormulas parameters [] = Unit {0}
AreFormulas parameters (top ∷ below) = UsesParameters parameters top × (depth top ≤ 64) × AreFormulas parameters below

-- instructions begin a straight method: they build a stack of formulas within the limits
pub record IsBegun (parameters max_stack : ℕ) (bytes : List ℕ) (instructions : Instructions) : Type 0 where
  pub opcodes : HaveStraightOpcodes bytes instructions
  pub stack : List Formula
  pub form : map (λ i. i.1) instructions ≡ stack_postfix stack
  pub formulas : AreFormulas parameters stack
  pub room : stack_height stack ≤ max_stack

-- Instructions are no straight method, and the one at this pc is the first that breaks it: those before it
-- begin one, and with it they don't; the pc is the length of the bytes where only the `ireturn` is missing.
pub data BreaksAt (parameters max_stack : ℕ) (bytes : List ℕ) (instructions : Instructions) : ℕ → Type 0 where
  breaks : (before : Instructions) (first : ℕ × Instruction) (behind : Instructions) → instructions ≡ before ++ first ∷ behind
      → IsBegun parameters max_stack bytes before → ¬ IsBegun parameters max_stack bytes (before ++ first ∷ [])
      → ((formula : Formula) → ¬ IsStraightCode parameters max_stack bytes instructions formula) → BreaksAt parameters max_stack bytes instructions first.0
  ends : IsBegun parameters max_stack bytes instructions → BreaksAt parameters max_stack bytes instructions (length bytes)

-- the instructions of a method's code are straight, and return this expression
pub record IsReturned (parameters max_stack : ℕ) (bytes : List ℕ) (instructions : Instructions) (exp : Exp) : Type 0 where
  pub formula : Formula
  pub straight : IsStraightCode parameters max_stack bytes instructions formula
  pub tree : exp ≡ exp_of formula

-- what rebuilding tells of the instructions of a method's code
abbrev pub IsRebuilt : ℕ → ℕ → List ℕ → Instructions → Rebuilt → Type 0
IsRebuilt parameters max_stack bytes instructions (Tree exp) = IsReturned parameters max_stack bytes instructions (view_exp exp)
IsRebuilt parameters max_stack bytes instructions (Breaks pc) = BreaksAt parameters max_stack bytes instructions pc

-- a fact about the expression that was rebuilt, where there is one
abbrev pub IfTree : Rebuilt → (Exp → Type 0) → Type 0
IfTree (Tree exp) property = property (view_exp exp)
IfTree (Breaks pc) property = Unit {0}
