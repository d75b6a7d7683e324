-- Straight code leaves its formula pending, and returns it.
use Rattle.std.proofs.Common.{ℕ, ◌≡◌, Bool, true, false, List, [], ◌∷◌, Option, Some, None, refl, ap, ◌∙◌}
use Rattle.std.specs.Prelude.{if◌then◌else◌}
use Rattle.dj_names.specs.declared.header.Header.{Header}
use Rattle.dj_names.specs.declared.members.Constant.TheVariants as constant
use Rattle.dj_names.specs.Headers.{Name}
use Rattle.dj_names.specs.Types as types
use Rattle.dj_names.specs.Types.{StaticType, Of}
use Rattle.dj_syntax.specs.declared.variable.Var.{Var}
use Rattle.dj_syntax.specs.Trees.{Exp, Binary, Return, Stms, And, Empty}
use Rattle.dj_instructions.specs.declared.kinds.Kind.TheVariants as kind
use Rattle.dj_instructions.specs.Instructions.{Instruction, Instructions}
use Rattle.dj_instructions.specs.Instructions as op
use Rattle.dj_bytecode.specs.Machine.{pc_of}
use Rattle.dj_bytecode.specs.Meanings.{meaning_of}
use Rattle.dj_meaning.specs.Declarations.{joined}
use Rattle.dj_straight.specs.declared.part.Operation.{Operation}
use Rattle.dj_straight.specs.declared.part.Operation.TheVariants as operations
use Rattle.dj_straight.specs.Straight.{Formula, Number, Parameter, Calculation, calc_of, operator}
use Rattle.dj_rebuilding.specs.Pending.{Pending, Whole, and_then}
use Rattle.dj_rebuilt.specs.Sorts.{sort_of}
use Rattle.dj_rebuilt.specs.Rebuilding.{Names, Ways, Step, under, load, strictly_built, strict_step, advance, first_spilled, then_spilled, advance_one, continues, rebuilt}
use Rattle.dj_exits.specs.Exits.{Edges, emitted_by, leave}
use Rattle.dj_exits.specs.Formulas.{exp_by, pending_of, Spells, number, parameter, calculation, IsShallow, AreNamedBy, AreStraight}

behind-nothing : (found : Option Stms) → and_then found (λ more. Some (joined Empty more)) ≡ found
behind-nothing None = refl
behind-nothing (Some more) = refl

module _ (headers : List Header) (class : Name) (ways : Ways) (starts : ℕ → Bool) (variable : ℕ → Var) (names : Names) (n : ℕ) (are : AreStraight ways) where
  abbrev Rest : List Pending → Instructions → Option Stms
  Rest stack left = rebuilt headers class ways starts names n stack left

  -- a step that leaves entries, and emits nothing
  abbrev grown_to : List Pending → Step
  grown_to stack = (record { emitted = Empty; stack = stack; next = n }, names)

  -- one instruction that goes on so
  goes-on : (pc : ℕ) (instruction : Instruction) (rest : Instructions) (stack new : List Pending) → continues (sort_of instruction) (meaning_of headers class instruction) ≡ true → starts (pc_of rest) ≡ false
      → ways.before instruction stack ≡ false → ways.after new ≡ false → advance headers class ways names pc instruction n stack (sort_of instruction) ≡ Some (grown_to new) → Rest stack ((pc, instruction) ∷ rest) ≡ Rest new rest
  goes-on pc instruction rest stack new on inside before after is =
      ap (λ (test : Bool). if test then and_then (advance_one headers class ways names pc instruction n stack) (λ step.
      and_then (if starts (pc_of rest) then ways.fall step.1 step.0.next step.0.stack rest else rebuilt headers class ways starts step.1 step.0.next step.0.stack rest) (λ more. Some (joined step.0.emitted more))) else ways.leave names n stack ((pc, instruction) ∷ rest)) on
      ∙ ap (λ (found : Option Step). and_then found (λ step.
      and_then (if starts (pc_of rest) then ways.fall step.1 step.0.next step.0.stack rest else rebuilt headers class ways starts step.1 step.0.next step.0.stack rest) (λ more. Some (joined step.0.emitted more)))) one
      ∙ ap (λ (test : Bool). and_then (if test then ways.fall names n new rest else Rest new rest) (λ more. Some (joined Empty more))) inside
      ∙ behind-nothing (Rest new rest)
    where
      one : advance_one headers class ways names pc instruction n stack ≡ Some (grown_to new)
      one = ap (λ (test : Bool). and_then (first_spilled test n stack (λ from entries. advance headers class ways names pc instruction from entries (sort_of instruction))) (λ step. then_spilled (ways.after step.0.stack) step)) before
          ∙ ap (λ (found : Option Step). and_then found (λ step. then_spilled (ways.after step.0.stack) step)) is
          ∙ ap (λ (test : Bool). then_spilled test (grown_to new)) after

  calc-goes : (operation : Operation) → continues (sort_of (op.Calc (calc_of operation) kind.Int)) (meaning_of headers class (op.Calc (calc_of operation) kind.Int)) ≡ true
  calc-goes operations.Add = refl
  calc-goes operations.Sub = refl
  calc-goes operations.Mul = refl

  -- an operator on two entries that are formulas
  calc-pends : (pc : ℕ) (operation : Operation) (left right : Formula) (stack : List Pending)
      → advance headers class ways names pc (op.Calc (calc_of operation) kind.Int) n (pending_of variable right ∷ pending_of variable left ∷ stack) (sort_of (op.Calc (calc_of operation) kind.Int)) ≡ Some (grown_to (pending_of variable (Calculation operation left right) ∷ stack))
  calc-pends pc operation left right stack = by operation left right (are.no_constant operation) (are.nodes operation (exp_by variable left) (exp_by variable right))
    where
      built : (operation : Operation) (left right : Exp) → ways.constant (op.Calc (calc_of operation) kind.Int) ≡ None → ways.node (op.Calc (calc_of operation) kind.Int) ((Of types.Int, left) ∷ (Of types.Int, right) ∷ []) ≡ Some (Of types.Int, Binary (operator operation) left right)
          → under names (strictly_built n stack (ways.constant (op.Calc (calc_of operation) kind.Int)) (ways.node (op.Calc (calc_of operation) kind.Int) ((Of types.Int, left) ∷ (Of types.Int, right) ∷ [])) (ways.effect (op.Calc (calc_of operation) kind.Int) ((Of types.Int, left) ∷ (Of types.Int, right) ∷ [])))
          ≡ Some (grown_to (Whole (Of types.Int) (Binary (operator operation) left right) ∷ stack))
      built operation left right none is =
          ap (λ found. under names (strictly_built n stack found (ways.node (op.Calc (calc_of operation) kind.Int) ((Of types.Int, left) ∷ (Of types.Int, right) ∷ [])) (ways.effect (op.Calc (calc_of operation) kind.Int) ((Of types.Int, left) ∷ (Of types.Int, right) ∷ [])))) none
          ∙ ap (λ found. under names (strictly_built n stack None found (ways.effect (op.Calc (calc_of operation) kind.Int) ((Of types.Int, left) ∷ (Of types.Int, right) ∷ [])))) is

      by : (operation : Operation) (left right : Formula) → ways.constant (op.Calc (calc_of operation) kind.Int) ≡ None → ways.node (op.Calc (calc_of operation) kind.Int) ((Of types.Int, exp_by variable left) ∷ (Of types.Int, exp_by variable right) ∷ []) ≡ Some (Of types.Int, exp_by variable (Calculation operation left right))
          → under names (strict_step ways (op.Calc (calc_of operation) kind.Int) n (pending_of variable right ∷ pending_of variable left ∷ stack) (meaning_of headers class (op.Calc (calc_of operation) kind.Int))) ≡ Some (grown_to (pending_of variable (Calculation operation left right) ∷ stack))
      by operations.Add (Number a) (Number b) none is = built operations.Add (exp_by variable (Number a)) (exp_by variable (Number b)) none is
      by operations.Add (Number a) (Parameter b) none is = built operations.Add (exp_by variable (Number a)) (exp_by variable (Parameter b)) none is
      by operations.Add (Number a) (Calculation o l r) none is = built operations.Add (exp_by variable (Number a)) (exp_by variable (Calculation o l r)) none is
      by operations.Add (Parameter a) (Number b) none is = built operations.Add (exp_by variable (Parameter a)) (exp_by variable (Number b)) none is
      by operations.Add (Parameter a) (Parameter b) none is = built operations.Add (exp_by variable (Parameter a)) (exp_by variable (Parameter b)) none is
      by operations.Add (Parameter a) (Calculation o l r) none is = built operations.Add (exp_by variable (Parameter a)) (exp_by variable (Calculation o l r)) none is
      by operations.Add (Calculation p m s) (Number b) none is = built operations.Add (exp_by variable (Calculation p m s)) (exp_by variable (Number b)) none is
      by operations.Add (Calculation p m s) (Parameter b) none is = built operations.Add (exp_by variable (Calculation p m s)) (exp_by variable (Parameter b)) none is
      by operations.Add (Calculation p m s) (Calculation o l r) none is = built operations.Add (exp_by variable (Calculation p m s)) (exp_by variable (Calculation o l r)) none is
      by operations.Sub (Number a) (Number b) none is = built operations.Sub (exp_by variable (Number a)) (exp_by variable (Number b)) none is
      by operations.Sub (Number a) (Parameter b) none is = built operations.Sub (exp_by variable (Number a)) (exp_by variable (Parameter b)) none is
      by operations.Sub (Number a) (Calculation o l r) none is = built operations.Sub (exp_by variable (Number a)) (exp_by variable (Calculation o l r)) none is
      by operations.Sub (Parameter a) (Number b) none is = built operations.Sub (exp_by variable (Parameter a)) (exp_by variable (Number b)) none is
      by operations.Sub (Parameter a) (Parameter b) none is = built operations.Sub (exp_by variable (Parameter a)) (exp_by variable (Parameter b)) none is
      by operations.Sub (Parameter a) (Calculation o l r) none is = built operations.Sub (exp_by variable (Parameter a)) (exp_by variable (Calculation o l r)) none is
      by operations.Sub (Calculation p m s) (Number b) none is = built operations.Sub (exp_by variable (Calculation p m s)) (exp_by variable (Number b)) none is
      by operations.Sub (Calculation p m s) (Parameter b) none is = built operations.Sub (exp_by variable (Calculation p m s)) (exp_by variable (Parameter b)) none is
      by operations.Sub (Calculation p m s) (Calculation o l r) none is = built operations.Sub (exp_by variable (Calculation p m s)) (exp_by variable (Calculation o l r)) none is
      by operations.Mul (Number a) (Number b) none is = built operations.Mul (exp_by variable (Number a)) (exp_by variable (Number b)) none is
      by operations.Mul (Number a) (Parameter b) none is = built operations.Mul (exp_by variable (Number a)) (exp_by variable (Parameter b)) none is
      by operations.Mul (Number a) (Calculation o l r) none is = built operations.Mul (exp_by variable (Number a)) (exp_by variable (Calculation o l r)) none is
      by operations.Mul (Parameter a) (Number b) none is = built operations.Mul (exp_by variable (Parameter a)) (exp_by variable (Number b)) none is
      by operations.Mul (Parameter a) (Parameter b) none is = built operations.Mul (exp_by variable (Parameter a)) (exp_by variable (Parameter b)) none is
      by operations.Mul (Parameter a) (Calculation o l r) none is = built operations.Mul (exp_by variable (Parameter a)) (exp_by variable (Calculation o l r)) none is
      by operations.Mul (Calculation p m s) (Number b) none is = built operations.Mul (exp_by variable (Calculation p m s)) (exp_by variable (Number b)) none is
      by operations.Mul (Calculation p m s) (Parameter b) none is = built operations.Mul (exp_by variable (Calculation p m s)) (exp_by variable (Parameter b)) none is
      by operations.Mul (Calculation p m s) (Calculation o l r) none is = built operations.Mul (exp_by variable (Calculation p m s)) (exp_by variable (Calculation o l r)) none is

  pub pends : {formula : Formula} {instructions rest : Instructions} → Spells starts formula instructions rest → IsShallow variable formula → AreNamedBy variable names formula → (stack : List Pending) → Rest stack instructions ≡ Rest (pending_of variable formula ∷ stack) rest
  pends (number {value} {pc} {rest} inside) shallow named stack =
      goes-on pc (op.Push (constant.Int value)) rest stack _ refl inside (are.push_before value stack) (are.kept_after _ _ stack)
      (ap (λ found. under names (strictly_built n stack found (ways.node (op.Push (constant.Int value)) []) (ways.effect (op.Push (constant.Int value)) []))) (are.constants value))
  pends (parameter {slot} {pc} {rest} inside) shallow named stack =
      goes-on pc (op.Load kind.Int slot) rest stack _ refl inside (are.load_before slot stack) (are.kept_after _ _ stack) (ap (load kind.Int names n stack) named)
  pends (calculation {operation} {left} {right} {all} {middle} {rest} {pc} first second inside) shallow named stack =
      pends first shallow.1 named.0 stack
      ∙ pends second shallow.2 named.1 (pending_of variable left ∷ stack)
      ∙ goes-on pc (op.Calc (calc_of operation) kind.Int) rest (pending_of variable right ∷ pending_of variable left ∷ stack) (pending_of variable (Calculation operation left right) ∷ stack) (calc-goes operation) inside
      (are.calc_before operation (pending_of variable right ∷ pending_of variable left ∷ stack)) (are.whole_after (exp_by variable (Calculation operation left right)) stack shallow.0) (calc-pends pc operation left right stack)

  -- the return
  returns-it : (world : List Header) (edges : Edges) → edges.fits (Of types.Int) types.Int ≡ true → (formula : Formula) (pc : ℕ) (rest : Instructions)
      → leave world (Some types.Int) edges names n (pending_of variable formula ∷ []) ((pc, op.Return (Some kind.Int)) ∷ rest) ≡ Some (And (Return (Some (exp_by variable formula))) Empty)
  returns-it world edges fits (Number value) pc rest = ap (λ (test : Bool). emitted_by (if test then Some (record { emitted = And (Return (Some (exp_by variable (Number value)))) Empty; stack = []; next = n }) else None)) fits
  returns-it world edges fits (Parameter slot) pc rest = ap (λ (test : Bool). emitted_by (if test then Some (record { emitted = And (Return (Some (exp_by variable (Parameter slot)))) Empty; stack = []; next = n }) else None)) fits
  returns-it world edges fits (Calculation operation left right) pc rest = ap (λ (test : Bool). emitted_by (if test then Some (record { emitted = And (Return (Some (exp_by variable (Calculation operation left right)))) Empty; stack = []; next = n }) else None)) fits

pub formulas-pend : (headers : List Header) (class : Name) (ways : Ways) (starts : ℕ → Bool) (variable : ℕ → Var) (names : Names) (n : ℕ) → AreStraight ways
    → (formula : Formula) (instructions rest : Instructions) → Spells starts formula instructions rest → IsShallow variable formula → AreNamedBy variable names formula
    → (stack : List Pending) → rebuilt headers class ways starts names n stack instructions ≡ rebuilt headers class ways starts names n (pending_of variable formula ∷ stack) rest
formulas-pend headers class ways starts variable names n are formula instructions rest spells shallow named stack = pends headers class ways starts variable names n are spells shallow named stack

pub straight-returns : (headers : List Header) (class : Name) (ways : Ways) (starts : ℕ → Bool) (variable : ℕ → Var) (names : Names) (n : ℕ) → AreStraight ways
    → (world : List Header) (edges : Edges) → ways.leave ≡ leave world (Some types.Int) edges → edges.fits (Of types.Int) types.Int ≡ true
    → (formula : Formula) (instructions rest : Instructions) (pc : ℕ) → Spells starts formula instructions ((pc, op.Return (Some kind.Int)) ∷ rest) → IsShallow variable formula → AreNamedBy variable names formula
    → rebuilt headers class ways starts names n [] instructions ≡ Some (And (Return (Some (exp_by variable formula))) Empty)
straight-returns headers class ways starts variable names n are world edges leaves fits formula instructions rest pc spells shallow named =
    pends headers class ways starts variable names n are spells shallow named []
    ∙ ap (λ found. found names n (pending_of variable formula ∷ []) ((pc, op.Return (Some kind.Int)) ∷ rest)) leaves
    ∙ returns-it headers class ways starts variable names n are world edges fits formula pc rest
