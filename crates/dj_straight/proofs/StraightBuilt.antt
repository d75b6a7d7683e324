-- Instructions run on a stack of formulas exactly where they build one within the limits.
use Rattle.std.proofs.Common.{◌≡◌, ℕ, ◌+◌, ◌<◌, ◌≤◌, true, false, ltb, leb, List, [], ◌∷◌, ◌++◌, length, Option, Some, None, option_map, refl, sym, ap, ◌∙◌, subst, ⊎_elim, arith, append_assoc, append-nil}
use Rattle.std.proofs.lemmas.Bool.Decides.{nat_tests}
use Rattle.std.proofs.lemmas.Bool.{cases_lt}
use Rattle.std.specs.Option.{option_and_then}
use Rattle.dj_names.specs.declared.members.Constant.TheVariants as constant
use Rattle.dj_instructions.specs.declared.kinds.Kind.TheVariants as kind
use Rattle.dj_instructions.specs.declared.kinds.Calc.{Calc}
use Rattle.dj_instructions.specs.declared.kinds.Calc.TheVariants as calc
use Rattle.dj_instructions.specs.Instructions.{Instruction}
use Rattle.dj_instructions.specs.Instructions as instruction
use Rattle.dj_straight.specs.declared.part.Operation.{Operation}
use Rattle.dj_straight.specs.declared.part.Operation.TheVariants as operation
use Rattle.dj_straight.specs.declared.part.Part.{Part}
use Rattle.dj_straight.specs.declared.part.Part.TheVariants as part
use Rattle.dj_straight.specs.Straight.{Formula, Number, Parameter, Calculation, calc_of, postfix, depth, height, UsesParameters, stack_postfix, stack_height, AreFormulas}
use Rattle.dj_straight.specs.Rebuilding.{operation_of, part_of, instruction_of, pushed, joined, advanced_by, advanced, built}

-- ---- parts

calc_is : (calc : Calc) (one : Part) → option_map part.Operator (operation_of calc) ≡ Some one → instruction.Calc calc kind.Int ≡ instruction_of one
calc_is calc.Add one is = let same : part.Operator operation.Add ≡ one = cc in rw (← same) refl
calc_is calc.Sub one is = let same : part.Operator operation.Sub ≡ one = cc in rw (← same) refl
calc_is calc.Mul one is = let same : part.Operator operation.Mul ≡ one = cc in rw (← same) refl
calc_is calc.Div one is = absurd (cc)
calc_is calc.Rem one is = absurd (cc)
calc_is calc.Neg one is = absurd (cc)
calc_is calc.Shl one is = absurd (cc)
calc_is calc.Shr one is = absurd (cc)
calc_is calc.Ushr one is = absurd (cc)
calc_is calc.And one is = absurd (cc)
calc_is calc.Or one is = absurd (cc)
calc_is calc.Xor one is = absurd (cc)

-- an instruction is that of its part
pub part_is : (one_instruction : Instruction) (one : Part) → part_of one_instruction ≡ Some one → one_instruction ≡ instruction_of one
part_is instruction.Nop one is = absurd (cc)
part_is instruction.PushNull one is = absurd (cc)
part_is (instruction.Push (constant.Int number)) one is = let same : part.Number number ≡ one = cc in rw (← same) refl
part_is (instruction.Push (constant.Long number)) one is = absurd (cc)
part_is (instruction.Push (constant.Text units)) one is = absurd (cc)
part_is (instruction.Push (constant.Float bits)) one is = absurd (cc)
part_is (instruction.Push (constant.Double bits)) one is = absurd (cc)
part_is (instruction.PushClass class) one is = absurd (cc)
part_is (instruction.PushHandle kind interface owner name descriptor) one is = absurd (cc)
part_is (instruction.PushMethodType descriptor) one is = absurd (cc)
part_is (instruction.Load kind.Int slot) one is = let same : part.Parameter slot ≡ one = cc in rw (← same) refl
part_is (instruction.Load kind.Long slot) one is = absurd (cc)
part_is (instruction.Load kind.Float slot) one is = absurd (cc)
part_is (instruction.Load kind.Double slot) one is = absurd (cc)
part_is (instruction.Load kind.Ref slot) one is = absurd (cc)
part_is (instruction.Store kind slot) one is = absurd (cc)
part_is (instruction.ArrayLoad element) one is = absurd (cc)
part_is (instruction.ArrayStore element) one is = absurd (cc)
part_is instruction.Pop one is = absurd (cc)
part_is instruction.Pop2 one is = absurd (cc)
part_is instruction.Dup one is = absurd (cc)
part_is instruction.DupX1 one is = absurd (cc)
part_is instruction.DupX2 one is = absurd (cc)
part_is instruction.Dup2 one is = absurd (cc)
part_is instruction.Dup2X1 one is = absurd (cc)
part_is instruction.Dup2X2 one is = absurd (cc)
part_is instruction.Swap one is = absurd (cc)
part_is (instruction.Calc calc kind.Int) one is = calc_is calc one is
part_is (instruction.Calc calc kind.Long) one is = absurd (cc)
part_is (instruction.Calc calc kind.Float) one is = absurd (cc)
part_is (instruction.Calc calc kind.Double) one is = absurd (cc)
part_is (instruction.Calc calc kind.Ref) one is = absurd (cc)
part_is (instruction.Iinc slot by) one is = absurd (cc)
part_is (instruction.Convert from to) one is = absurd (cc)
part_is (instruction.Compare kind greater) one is = absurd (cc)
part_is (instruction.IfZero test target) one is = absurd (cc)
part_is (instruction.IfInts test target) one is = absurd (cc)
part_is (instruction.IfRefs equal target) one is = absurd (cc)
part_is (instruction.IfNull null target) one is = absurd (cc)
part_is (instruction.Goto target) one is = absurd (cc)
part_is (instruction.TableSwitch low targets other) one is = absurd (cc)
part_is (instruction.LookupSwitch cases other) one is = absurd (cc)
part_is (instruction.Return None) one is = absurd (cc)
part_is (instruction.Return (Some kind.Int)) one is = let same : part.Return ≡ one = cc in rw (← same) refl
part_is (instruction.Return (Some kind.Long)) one is = absurd (cc)
part_is (instruction.Return (Some kind.Float)) one is = absurd (cc)
part_is (instruction.Return (Some kind.Double)) one is = absurd (cc)
part_is (instruction.Return (Some kind.Ref)) one is = absurd (cc)
part_is (instruction.GetStatic field) one is = absurd (cc)
part_is (instruction.PutStatic field) one is = absurd (cc)
part_is (instruction.GetField field) one is = absurd (cc)
part_is (instruction.PutField field) one is = absurd (cc)
part_is (instruction.InvokeVirtual method) one is = absurd (cc)
part_is (instruction.InvokeSpecial method) one is = absurd (cc)
part_is (instruction.InvokeStatic method) one is = absurd (cc)
part_is (instruction.InvokeInterface method) one is = absurd (cc)
part_is (instruction.InvokeDynamic bootstrap name descriptor) one is = absurd (cc)
part_is (instruction.New class) one is = absurd (cc)
part_is (instruction.NewArray element) one is = absurd (cc)
part_is (instruction.MultiNewArray class sizes) one is = absurd (cc)
part_is instruction.ArrayLength one is = absurd (cc)
part_is instruction.Throw one is = absurd (cc)
part_is (instruction.CheckCast class) one is = absurd (cc)
part_is (instruction.InstanceOf class) one is = absurd (cc)
part_is instruction.MonitorEnter one is = absurd (cc)
part_is instruction.MonitorExit one is = absurd (cc)

-- the instruction of an operation is that operation
pub operation_is : (one : Operation) → operation_of (calc_of one) ≡ Some one
operation_is operation.Add = refl
operation_is operation.Sub = refl
operation_is operation.Mul = refl

module _ (parameters max_stack : ℕ) where
  pub built-append : (front back : List Instruction) (stack : List Formula) → built parameters max_stack (front ++ back) stack ≡ option_and_then (built parameters max_stack back) (built parameters max_stack front stack)
  built-append [] back stack = refl
  built-append (first ∷ front) back stack = go (advanced parameters max_stack first stack) (built-append front back)
    where
      go : (next : Option (List Formula)) → ((stack : List Formula) → built parameters max_stack (front ++ back) stack ≡ option_and_then (built parameters max_stack back) (built parameters max_stack front stack)) → option_and_then (built parameters max_stack (front ++ back)) next ≡ option_and_then (built parameters max_stack back) (option_and_then (built parameters max_stack front) next)
      go None later = refl
      go (Some next) later = later next

  -- ---- what is within the limits is built

  pub built_formula : (formula : Formula) (stack : List Formula) → UsesParameters parameters formula → depth formula ≤ 64 → length stack + height formula ≤ max_stack → built parameters max_stack (postfix formula) stack ≡ Some (formula ∷ stack)
  built_formula (Number number) stack uses levels room =
      let test : ltb (length stack) max_stack ≡ true = grind (arith, nat_tests) in rw test
  built_formula (Parameter slot) stack uses levels room =
      let test : ltb (length stack) max_stack ≡ true = grind (arith, nat_tests) in
      let there : ltb slot parameters ≡ true = grind (arith, nat_tests) in
      rw (there, test)
  built_formula (Calculation operation left right) stack uses levels room =
      let last : List Instruction = instruction.Calc (calc_of operation) kind.Int ∷ [] in
      let first = built_formula left stack uses.0 (omega arith) (omega arith) in
      let second = built_formula right (left ∷ stack) uses.1 (omega arith) (omega arith) in
      let test : leb (depth (Calculation operation left right)) 64 ≡ true = grind (arith, nat_tests) in
      let ends : built parameters max_stack last (right ∷ left ∷ stack) ≡ Some (Calculation operation left right ∷ stack) = rw (operation_is operation, test) in
      built-append (postfix left) (postfix right ++ last) stack ∙ ap (λ next. option_and_then (built parameters max_stack (postfix right ++ last)) next) first ∙ built-append (postfix right) last (left ∷ stack) ∙ ap (λ next. option_and_then (built parameters max_stack last) next) second ∙ ends

  pub built_stack : (stack : List Formula) → AreFormulas parameters stack → stack_height stack ≤ max_stack → built parameters max_stack (stack_postfix stack) [] ≡ Some stack
  built_stack [] are room = refl
  built_stack (top ∷ below) are room =
      built-append (stack_postfix below) (postfix top) [] ∙ ap (λ next. option_and_then (built parameters max_stack (postfix top)) next) (built_stack below are.2 (omega arith)) ∙ built_formula top below are.0 are.1 (omega arith)

  -- ---- what is built is within the limits

  -- a stack is built by these instructions from another, and is within the limits
  pub record IsBuilt (stack : List Formula) (code : List Instruction) (next : List Formula) : Type 0 where
    pub form : stack_postfix next ≡ stack_postfix stack ++ code
    pub formulas : AreFormulas parameters next
    pub room : stack_height next ≤ max_stack

  pushed_is : (formula : Formula) (stack next : List Formula) → pushed max_stack formula stack ≡ Some next → (length stack < max_stack) × (next ≡ formula ∷ stack)
  pushed_is formula stack next is =
      ⊎_elim
      (λ lt. let test : ltb (length stack) max_stack ≡ true = grind (arith, nat_tests) in let e : Some (formula ∷ stack) ≡ Some next = rw test at is in (lt, cc))
      (λ le. let test : ltb (length stack) max_stack ≡ false = grind (arith, nat_tests) in let e : None ≡ Some next = rw test at is in absurd (cc))
      (cases_lt (length stack) max_stack)

  joined_is : (operation : Operation) (left right formula : Formula) → joined operation left right ≡ Some formula → (depth (Calculation operation left right) ≤ 64) × (formula ≡ Calculation operation left right)
  joined_is operation left right formula is =
      ⊎_elim
      (λ lt. let test : leb (depth (Calculation operation left right)) 64 ≡ false = grind (arith, nat_tests) in let e : None ≡ Some formula = rw test at is in absurd (cc))
      (λ le. let test : leb (depth (Calculation operation left right)) 64 ≡ true = grind (arith, nat_tests) in let e : Some (Calculation operation left right) ≡ Some formula = rw test at is in (le, cc))
      (cases_lt 64 (depth (Calculation operation left right)))

  push_built : (formula : Formula) (first : Instruction) (stack next : List Formula) → postfix formula ≡ first ∷ [] → height formula ≡ 1 → depth formula ≤ 64 → UsesParameters parameters formula → pushed max_stack formula stack ≡ Some next → AreFormulas parameters stack → stack_height stack ≤ max_stack → IsBuilt stack (first ∷ []) next
  push_built formula first stack next one high levels uses is are room =
      let e = pushed_is formula stack next is in
      rw e.1 (record { form = ap (λ list. stack_postfix stack ++ list) one; formulas = (uses, levels, are); room = omega (arith, e.0) })

  calculated_built : (operation : Operation) (stack next : List Formula) → advanced_by parameters max_stack (Some (part.Operator operation)) stack ≡ Some next → AreFormulas parameters stack → stack_height stack ≤ max_stack → IsBuilt stack (instruction.Calc (calc_of operation) kind.Int ∷ []) next
  calculated_built operation [] next is are room = absurd (cc)
  calculated_built operation (right ∷ []) next is are room = absurd (cc)
  calculated_built operation (right ∷ left ∷ below) next is are room = go (joined operation left right) refl is
    where
      last : List Instruction
      last = instruction.Calc (calc_of operation) kind.Int ∷ []

      form : stack_postfix (Calculation operation left right ∷ below) ≡ stack_postfix (right ∷ left ∷ below) ++ last
      form = sym (append_assoc (stack_postfix below ++ postfix left) (postfix right) last ∙ append_assoc (stack_postfix below) (postfix left) (postfix right ++ last))

      go : (formula : Option Formula) → joined operation left right ≡ formula → option_map (λ f. f ∷ below) formula ≡ Some next → IsBuilt (right ∷ left ∷ below) last next
      go None was e = absurd (cc)
      go (Some formula) was e =
          let j = joined_is operation left right formula was in
          let there : next ≡ Calculation operation left right ∷ below = cc in
          rw there (record { form = form; formulas = ((are.2.0, are.0), j.0, are.2.2); room = omega arith })

  loaded_built : (slot : ℕ) (stack next : List Formula) → advanced_by parameters max_stack (Some (part.Parameter slot)) stack ≡ Some next → AreFormulas parameters stack → stack_height stack ≤ max_stack → IsBuilt stack (instruction.Load kind.Int slot ∷ []) next
  loaded_built slot stack next is are room =
      ⊎_elim
      (λ lt. let test : ltb slot parameters ≡ true = grind (arith, nat_tests) in push_built (Parameter slot) (instruction.Load kind.Int slot) stack next refl refl (omega arith) lt (rw test at is) are room)
      (λ le. let test : ltb slot parameters ≡ false = grind (arith, nat_tests) in let e : None ≡ Some next = rw test at is in absurd (cc))
      (cases_lt slot parameters)

  part_built : (one : Part) (stack next : List Formula) → advanced_by parameters max_stack (Some one) stack ≡ Some next → AreFormulas parameters stack → stack_height stack ≤ max_stack → IsBuilt stack (instruction_of one ∷ []) next
  part_built (part.Number number) stack next is are room =
      push_built (Number number) (instruction.Push (constant.Int number)) stack next refl refl (omega arith) tt is are room
  part_built (part.Parameter slot) stack next is are room = loaded_built slot stack next is are room
  part_built (part.Operator operation) stack next is are room = calculated_built operation stack next is are room
  part_built part.Return stack next is are room = absurd (cc)

  advanced_built : (first : Instruction) (stack next : List Formula) → advanced parameters max_stack first stack ≡ Some next → AreFormulas parameters stack → stack_height stack ≤ max_stack → IsBuilt stack (first ∷ []) next
  advanced_built first stack next is are room = go (part_of first) refl is
    where
      go : (found : Option Part) → part_of first ≡ found → advanced_by parameters max_stack found stack ≡ Some next → IsBuilt stack (first ∷ []) next
      go None was e = absurd (cc)
      go (Some one) was e = subst (λ i. IsBuilt stack (i ∷ []) next) (sym (part_is first one was)) (part_built one stack next e are room)

  pub built_within : (code : List Instruction) (stack next : List Formula) → built parameters max_stack code stack ≡ Some next → AreFormulas parameters stack → stack_height stack ≤ max_stack → IsBuilt stack code next
  built_within [] stack next is are room =
      let same : next ≡ stack = cc in
      rw same (record { form = sym (append-nil (stack_postfix stack)); formulas = are; room = room })
  built_within (first ∷ rest) stack next is are room = go (advanced parameters max_stack first stack) refl is (built_within rest)
    where
      go : (middle : Option (List Formula)) → advanced parameters max_stack first stack ≡ middle → option_and_then (built parameters max_stack rest) middle ≡ Some next → ((from to : List Formula) → built parameters max_stack rest from ≡ Some to → AreFormulas parameters from → stack_height from ≤ max_stack → IsBuilt from rest to) → IsBuilt stack (first ∷ rest) next
      go None was e later = absurd (cc)
      go (Some middle) was e later =
          let one = advanced_built first stack middle was are room in
          let more = later middle next e one.formulas one.room in
          record { form = more.form ∙ ap (λ list. list ++ rest) one.form ∙ append_assoc (stack_postfix stack) (first ∷ []) rest; formulas = more.formulas; room = more.room }
