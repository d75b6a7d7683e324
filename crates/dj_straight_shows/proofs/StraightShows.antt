-- The body of a straight method shows what its code shows.
use Rattle.std.proofs.Common.{◌≡◌, ℕ, zero, suc, ◌-◌, ◌<◌, ◌≤◌, ◌==◌, Bool, true, false, not, List, [], ◌∷◌, ◌++◌, inl, length, map, replicate, Option, Some, None, refl, sym, ap, ◌∙◌, subst, arith, append_assoc}
use Rattle.std.specs.Prelude.{ℤ, pos, slice_get, slice_index_or, bit_and, bit_or, if◌then◌else◌}
use Rattle.std.specs.Int.{w32, int_wrapping_add, int_wrapping_sub, int_wrapping_mul}
use Rattle.std.proofs.lemmas.Nat.{and_assoc, and_or_apart}
use Rattle.dj_names.specs.declared.header.Header.{Header}
use Rattle.dj_names.specs.declared.members.ClassMembers.{ClassMembers}
use Rattle.dj_names.specs.Types as types
use Rattle.dj_names.specs.Types.{JType, Method, Of, parameters_of, result_of}
use Rattle.dj_names.specs.declared.members.Constant.TheVariants as constant
use Rattle.dj_syntax.specs.declared.variable.Var.{Var}
use Rattle.dj_syntax.specs.declared.variable.VarKind.TheVariants as variable
use Rattle.dj_syntax.specs.Trees.{Exp, Body, Empty, And}
use Rattle.dj_syntax.specs.Trees as trees
use Rattle.dj_syntax.specs.UnitText.{is_initialiser, is_interface, method_bits}
use Rattle.dj_syntax.specs.WellFormed.{held_method}
use Rattle.dj_values.specs.Values.{Value, Int, Long, Null, Ref, Answer, Show, IsBelow}
use Rattle.dj_values.specs.Values as ends
use Rattle.dj_values.specs.Fits.{AreValuesOf, is_static, behind_this}
use Rattle.dj_values.specs.Outcomes.{State, Outcome, Is, bind, opening, shown}
use Rattle.dj_class.specs.Described.{ClassOf, MethodOf}
use Rattle.dj_instructions.specs.declared.kinds.Kind.TheVariants as kind
use Rattle.dj_instructions.specs.Instructions.{Instruction, Instructions}
use Rattle.dj_instructions.specs.Instructions as instruction
use Rattle.dj_code.specs.MethodCode.{Code}
use Rattle.dj_code.specs.ReadCode.{HasHead}
use Rattle.dj_meaning.specs.Operators.{operate}
use Rattle.dj_meaning.specs.Promotions.{typing_of, becomes_floating}
use Rattle.dj_meaning.specs.StaticTypes.{Context, Scope, plain, type_of}
use Rattle.dj_meaning.specs.Runs.{Store, Meaning}
use Rattle.dj_meaning.specs.Expressions.{floating, value}
use Rattle.dj_meaning.specs.Completions.{Return}
use Rattle.dj_meaning.specs.Meaning.{run_statements, ended, of_parameter, context_of, entered, source_show}
use Rattle.dj_bytecode.specs.Machine.{Locals, local_slots, steps, slots_of, first_locals, bytecode_show}
use Rattle.dj_bytecode.specs.SameShows.{AreArgumentsOf, SameShows}
use Rattle.dj_bytecode.proofs.Growth.{more_shows_more}
use Rattle.dj_straight.specs.declared.part.Operation.{Operation}
use Rattle.dj_straight.specs.declared.part.Operation.TheVariants.{Add, Sub, Mul}
use Rattle.dj_straight.specs.Straight.{Formula, Number, Parameter, Calculation, calc_of, operator, exp_of, postfix, UsesParameters}
use Rattle.dj_straight.specs.StraightMethod.{IsStraightMethod, IsBodyOf, with_body}

-- ---- numbers

-- the number at a place, and 0 past the end
abbrev number_at : List ℤ → ℕ → ℤ
number_at [] place = pos 0
number_at (first ∷ rest) zero = first
number_at (first ∷ rest) (suc place) = number_at rest place

-- what an operation makes of two ints
abbrev calculate : Operation → ℤ → ℤ → ℤ
calculate Add left right = int_wrapping_add w32 left right
calculate Sub left right = int_wrapping_sub w32 left right
calculate Mul left right = int_wrapping_mul w32 left right

-- the number that a formula stands for, given the arguments
abbrev meaning : List ℤ → Formula → ℤ
meaning arguments (Number number) = number
meaning arguments (Parameter slot) = number_at arguments slot
meaning arguments (Calculation operation left right) = calculate operation (meaning arguments left) (meaning arguments right)

-- ints as values
abbrev ints : List ℤ → List Value
ints [] = []
ints (first ∷ rest) = Int first ∷ ints rest

-- values that are all ints
record AreInts (count : ℕ) (values : List Value) : Type 0 where
  numbers : List ℤ
  are : values ≡ ints numbers
  as_many : length numbers ≡ count

AreInts-cons : (count : ℕ) (number : ℤ) (values : List Value) → AreInts count values → AreInts (suc count) (Int number ∷ values)
AreInts-cons count number values h = record { numbers = number ∷ h.numbers; are = ap (λ list. Int number ∷ list) h.are; as_many = ap suc h.as_many }

AreInts-of : (headers : List Header) (count : ℕ) (values : List Value) → AreValuesOf headers (replicate count types.Int) values → AreInts count values
AreInts-of headers zero [] h = record { numbers = []; are = refl; as_many = refl }
AreInts-of headers zero (value ∷ values) h = absurd h
AreInts-of headers (suc count) [] h = absurd h
AreInts-of headers (suc count) (Int number ∷ values) h = AreInts-cons count number values (AreInts-of headers count values h.1)
AreInts-of headers (suc count) (Long number ∷ values) h = absurd (wrong h.0.0)
  where
    wrong : types.Int ≡ types.Long → ⊥
    wrong e = cc
AreInts-of headers (suc count) (Null ∷ values) h = absurd h.0
AreInts-of headers (suc count) (Ref reference ∷ values) h = absurd h.0.wanted

-- the local of an argument, whatever locals stand behind
slot-is : (numbers : List ℤ) (behind : Locals) (slot : ℕ) → slot < length numbers → slice_index_or (slots_of (ints numbers) ++ behind) slot None ≡ Some (Int (number_at numbers slot))
slot-is [] behind slot within = absurd (omega arith)
slot-is (first ∷ rest) behind zero within = refl
slot-is (first ∷ rest) behind (suc slot) within = slot-is rest behind slot (omega arith)

argument-is : (numbers : List ℤ) (slot : ℕ) → slot < length numbers → slice_get (ints numbers) slot ≡ Some (Int (number_at numbers slot))
argument-is [] slot within = absurd (omega arith)
argument-is (first ∷ rest) zero within = refl
argument-is (first ∷ rest) (suc slot) within = argument-is rest slot (omega arith)

type-is : (count slot : ℕ) → slot < count → slice_get (replicate count types.Int) slot ≡ Some types.Int
type-is zero slot within = absurd (omega arith)
type-is (suc count) zero within = refl
type-is (suc count) (suc slot) within = type-is count slot (omega arith)

-- what the text of a method shows of its flags, and what it implies beside them, keep whether it is static
static_shown : (flags bits implied : ℕ) → bit_and bits 0x0008 ≡ 0x0008 → bit_and implied 0x0008 ≡ 0 → is_static (bit_or (bit_and flags bits) implied) ≡ is_static flags
static_shown flags bits implied shown apart =
    ap (λ static. not (static == 0)) (and_or_apart 0x0008 (bit_and flags bits) implied apart ∙ and_assoc 0x0008 flags bits ∙ ap (bit_and flags) shown)

-- the flags of a body say that its method is static
static_held : (interface : Bool) (method : MethodOf) (body : Body) → is_static method.flags ≡ true → is_static (held_method interface (with_body method body)) ≡ true
static_held interface method body static = go interface (is_initialiser method.name)
  where
    go : (i initialiser : Bool) → is_static (if initialiser then 0x0008 else bit_or (bit_and method.flags (method_bits i)) (if i then 0x0001 else 0)) ≡ true
    go i true = refl
    go true false = static_shown method.flags 0x0008 0x0001 refl refl ∙ static
    go false false = static_shown method.flags 0x053f 0 refl refl ∙ static

-- a method has returned this number, and nothing else was seen
abbrev returned : ℤ → Show
returned number = record { actions = []; end = ends.Return (Some (Int number)) }

-- ---- the source

-- the variable of a parameter
abbrev parameter : ℕ → Var
parameter slot = record { kind = variable.Param; number = slot }

-- parameters are ints in scope, and have these numbers
record HasParameters (numbers : List ℤ) (scope : Scope) (state : State Store) : Type 0 where
  typed : (slot : ℕ) → slot < length numbers → scope (parameter slot) ≡ Some types.Int
  found : (slot : ℕ) → slot < length numbers → state.store.variables (parameter slot) ≡ Some (Int (number_at numbers slot))

-- a formula has the type int
int-is : (context : Context) (scope : Scope) (numbers : List ℤ) (formula : Formula) (state : State Store) → HasParameters numbers scope state → UsesParameters (length numbers) formula
    → type_of context scope (exp_of formula) ≡ Some (Of types.Int)
int-is context scope numbers (Number number) state has uses = refl
int-is context scope numbers (Parameter slot) state has uses = rw (has.typed slot uses)
int-is context scope numbers (Calculation Add left right) state has uses = rw (int-is context scope numbers left state has uses.0, int-is context scope numbers right state has uses.1)
int-is context scope numbers (Calculation Sub left right) state has uses = rw (int-is context scope numbers left state has uses.0, int-is context scope numbers right state has uses.1)
int-is context scope numbers (Calculation Mul left right) state has uses = rw (int-is context scope numbers left state has uses.0, int-is context scope numbers right state has uses.1)

-- so its operands become no floats
no_floats : (operation : Operation) → becomes_floating (typing_of (operator operation)) (Some types.Int) (Some types.Int) ≡ false
no_floats Add = refl
no_floats Sub = refl
no_floats Mul = refl

left-is : (context : Context) (scope : Scope) (operation : Operation) (left right : Exp) (part : Meaning Value) → type_of context scope left ≡ Some (Of types.Int) → type_of context scope right ≡ Some (Of types.Int)
    → floating (becomes_floating (typing_of (operator operation)) (plain (type_of context scope left)) (plain (type_of context scope right))) part ≡ part
left-is context scope operation left right part a b =
    ap (λ becomes. floating becomes part)
    (ap (λ one. becomes_floating (typing_of (operator operation)) (plain one) (plain (type_of context scope right))) a
    ∙ ap (λ one. becomes_floating (typing_of (operator operation)) (Some types.Int) (plain one)) b ∙ no_floats operation)

-- an operator on two ints
calculates : (headers : List Header) (operation : Operation) (left right : ℤ) (first second : Meaning Value) (state : State Store) → first state ≡ Is (Int left) state → second state ≡ Is (Int right) state
    → operate headers (operator operation) first second state ≡ Is (Int (calculate operation left right)) state
calculates headers Add left right first second state a b = rw (a, b)
calculates headers Sub left right first second state a b = rw (a, b)
calculates headers Mul left right first second state a b = rw (a, b)

-- a formula has its number as its value
value-is : (context : Context) (scope : Scope) (numbers : List ℤ) (formula : Formula) (state : State Store) → HasParameters numbers scope state → UsesParameters (length numbers) formula
    → value context scope (exp_of formula) state ≡ Is (Int (meaning numbers formula)) state
value-is context scope numbers (Number number) state has uses = refl
value-is context scope numbers (Parameter slot) state has uses = rw (has.typed slot uses, has.found slot uses)
value-is context scope numbers (Calculation operation left right) state has uses =
    let plainly = left-is context scope operation (exp_of left) (exp_of right) (value context scope (exp_of left)) (int-is context scope numbers left state has uses.0) (int-is context scope numbers right state has uses.1) in
    ap (λ part. operate context.headers (operator operation) part (value context scope (exp_of right)) state) plainly
    ∙ calculates context.headers operation (meaning numbers left) (meaning numbers right) (value context scope (exp_of left)) (value context scope (exp_of right)) state (value-is context scope numbers left state has uses.0) (value-is context scope numbers right state has uses.1)

-- a statement that returns an int, where the method's result is int
returns-int : (context : Context) (scope : Scope) (turns : ℕ) (exp : Exp) (number : ℤ) (state : State Store) → context.result ≡ Some types.Int → value context scope exp state ≡ Is (Int number) state
    → run_statements context scope turns (And (trees.Return (Some exp)) Empty) state ≡ Is (Return (Some (Int number))) state
returns-int context scope turns exp number state int is = rw (is, int)

source-is : (headers : List Header) (members : List ClassMembers) (numbers : List ℤ) (formula : Formula) (body : Body) (answers : List Answer) (turns : ℕ) → UsesParameters (length numbers) formula → is_static body.flags ≡ true
    → body.descriptor ≡ Method (replicate (length numbers) types.Int) (Some types.Int) → body.statements ≡ And (trees.Return (Some (exp_of formula))) Empty
    → source_show headers members body (ints numbers) answers turns ≡ returned (meaning numbers formula)
source-is headers members numbers formula body answers turns uses static descriptor one =
    let number = meaning numbers formula in
    let context = context_of headers members body (ints numbers) in
    let scope : Scope = of_parameter (parameters_of body.descriptor) in
    let state = entered (behind_this (is_static body.flags) (ints numbers)) answers in
    let int : result_of body.descriptor ≡ Some types.Int = ap result_of descriptor in
    let has : HasParameters numbers scope state = record {
      typed = λ slot within. ap (λ these. slice_get (parameters_of these) slot) descriptor ∙ type-is (length numbers) slot within;
      found = λ slot within. ap (λ flag. slice_get (behind_this flag (ints numbers)) slot) static ∙ argument-is numbers slot within;
    } in
    let ran : run_statements context scope turns body.statements state ≡ Is (Return (Some (Int number))) state =
    ap (λ list. run_statements context scope turns list state) one ∙ returns-int context scope turns (exp_of formula) number state int (value-is context scope numbers formula state has uses) in
    ap (λ outcome. shown (bind outcome (ended (result_of body.descriptor)))) ran ∙ ap (λ result. shown (ended result (Return (Some (Int number))) state)) int

-- ---- the code

-- the steps that a formula's instructions take, and so many others
abbrev with_formula : Formula → ℕ → ℕ
with_formula (Number number) more = suc more
with_formula (Parameter slot) more = suc more
with_formula (Calculation operation left right) more = with_formula left (with_formula right (suc more))

no_fewer : (formula : Formula) (more : ℕ) → more ≤ with_formula formula more
no_fewer (Number number) more = omega arith
no_fewer (Parameter slot) more = omega arith
no_fewer (Calculation operation left right) more = omega (arith, no_fewer left (with_formula right (suc more)), no_fewer right (suc more))

module _ (headers : List Header) (code : Code) (numbers : List ℤ) (state : State Locals) (loaded : (slot : ℕ) → slot < length numbers → slice_index_or state.store slot None ≡ Some (Int (number_at numbers slot))) where
  -- so many steps from the first of these instructions on, with a stack
  abbrev run : ℕ → Instructions → List Value → Outcome Locals (Option Value)
  run bound rest stack = steps headers local_slots code bound rest stack state

  -- these instructions lead to those, with another stack, in a number of steps that depends on how many follow
  record Leads (rest : List Instruction) (tail : Instructions) (stack next : List Value) (bound : ℕ → ℕ) : Type 0 where
    left : Instructions
    spelled : map (λ i. i.1) left ≡ rest
    ran : (more : ℕ) → run (bound more) tail stack ≡ run more left next

  leads-join : (middle rest : List Instruction) (tail : Instructions) (a b c : List Value) (f g : ℕ → ℕ) → (first : Leads middle tail a b f) → Leads rest first.left b c g → Leads rest tail a c (λ more. f (g more))
  leads-join middle rest tail a b c f g first second = record {
    left = second.left;
    spelled = second.spelled;
    ran = λ more. first.ran (g more) ∙ second.ran more;
  }

  pushes : (number : ℤ) (stack : List Value) (tail : Instructions) (rest : List Instruction) → map (λ i. i.1) tail ≡ instruction.Push (constant.Int number) ∷ rest → Leads rest tail stack (Int number ∷ stack) (λ more. suc more)
  pushes number stack [] rest is = absurd (cc)
  pushes number stack (first ∷ tail) rest is =
      let here : first.1 ≡ instruction.Push (constant.Int number) = cc in
      record { left = tail; spelled = cc; ran = λ more. subst (λ i. run (suc more) ((first.0, i) ∷ tail) stack ≡ run more tail (Int number ∷ stack)) (sym here) refl }

  loads : (slot : ℕ) (stack : List Value) (tail : Instructions) (rest : List Instruction) → slot < length numbers → map (λ i. i.1) tail ≡ instruction.Load kind.Int slot ∷ rest → Leads rest tail stack (Int (number_at numbers slot) ∷ stack) (λ more. suc more)
  loads slot stack [] rest within is = absurd (cc)
  loads slot stack (first ∷ tail) rest within is =
      let here : first.1 ≡ instruction.Load kind.Int slot = cc in
      let found = loaded slot within in
      record { left = tail; spelled = cc; ran = λ more. subst (λ i. run (suc more) ((first.0, i) ∷ tail) stack ≡ run more tail (Int (number_at numbers slot) ∷ stack)) (sym here) (rw found refl) }

  calculations : (operation : Operation) (left right : ℤ) (stack : List Value) (tail : Instructions) (rest : List Instruction) → map (λ i. i.1) tail ≡ instruction.Calc (calc_of operation) kind.Int ∷ rest → Leads rest tail (Int right ∷ Int left ∷ stack) (Int (calculate operation left right) ∷ stack) (λ more. suc more)
  calculations operation left right stack [] rest is = absurd (cc)
  calculations operation left right stack (first ∷ tail) rest is =
      let here : first.1 ≡ instruction.Calc (calc_of operation) kind.Int = cc in
      record { left = tail; spelled = cc; ran = λ more. by operation here more }
    where
      by : (one : Operation) → first.1 ≡ instruction.Calc (calc_of one) kind.Int → (more : ℕ) → run (suc more) (first ∷ tail) (Int right ∷ Int left ∷ stack) ≡ run more tail (Int (calculate one left right) ∷ stack)
      by Add here more = subst (λ i. run (suc more) ((first.0, i) ∷ tail) (Int right ∷ Int left ∷ stack) ≡ run more tail (Int (calculate Add left right) ∷ stack)) (sym here) refl
      by Sub here more = subst (λ i. run (suc more) ((first.0, i) ∷ tail) (Int right ∷ Int left ∷ stack) ≡ run more tail (Int (calculate Sub left right) ∷ stack)) (sym here) refl
      by Mul here more = subst (λ i. run (suc more) ((first.0, i) ∷ tail) (Int right ∷ Int left ∷ stack) ≡ run more tail (Int (calculate Mul left right) ∷ stack)) (sym here) refl

  -- the code of a formula puts its number on the stack
  leads : (formula : Formula) (stack : List Value) (tail : Instructions) (rest : List Instruction) → UsesParameters (length numbers) formula → map (λ i. i.1) tail ≡ postfix formula ++ rest → Leads rest tail stack (Int (meaning numbers formula) ∷ stack) (with_formula formula)
  leads (Number number) stack tail rest uses is = pushes number stack tail rest is
  leads (Parameter slot) stack tail rest uses is = loads slot stack tail rest uses is
  leads (Calculation operation left right) stack tail rest uses is =
      let x = meaning numbers left in
      let y = meaning numbers right in
      let last : List Instruction = instruction.Calc (calc_of operation) kind.Int ∷ rest in
      let regroup : postfix (Calculation operation left right) ++ rest ≡ postfix left ++ (postfix right ++ last) = append_assoc (postfix left) (postfix right ++ instruction.Calc (calc_of operation) kind.Int ∷ []) rest ∙ ap (λ list. postfix left ++ list) (append_assoc (postfix right) (instruction.Calc (calc_of operation) kind.Int ∷ []) rest) in
      let one = leads left stack tail (postfix right ++ last) uses.0 (is ∙ regroup) in
      let two = leads right (Int x ∷ stack) one.left last uses.1 one.spelled in
      let three = calculations operation x y stack two.left rest two.spelled in
      leads-join (postfix right ++ last) rest tail stack (Int x ∷ stack) (Int (calculate operation x y) ∷ stack) (with_formula left) (λ more. with_formula right (suc more)) one
      (leads-join last rest one.left (Int x ∷ stack) (Int y ∷ Int x ∷ stack) (Int (calculate operation x y) ∷ stack) (with_formula right) (λ more. suc more) two three)

  -- `ireturn` ends the run
  ends_with : (number : ℤ) (tail : Instructions) → result_of code.descriptor ≡ Some types.Int → map (λ i. i.1) tail ≡ instruction.Return (Some kind.Int) ∷ []
      → (more : ℕ) → run (suc more) tail (Int number ∷ []) ≡ Is (Some (Int number)) state
  ends_with number [] int is more = absurd (cc)
  ends_with number (first ∷ rest) int is more =
      let here : first.1 ≡ instruction.Return (Some kind.Int) = cc in
      subst (λ i. run (suc more) ((first.0, i) ∷ rest) (Int number ∷ []) ≡ Is (Some (Int number)) state) (sym here) (rw int refl)

-- the code has returned a number after so many steps, not fewer than these
record Returns (headers : List Header) (code : Code) (arguments : List Value) (answers : List Answer) (number : ℤ) (least : ℕ) : Type 0 where
  bound : ℕ
  enough : least ≤ bound
  shows : bytecode_show headers code arguments answers bound ≡ returned number

code-is : (headers : List Header) (code : Code) (numbers : List ℤ) (formula : Formula) (answers : List Answer) (least : ℕ) → UsesParameters (length numbers) formula → result_of code.descriptor ≡ Some types.Int
    → map (λ i. i.1) code.instructions ≡ postfix formula ++ instruction.Return (Some kind.Int) ∷ [] → Returns headers code (ints numbers) answers (meaning numbers formula) least
code-is headers code numbers formula answers least uses int is =
    let behind : Locals = replicate (code.max_locals - length (slots_of (ints numbers))) None in
    let state : State Locals = record { store = first_locals code.max_locals (ints numbers); world = opening answers } in
    let goes = leads headers code numbers state (slot-is numbers behind) formula [] code.instructions (instruction.Return (Some kind.Int) ∷ []) uses is in
    let ends = ends_with headers code numbers state (slot-is numbers behind) (meaning numbers formula) goes.left int goes.spelled least in
    record { bound = with_formula formula (suc least); enough = omega (arith, no_fewer formula (suc least)); shows = ap shown (goes.ran (suc least) ∙ ends) }

-- ---- both

module _ (class : ClassOf) (before : List MethodOf) (method : MethodOf) (exp : Exp) (body : Body) (members : List ClassMembers) (straight : IsStraightMethod class before method exp) (of_method : IsBodyOf class method exp body) where
  abbrev code : Code
  code = straight.code

  abbrev of_code : HasHead class method straight.spelled.content straight.code
  of_code = straight.spelled.head

  -- arguments that fit are ints, one for each parameter
  arguments-are : (headers : List Header) (arguments : List Value) → AreArgumentsOf headers code arguments → AreInts straight.parameters arguments
  arguments-are headers arguments fit =
      let static : is_static code.flags ≡ true = ap is_static of_code.flags ∙ straight.candidate.static in
      let parameters : parameters_of code.descriptor ≡ replicate straight.parameters types.Int = ap parameters_of (of_code.descriptor ∙ straight.candidate.descriptor) in
      AreInts-of headers straight.parameters arguments (rw (static, parameters) at fit)

  uses : (numbers : List ℤ) → length numbers ≡ straight.parameters → UsesParameters (length numbers) straight.formula
  uses numbers as_many = rw as_many straight.postfix.straight.slots

  source_returns : (headers : List Header) (numbers : List ℤ) (answers : List Answer) (turns : ℕ) → length numbers ≡ straight.parameters → source_show headers members body (ints numbers) answers turns ≡ returned (meaning numbers straight.formula)
  source_returns headers numbers answers turns as_many =
      let static : is_static body.flags ≡ true = ap is_static of_method.flags ∙ static_held (is_interface class.flags) method body straight.candidate.static in
      let descriptor : body.descriptor ≡ Method (replicate (length numbers) types.Int) (Some types.Int) = of_method.descriptor ∙ straight.candidate.descriptor ∙ ap (λ n. Method (replicate n types.Int) (Some types.Int)) (sym as_many) in
      let one : body.statements ≡ And (trees.Return (Some (exp_of straight.formula))) Empty = of_method.returns ∙ ap (λ value. And (trees.Return (Some value)) Empty) straight.tree in
      source-is headers members numbers straight.formula body answers turns (uses numbers as_many) static descriptor one

  code_returns : (headers : List Header) (numbers : List ℤ) (answers : List Answer) (least : ℕ) → length numbers ≡ straight.parameters → Returns headers code (ints numbers) answers (meaning numbers straight.formula) least
  code_returns headers numbers answers least as_many =
      let int : result_of code.descriptor ≡ Some types.Int = ap result_of (of_code.descriptor ∙ straight.candidate.descriptor) in
      code-is headers code numbers straight.formula answers least (uses numbers as_many) int straight.postfix.straight.form

  forth : (headers : List Header) (numbers : List ℤ) (answers : List Answer) (bound : ℕ) → length numbers ≡ straight.parameters → (turns : ℕ) × IsBelow (bytecode_show headers code (ints numbers) answers bound) (source_show headers members body (ints numbers) answers turns)
  forth headers numbers answers bound as_many =
      let returns = code_returns headers numbers answers bound as_many in
      let more = more_shows_more headers code (ints numbers) answers bound returns.bound returns.enough in
      (0, subst (IsBelow (bytecode_show headers code (ints numbers) answers bound)) (returns.shows ∙ sym (source_returns headers numbers answers 0 as_many)) more)

  back : (headers : List Header) (numbers : List ℤ) (answers : List Answer) (turns : ℕ) → length numbers ≡ straight.parameters → (bound : ℕ) × IsBelow (source_show headers members body (ints numbers) answers turns) (bytecode_show headers code (ints numbers) answers bound)
  back headers numbers answers turns as_many =
      let returns = code_returns headers numbers answers 0 as_many in
      (returns.bound, inl (source_returns headers numbers answers turns as_many ∙ sym returns.shows))

-- a body that returns the expression of a straight method shows what the method's code shows
pub straight_methods_show : (class : ClassOf) (before : List MethodOf) (method : MethodOf) (exp : Exp) (body : Body) (world : List Header) (members : List ClassMembers)
    → (straight : IsStraightMethod class before method exp) → IsBodyOf class method exp body → SameShows world members straight.code body
straight_methods_show class before method exp body world members straight of_method = record {
  forth = λ headers may arguments fit answers bound.
      let these = arguments-are class before method exp body members straight of_method headers arguments fit in
      subst (λ values. (turns : ℕ) × IsBelow (bytecode_show headers straight.code values answers bound) (source_show headers members body values answers turns)) (sym these.are) (forth class before method exp body members straight of_method headers these.numbers answers bound these.as_many);
  back = λ headers may arguments fit answers turns.
      let these = arguments-are class before method exp body members straight of_method headers arguments fit in
      subst (λ values. (bound : ℕ) × IsBelow (source_show headers members body values answers turns) (bytecode_show headers straight.code values answers bound)) (sym these.are) (back class before method exp body members straight of_method headers these.numbers answers turns these.as_many);
}
