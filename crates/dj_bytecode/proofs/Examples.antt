-- What code shows at worked examples, by computation: a wrong definition is refused here.
use Rattle.std.proofs.Common.{◌≡◌, false, List, [], ◌∷◌, Some, None, refl}
use Rattle.std.specs.Prelude.{pos, negsuc, codes}
use Rattle.dj_names.specs.Types as types
use Rattle.dj_names.specs.declared.header.Header.{Header}
use Rattle.dj_names.specs.Types.{Class, Array, Method}
use Rattle.dj_names.specs.declared.members.Constant.TheVariants as constant
use Rattle.dj_values.specs.Values.{RefValue, Numbered, Value, Int, Null, Ref, Static, Action, ArrayLoad, Invoke, Trap, Given, Thrown, More, Return, Throw}
use Rattle.dj_values.specs.Outcomes.{Throws, State, Is, Stops}
use Rattle.dj_instructions.specs.declared.kinds.Kind.TheVariants as kind
use Rattle.dj_instructions.specs.declared.kinds.Element.TheVariants as element
use Rattle.dj_instructions.specs.declared.kinds.Calc.TheVariants as calc
use Rattle.dj_instructions.specs.declared.kinds.Test.TheVariants as test
use Rattle.dj_instructions.specs.Instructions as op
use Rattle.dj_instructions.specs.Instructions.{Instructions, MethodRef}
use Rattle.dj_code.specs.declared.method_code.Handler.{Handler}
use Rattle.dj_code.specs.MethodCode.{Code}
use Rattle.dj_bytecode.specs.Machine.{Locals, Before, caught, bytecode_show}

-- ---- a difference

-- `static int f(int, int)` of this code
abbrev method : Instructions → List Handler → Code
method instructions handlers = record {
  class = codes "C";
  name = codes "f";
  flags = 0x0008;
  interface = false;
  descriptor = Method (types.Int ∷ types.Int ∷ []) (Some types.Int);
  thrown = [];
  max_stack = 2;
  max_locals = 2;
  instructions = instructions;
  handlers = handlers;
  frames = [];
}

-- `p0 - p1` as code
abbrev difference : List Handler → Code
difference = method ((0, op.Load kind.Int 0) ∷ (1, op.Load kind.Int 1) ∷ (2, op.Calc calc.Sub kind.Int) ∷ (3, op.Return (Some kind.Int)) ∷ [])

-- two arguments
abbrev arguments : List Value
arguments = Int (pos 5) ∷ Int (pos 7) ∷ []

-- after four steps it has returned
four_steps_return : bytecode_show [] (difference []) arguments [] 4 ≡ record { actions = []; end = Return (Some (Int (negsuc 1))) }
four_steps_return = refl

-- after three it goes on
three_steps_go_on : bytecode_show [] (difference []) arguments [] 3 ≡ record { actions = []; end = More }
three_steps_go_on = refl

-- ---- a handler

-- what is thrown
abbrev thrown : RefValue
thrown = record { id = Numbered 1; class = Class (codes "E"); length = 0 }

-- the difference under a handler of all exceptions, whose range has the offsets 1 and 2
abbrev guarded : Code
guarded = difference (record { start = 1; end = 3; target = 3; class = None } ∷ [])

-- an exception within the range goes on in the handler
a_handler_takes : (state : State Locals)
    → caught [] guarded 2 (Stops (Throws thrown) state) ≡ Is (Before ((3, op.Return (Some kind.Int)) ∷ []) (Ref thrown ∷ [])) state
a_handler_takes state = refl

-- the range doesn't have its end
a_range_ends_before_its_end : (state : State Locals) → caught [] guarded 3 (Stops (Throws thrown) state) ≡ Stops (Throws thrown) state
a_range_ends_before_its_end state = refl

-- one of a class takes what is of that class
a_handler_takes_its_class : (state : State Locals)
    → caught [] (difference (record { start = 0; end = 3; target = 3; class = Some (codes "E") } ∷ [])) 0 (Stops (Throws thrown) state)
    ≡ Is (Before ((3, op.Return (Some kind.Int)) ∷ []) (Ref thrown ∷ [])) state
a_handler_takes_its_class state = refl

-- of two that take, the first does
the_first_handler_takes : (state : State Locals)
    → caught [] (difference (record { start = 0; end = 3; target = 1; class = Some (codes "F") } ∷ record { start = 0; end = 3; target = 3; class = Some (codes "E") } ∷ record { start = 0; end = 3; target = 2; class = None } ∷ [])) 0 (Stops (Throws thrown) state)
    ≡ Is (Before ((3, op.Return (Some kind.Int)) ∷ []) (Ref thrown ∷ [])) state
the_first_handler_takes state = refl

-- ---- jumps, stores and traps

-- `i = 0; while (i < p0) { i += p1; } return i;`
abbrev loop : Code
loop = method ((0, op.Push (constant.Int (pos 0))) ∷ (1, op.Store kind.Int 2) ∷ (2, op.Load kind.Int 2) ∷ (3, op.Load kind.Int 0) ∷ (4, op.IfInts test.Ge 14)
    ∷ (7, op.Load kind.Int 2) ∷ (8, op.Load kind.Int 1) ∷ (9, op.Calc calc.Add kind.Int) ∷ (10, op.Store kind.Int 2) ∷ (11, op.Goto 2) ∷ (14, op.Load kind.Int 2) ∷ (15, op.Return (Some kind.Int)) ∷ []) []

-- one turn: seven steps to the test and back, and five to the end
one_turn : bytecode_show [] (record loop { max_locals = 3 }) arguments [] 15 ≡ record { actions = []; end = Return (Some (Int (pos 7))) }
one_turn = refl

-- a division by 0 shows its trap, and goes on where nothing answers it
a_trap_is_shown : bytecode_show [] (method ((0, op.Load kind.Int 0) ∷ (1, op.Push (constant.Int (pos 0))) ∷ (2, op.Calc calc.Div kind.Int) ∷ (3, op.Return (Some kind.Int)) ∷ []) []) arguments [] 9
    ≡ record { actions = Trap (codes "java/lang/ArithmeticException") ∷ []; end = More }
a_trap_is_shown = refl

-- what pushes a float isn't run
a_float_goes_on : bytecode_show [] (method ((0, op.Load kind.Int 0) ∷ (1, op.Convert kind.Int types.Float) ∷ (2, op.Pop) ∷ (3, op.Return None) ∷ []) []) arguments [] 9 ≡ record { actions = []; end = More }
a_float_goes_on = refl

-- ---- ten instructions, run with answers

-- `static int f(int[])`: an element shifted, and a call of it, whose exception is caught
abbrev called : Code
called = record (method ((0, op.Load kind.Ref 0) ∷ (1, op.Push (constant.Int (pos 1))) ∷ (2, op.ArrayLoad element.Int) ∷ (3, op.Push (constant.Int (pos 33))) ∷ (5, op.Calc calc.Shl kind.Int)
    ∷ (6, op.InvokeStatic callee) ∷ (9, op.Return (Some kind.Int)) ∷ (10, op.Pop) ∷ (11, op.Push (constant.Int (negsuc 0))) ∷ (12, op.Return (Some kind.Int)) ∷ [])
    (record { start = 6; end = 9; target = 10; class = None } ∷ [])) { descriptor = Method (Array types.Int ∷ []) (Some types.Int); max_locals = 1 }
  where
    callee : MethodRef
    callee = record { owner = Class (codes "C"); interface = false; name = codes "g"; descriptor = Method (types.Int ∷ []) (Some types.Int) }

-- the classes that run: what is thrown is below Throwable, and so is what null traps with
abbrev classes : List Header
classes =
    record { name = codes "E"; superclass = Some (codes "java/lang/Throwable"); interfaces = []; flags = 0x0021 }
    ∷ record { name = codes "java/lang/NullPointerException"; superclass = Some (codes "java/lang/Throwable"); interfaces = []; flags = 0x0021 }
    ∷ []

-- an array of two ints
abbrev two_ints : RefValue
two_ints = record { id = Numbered 2; class = Array types.Int; length = 2 }

-- what the run does to the outside
abbrev element_asked : Action
element_asked = ArrayLoad two_ints (pos 1)

abbrev call_asked : Action
call_asked = Invoke Static (Class (codes "C")) (codes "g") (Method (types.Int ∷ []) (Some types.Int)) (Int (pos 10) ∷ [])

nine_steps_return : bytecode_show classes called (Ref two_ints ∷ []) (Given (Int (pos 5)) ∷ Thrown thrown ∷ []) 9 ≡ record { actions = element_asked ∷ call_asked ∷ []; end = Return (Some (Int (negsuc 0))) }
nine_steps_return = refl

eight_steps_go_on : bytecode_show classes called (Ref two_ints ∷ []) (Given (Int (pos 5)) ∷ Thrown thrown ∷ []) 8 ≡ record { actions = element_asked ∷ call_asked ∷ []; end = More }
eight_steps_go_on = refl

-- an answer that isn't an int isn't taken
no_answer_is_taken : bytecode_show classes called (Ref two_ints ∷ []) (Given Null ∷ Thrown thrown ∷ []) 9 ≡ record { actions = element_asked ∷ []; end = More }
no_answer_is_taken = refl

-- null has no elements, and the exception leaves the method
abbrev of_null : RefValue
of_null = record { id = Numbered 3; class = Class (codes "java/lang/NullPointerException"); length = 0 }

null_traps : bytecode_show classes called (Null ∷ []) (Thrown of_null ∷ []) 9 ≡ record { actions = Trap (codes "java/lang/NullPointerException") ∷ []; end = Throw of_null }
null_traps = refl
