-- What statements show at worked examples, by computation: a wrong definition is refused here.
use Rattle.std.proofs.Common.{◌≡◌, ℕ, true, false, List, [], ◌∷◌, Some, None, refl}
use Rattle.std.specs.Prelude.{pos, codes}
use Rattle.dj_names.specs.Types as types
use Rattle.dj_names.specs.Types.{Class, Method}
use Rattle.dj_syntax.specs.declared.operator.Op.TheVariants as op
use Rattle.dj_syntax.specs.declared.variable.Var.{Var}
use Rattle.dj_syntax.specs.declared.variable.VarKind.TheVariants as kind
use Rattle.dj_syntax.specs.Trees.{Exp, Truth, This, Variable, Binary, StaticCall, Stm, Stms, Empty, And, Block, Labelled, Declare, Set, Run, If, While, Switch, Break, Continue, Throw, Rethrow, Try, Synchronized, Do, For, Finally, NoGroups, AndGroup, NoCatches, AndCatch}
use Rattle.dj_syntax.specs.Trees as trees
use Rattle.dj_values.specs.Values.{Int, Long, Static, Action, Invoke, Enter, Exit, Trap, Answer, Given, Done, Thrown, More, Return, Throw as Leaves}
use Rattle.dj_meaning.proofs.ExampleWorld.{throwable_class, null_pointer, this, exception, shows, parameter, int, local, one, only}

-- ---- what is tried

-- a local variable
abbrev variable : ℕ → Exp
variable number = Variable (local number)

-- the variable of a catch clause
abbrev caught : Var
caught = record { kind = kind.Caught; number = 0 }

-- `C.t(5)`, the only action here but those on monitors
abbrev call : ℕ → Stm
call number = Run (StaticCall (codes "C") (codes "t") (one (int number)))

-- it
abbrev act : ℕ → Action
act number = Invoke Static (Class (codes "C")) (codes "t") (Method (types.Long ∷ []) (Some types.Int)) (Long (pos number) ∷ [])

-- what it is told
abbrev told : Answer
told = Given (Int (pos 0))

-- statements of a method whose result is an int, at a bound, by so many answers, return this
abbrev return_at : ℕ → Stms → List Answer → List Action → ℕ → Type 0
return_at bound list answers actions number = shows (Some types.Int) list answers bound ≡ record { actions = actions; end = Return (Some (Int (pos number))) }

-- or go on
abbrev goes_on_at : ℕ → Stms → List Answer → List Action → Type 0
goes_on_at bound list answers actions = shows (Some types.Int) list answers bound ≡ record { actions = actions; end = More }

-- or leave by the exception
abbrev leaves : Stms → List Answer → List Action → Type 0
leaves list answers actions = shows (Some types.Int) list answers 0 ≡ record { actions = actions; end = Leaves exception }

-- `return e;`
abbrev return : Exp → Stm
return exp = trees.Return (Some exp)

-- `v0 = v0 + 1;`
abbrev next : Stm
next = Set (local 0) (Binary op.Add (variable 0) (int 1))

-- `v0 < 3`
abbrev few : Exp
few = Binary op.Lt (variable 0) (int 3)

-- `int v0 = 0;` and statements
abbrev from_zero : Stms → Stms
from_zero list = And (Declare (local 0) types.Int (Some (int 0))) list

-- ---- variables

declared_and_set : return_at 0 (from_zero (And next (only (return (variable 0))))) [] [] 1
declared_and_set = refl

-- a variable without a value, one out of scope, and one that is declared twice
no_value : goes_on_at 0 (And (Declare (local 0) types.Int None) (only (return (variable 0)))) [] []
no_value = refl

out_of_scope : goes_on_at 0 (And (Block (from_zero Empty)) (only (return (variable 0)))) [] []
out_of_scope = refl

declared_twice : goes_on_at 0 (from_zero (from_zero (only (return (variable 0))))) [] []
declared_twice = refl

-- behind a block its variable can be declared again
declared_again : return_at 0 (And (Block (from_zero (only next))) (from_zero (only (return (variable 0))))) [] [] 0
declared_again = refl

-- a declaration under a label declares nothing for what follows
abbrev labelled : Stm
labelled = Labelled 1 (Declare (local 0) types.Int (Some (int 8)))

declared_under_a_label : goes_on_at 0 (And labelled (only (return (variable 0)))) [] []
declared_under_a_label = refl

declared_behind_a_label : return_at 0 (And labelled (from_zero (only (return (variable 0))))) [] [] 0
declared_behind_a_label = refl

-- ---- choices and jumps

an_if : return_at 0 (And (If (Truth false) (only (return (int 1))) (only (call 2))) (only (return (int 3)))) (told ∷ []) (act 2 ∷ []) 3
an_if = refl

a_break : return_at 0 (And (Labelled 1 (Block (And (Break 1) (only (call 2))))) (only (return (int 3)))) [] [] 3
a_break = refl

-- a jump that no label takes
a_lost_break : goes_on_at 0 (And (Break 1) (only (return (int 3)))) [] []
a_lost_break = refl

-- a continue of a label whose statement is no loop
a_lost_continue : goes_on_at 0 (And (Labelled 1 (Block (only (Continue 1)))) (only (return (int 3)))) [] []
a_lost_continue = refl

-- ---- loops

-- three turns; the test that fails needs none
a_while : return_at 3 (from_zero (And (While few (only next)) (only (return (variable 0))))) [] [] 3
a_while = refl

a_while_that_is_cut : goes_on_at 2 (from_zero (And (While few (And (call 1) (only next))) (only (return (variable 0))))) (told ∷ told ∷ []) (act 1 ∷ act 1 ∷ [])
a_while_that_is_cut = refl

-- a continue goes to the test, a break behind the loop
a_continue : return_at 3 (from_zero (And (Labelled 1 (While few (And next (And (Continue 1) (only (call 1)))))) (only (return (variable 0))))) [] [] 3
a_continue = refl

a_break_of_a_loop : return_at 3 (from_zero (And (Labelled 1 (While (Truth true) (And next (only (Break 1))))) (only (return (variable 0))))) [] [] 1
a_break_of_a_loop = refl

-- `do` runs its body before its test
a_do : return_at 1 (from_zero (And (Do (only next) (Truth false)) (only (return (variable 0))))) [] [] 1
a_do = refl

-- it goes on while the test is true, with as many turns as `while`
a_do_that_goes_on : return_at 3 (from_zero (And (Do (only next) few) (only (return (variable 0))))) [] [] 3
a_do_that_goes_on = refl

-- a continue of its label leads to the test
a_continue_of_a_do : return_at 3 (from_zero (And (Labelled 1 (Do (And next (And (Continue 1) (only (call 1)))) few)) (only (return (variable 0))))) [] [] 3
a_continue_of_a_do = refl

-- a turn past the bound doesn't begin
a_do_that_is_cut : goes_on_at 0 (from_zero (And (Do (only (call 1)) (Truth false)) (only (return (variable 0))))) [] []
a_do_that_is_cut = refl

a_do_that_is_cut_later : goes_on_at 2 (from_zero (And (Do (And (call 1) (only next)) few) (only (return (variable 0))))) (told ∷ told ∷ told ∷ []) (act 1 ∷ act 1 ∷ [])
a_do_that_is_cut_later = refl

-- `v0 = v0 + 1` is the step of this `for`
abbrev stepped : Stms → Stm
stepped body = For few (local 0) (Binary op.Add (variable 0) (int 1)) body

-- `for` is a `while` each of whose turns ends by its step
a_for : return_at 3 (from_zero (And (stepped (only (call 1))) (only (return (variable 0))))) (told ∷ told ∷ told ∷ []) (act 1 ∷ act 1 ∷ act 1 ∷ []) 3
a_for = refl

-- a turn behind a continue of its label too
a_continue_of_a_for : return_at 3 (from_zero (And (Labelled 1 (stepped (And (Continue 1) (only (call 1))))) (only (return (variable 0))))) [] [] 3
a_continue_of_a_for = refl

-- one that ends otherwise takes no step
a_break_of_a_for : return_at 3 (from_zero (And (Labelled 1 (stepped (only (Break 1)))) (only (return (variable 0))))) [] [] 0
a_break_of_a_for = refl

a_continue_past_a_for : return_at 3 (from_zero (And (Labelled 2 (While few (And next (And (call 1) (only (Labelled 1 (stepped (only (Continue 2))))))))) (only (return (variable 0))))) (told ∷ told ∷ told ∷ []) (act 1 ∷ act 1 ∷ act 1 ∷ []) 3
a_continue_past_a_for = refl

-- it tests before the bound counts
a_for_that_is_cut : goes_on_at 2 (from_zero (And (stepped (only (call 1))) (only (return (variable 0))))) (told ∷ told ∷ told ∷ []) (act 1 ∷ act 1 ∷ [])
a_for_that_is_cut = refl

a_for_without_a_turn : return_at 0 (And (Declare (local 0) types.Int (Some (int 3))) (And (stepped (only (call 1))) (only (return (variable 0))))) [] [] 3
a_for_without_a_turn = refl

-- ---- switches

-- the second group is entered, and the third follows; what the first declares is in scope, without a value
abbrev groups : trees.Groups
groups =
    AndGroup (Some (pos 4) ∷ []) (And (Declare (local 1) types.Int (Some (int 0))) (only (call 1)))
    (AndGroup (Some (pos 5) ∷ Some (pos 6) ∷ []) (And (Set (local 1) (int 8)) (only (call 2)))
    (AndGroup (None ∷ []) (And (call 3) (only (return (variable 1)))) NoGroups))

a_switch : return_at 0 (only (Switch (parameter 0) groups)) (told ∷ told ∷ []) (act 2 ∷ act 3 ∷ []) 8
a_switch = refl

a_default : goes_on_at 0 (only (Switch (int 1) groups)) (told ∷ []) (act 3 ∷ [])
a_default = refl

no_label : return_at 0 (And (Switch (int 1) (AndGroup (Some (pos 4) ∷ []) (only (call 1)) NoGroups)) (only (return (int 3)))) [] [] 3
no_label = refl

-- what is declared under a label is out of scope in the groups that follow
declared_in_a_group : goes_on_at 0 (only (Switch (int 5) (AndGroup (Some (pos 4) ∷ []) (only labelled) (AndGroup (Some (pos 5) ∷ []) (And (Set (local 0) (int 8)) (only (return (variable 0)))) NoGroups)))) [] []
declared_in_a_group = refl

-- ---- exceptions

-- `p5` is an exception
a_throw : leaves (only (Throw (parameter 5))) [] []
a_throw = refl

a_throw_of_null : leaves (only (Throw trees.Null)) (Thrown exception ∷ []) (Trap null_pointer ∷ [])
a_throw_of_null = refl

no_exception : goes_on_at 0 (only (Throw This)) [] []
no_exception = refl

-- the first clause that takes it; what its variable holds is thrown on
a_catch : leaves (only (Try (only (Throw (parameter 5))) (AndCatch (codes "C") caught (only (return (int 1))) (AndCatch throwable_class caught (And (call 2) (only (Rethrow caught))) NoCatches)))) (told ∷ []) (act 2 ∷ [])
a_catch = refl

not_caught : leaves (only (Try (only (Throw (parameter 5))) (AndCatch (codes "C") caught (only (return (int 1))) NoCatches))) [] []
not_caught = refl

-- what comes last in a `finally` runs behind whatever the first part comes to, and that counts where it completes normally
a_finally : return_at 0 (And (Finally (only (call 1)) (only (call 2))) (only (return (int 3)))) (told ∷ told ∷ []) (act 1 ∷ act 2 ∷ []) 3
a_finally = refl

a_return_through_a_finally : return_at 0 (only (Finally (only (return (int 1))) (only (call 2)))) (told ∷ []) (act 2 ∷ []) 1
a_return_through_a_finally = refl

-- what is returned was evaluated before
a_store_behind_a_return : return_at 0 (from_zero (only (Finally (only (return (variable 0))) (only next)))) [] [] 0
a_store_behind_a_return = refl

a_throw_through_a_finally : leaves (only (Finally (only (Throw (parameter 5))) (only (call 2)))) (told ∷ []) (act 2 ∷ [])
a_throw_through_a_finally = refl

a_break_through_a_finally : return_at 0 (And (Labelled 1 (Block (And (Finally (only (Break 1)) (only (call 2))) (only (call 4))))) (only (return (int 3)))) (told ∷ []) (act 2 ∷ []) 3
a_break_through_a_finally = refl

a_continue_through_a_finally : return_at 3 (from_zero (And (Labelled 1 (While few (only (Finally (only (Continue 1)) (only next))))) (only (return (variable 0))))) [] [] 3
a_continue_through_a_finally = refl

-- where the last part completes otherwise, that counts in its place
a_finally_that_returns : return_at 0 (only (Finally (only (Throw (parameter 5))) (only (return (int 3))))) [] [] 3
a_finally_that_returns = refl

a_finally_that_breaks : return_at 0 (And (Labelled 1 (Finally (only (return (int 1))) (only (Break 1)))) (only (return (int 3)))) [] [] 3
a_finally_that_breaks = refl

a_finally_that_throws : leaves (only (Finally (only (return (int 1))) (only (Throw (parameter 5))))) [] []
a_finally_that_throws = refl

-- behind a part that is cut or stuck nothing comes last
a_cut_in_a_finally : goes_on_at 0 (only (Finally (only (While (Truth true) Empty)) (only (call 2)))) (told ∷ []) []
a_cut_in_a_finally = refl

an_unanswered_call_in_a_finally : goes_on_at 0 (only (Finally (only (call 1)) (only (call 2)))) [] (act 1 ∷ [])
an_unanswered_call_in_a_finally = refl

a_stuck_part_of_a_finally : goes_on_at 0 (only (Finally (only (Throw This)) (only (call 2)))) (told ∷ []) []
a_stuck_part_of_a_finally = refl

-- ---- monitors

a_synchronized : return_at 0 (only (Synchronized This (only (return (int 1))))) (Done ∷ Done ∷ []) (Enter this ∷ Exit this ∷ []) 1
a_synchronized = refl

a_throw_through_a_synchronized : leaves (only (Synchronized This (only (Throw (parameter 5))))) (Done ∷ Done ∷ []) (Enter this ∷ Exit this ∷ [])
a_throw_through_a_synchronized = refl

a_monitor_that_is_null : leaves (only (Synchronized (parameter 3) Empty)) (Thrown exception ∷ []) (Trap null_pointer ∷ [])
a_monitor_that_is_null = refl

-- a run that is cut leaves no monitor
a_cut_with_a_monitor : goes_on_at 0 (only (Synchronized This (only (While (Truth true) Empty)))) (Done ∷ Done ∷ []) (Enter this ∷ [])
a_cut_with_a_monitor = refl

-- ---- returns

-- a return without a value, where the method has one, is what no method does; what comes last may hide it
a_misfit : goes_on_at 0 (only (trees.Return None)) [] []
a_misfit = refl

a_hidden_misfit : return_at 0 (only (Finally (only (trees.Return None)) (only (return (int 3))))) [] [] 3
a_hidden_misfit = refl

-- a method with a result that doesn't return
no_return : goes_on_at 0 (only (call 1)) (told ∷ []) (act 1 ∷ [])
no_return = refl
