-- In which ways statements can complete at worked examples, by computation: a wrong definition is refused here.
use Rattle.std.proofs.Common.{◌≡◌, Bool, true, false, None, refl}
use Rattle.dj_syntax.specs.declared.operator.Op.TheVariants as op
use Rattle.dj_syntax.specs.Trees.{Exp, Truth, Binary, Stm, Stms, Empty, And, Labelled, If, While, Break, Continue, Return, Do, Finally}
use Rattle.dj_meaning.specs.Ways.{ways, all_ways}
use Rattle.dj_meaning.proofs.ExampleWorld.{parameter, int, only}

-- a statement can complete normally
abbrev falls : Stm → Bool → Type 0
falls stm answer = (ways None stm).falls ≡ answer

-- statements can leave by a break of label 1
abbrev breaks : Stms → Bool → Type 0
breaks list answer = (all_ways list).jumps 1 ≡ answer

-- `p0 < 3`
abbrev few : Exp
few = Binary op.Lt (parameter 0) (int 3)

-- a `do` ends where its test isn't `true` and is reached: by the end of the body, or by a continue
a_do : falls (Do Empty few) true
a_do = refl

a_do_for_ever : falls (Do Empty (Truth true)) false
a_do_for_ever = refl

a_do_that_returns : falls (Do (only (Return None)) few) false
a_do_that_returns = refl

a_do_with_a_continue : falls (Labelled 1 (Do (only (If few (only (Continue 1)) (only (Return None)))) few)) true
a_do_with_a_continue = refl

a_do_with_a_break : falls (Labelled 1 (Do (only (Break 1)) (Truth true))) true
a_do_with_a_break = refl

-- a `try` ends where both parts do, and a jump goes through what comes last where that ends
a_finally : falls (Finally Empty Empty) true
a_finally = refl

a_finally_that_returns : falls (Finally Empty (only (Return None))) false
a_finally_that_returns = refl

a_break_through_a_finally : breaks (only (Finally (only (Break 1)) Empty)) true
a_break_through_a_finally = refl

a_break_that_is_hidden : breaks (only (Finally (only (Break 1)) (only (Return None)))) false
a_break_that_is_hidden = refl

-- what stands behind a return isn't reached
a_break_behind_a_return : breaks (And (Return None) (only (Break 1))) false
a_break_behind_a_return = refl

a_while : falls (While few (only (Return None))) true
a_while = refl
