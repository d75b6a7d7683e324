-- The code's stack of nodes and the stack of their formulas.
use Rattle.std.proofs.Common.{◌≡◌, ◌≢◌, ℕ, ◌<◌, ◌≤◌, true, false, ltb, List, [], ◌∷◌, ◌++◌, length, reverse, refl, ap, arith, length-append}
use Rattle.std.proofs.lemmas.List.{reverse-append, length-reverse}
use Rattle.std.proofs.lemmas.Bool.Decides.{nat_tests}
use Rattle.dj_straight.specs.declared.straight.Node.{Node}
use Rattle.dj_straight.specs.Straight.{Formula}
use Rattle.dj_straight.specs.Rebuilding.{IsNode, AreNodes, pushed, WentOn}

pub AreNodes-length : (nodes : List Node) (formulas : List Formula) → AreNodes nodes formulas → length formulas ≡ length nodes
AreNodes-length [] [] are = refl
AreNodes-length [] (formula ∷ formulas) are = absurd are
AreNodes-length (node ∷ nodes) [] are = absurd are
AreNodes-length (node ∷ nodes) (formula ∷ formulas) are = omega (arith, AreNodes-length nodes formulas are.1)

-- a node is put on top where there is room
pub push_room : (max_stack : ℕ) (stack : List Node) (node : Node) (formula : Formula) (below : List Formula) → length stack < max_stack → IsNode node formula → AreNodes (reverse stack) below → WentOn true (pushed max_stack formula below) (reverse (stack ++ node ∷ []))
push_room max_stack stack node formula below room is are =
    let long : length below < max_stack = omega (arith, AreNodes-length (reverse stack) below are, length-reverse stack) in
    let test : ltb (length below) max_stack ≡ true = grind (arith, nat_tests) in
    rw (test, reverse-append stack (node ∷ [])) (is, are)

-- and is not where there is none
pub push_full : (max_stack : ℕ) (stack : List Node) (formula : Formula) (below : List Formula) → max_stack ≤ length stack → AreNodes (reverse stack) below → WentOn false (pushed max_stack formula below) (reverse stack)
push_full max_stack stack formula below full are =
    let long : max_stack ≤ length below = omega (arith, AreNodes-length (reverse stack) below are, length-reverse stack) in
    let test : ltb (length below) max_stack ≡ false = grind (arith, nat_tests) in
    rw test tt

-- a stack that isn't of one node isn't of one formula
pub not_one : (stack : List Node) (formulas : List Formula) → length stack ≢ 1 → AreNodes (reverse stack) formulas → (formula : Formula) → formulas ≢ formula ∷ []
not_one stack formulas other are formula is =
    other (omega (arith, AreNodes-length (reverse stack) formulas are, length-reverse stack, ap length is))

-- a stack of one node is of its formula
pub just_one : (node : Node) (formulas : List Formula) → AreNodes (node ∷ []) formulas → (formula : Formula) × (formulas ≡ formula ∷ []) × IsNode node formula
just_one node [] are = absurd are
just_one node (formula ∷ []) are = (formula, refl, are.0)
just_one node (formula ∷ next ∷ more) are = absurd are.1

-- what is left after one node was taken off, and isn't empty, was not one node
pub more_than_one : (left : List Node) (node : Node) → left ≢ [] → length (left ++ node ∷ []) ≢ 1
more_than_one [] node some = absurd (some refl)
more_than_one (first ∷ rest) node some = λ one. absurd (omega (arith, length-append rest (node ∷ [])))
