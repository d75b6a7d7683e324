-- Reachability at worked examples (JLS 14.21): the place of the first rule that is broken, or none.
use Rattle.std.proofs.Common.{◌≡◌, ℕ, Bool, true, false, List, [], ◌∷◌, Option, Some, None, refl}
use Rattle.std.specs.Prelude.{pos, codes}
use Rattle.dj_syntax.specs.declared.variable.Var.{Var}
use Rattle.dj_syntax.specs.declared.variable.VarKind.TheVariants.{Local, Caught}
use Rattle.dj_syntax.specs.Trees.{Exp, Truth, Variable, Null, Stm, Block, Labelled, Set, If, While, Switch, Return, Throw, Try, Do, For, Finally, Stms, NoGroups, AndGroup, NoCatches, AndCatch, stms_of}
use Rattle.dj_syntax.specs.Trees as trees
use Rattle.dj_places.specs.Constants.{Surroundings}
use Rattle.dj_places.specs.Places.{first_broken}
use Rattle.dj_reach.specs.Reach.{list_completes, list_reach}

abbrev broken : Surroundings → Bool → List Stm → Option ℕ
broken around may_return list = first_broken (list_reach (record { around = around; may_return = may_return }) true 0 (stms_of list))

abbrev v0 : Var
v0 = record { kind = Local; number = 0 }

abbrev e0 : Var
e0 = record { kind = Caught; number = 0 }

abbrev none : Stms
none = stms_of []

abbrev leave : Stm
leave = Return None

-- while (true) { } return;
endless : (around : Surroundings) → broken around true (While (Truth true) none ∷ leave ∷ []) ≡ Some 2
endless around = refl

-- l0: while (true) { break l0; } return;
left : (around : Surroundings) → broken around true (Labelled 0 (While (Truth true) (stms_of (trees.Break 0 ∷ []))) ∷ leave ∷ []) ≡ None
left around = refl

-- l0: while (true) { continue l0; } return;
goes_on : (around : Surroundings) → broken around true (Labelled 0 (While (Truth true) (stms_of (trees.Continue 0 ∷ []))) ∷ leave ∷ []) ≡ Some 4
goes_on around = refl

-- while (v0) { } return;
may_end : (around : Surroundings) → broken around true (While (Variable v0) none ∷ leave ∷ []) ≡ None
may_end around = refl

-- while (false) { }
never : (around : Surroundings) → broken around true (While (Truth false) none ∷ []) ≡ Some 0
never around = refl

-- if (false) { return; } return;
conditional : (around : Surroundings) → broken around true (If (Truth false) (stms_of (leave ∷ [])) none ∷ leave ∷ []) ≡ None
conditional around = refl

-- if (true) { return; } else { return; } return;
both_ways : (around : Surroundings) → broken around true (If (Truth true) (stms_of (leave ∷ [])) (stms_of (leave ∷ [])) ∷ leave ∷ []) ≡ Some 4
both_ways around = refl

-- for (; true; v0 = 1) { } return;
endless_for : (around : Surroundings) → broken around true (For (Truth true) v0 (trees.Int (pos 1)) none ∷ leave ∷ []) ≡ Some 3
endless_for around = refl

-- for (; false; v0 = 1) { }
no_turn : (around : Surroundings) → broken around true (For (Truth false) v0 (trees.Int (pos 1)) none ∷ []) ≡ Some 0
no_turn around = refl

-- do { return; } while (v0); return;
no_second_turn : (around : Surroundings) → broken around true (Do (stms_of (leave ∷ [])) (Variable v0) ∷ leave ∷ []) ≡ Some 3
no_second_turn around = refl

-- l0: do { continue l0; } while (v0); return;
turn_by_continue : (around : Surroundings) → broken around true (Labelled 0 (Do (stms_of (trees.Continue 0 ∷ [])) (Variable v0)) ∷ leave ∷ []) ≡ None
turn_by_continue around = refl

-- do { } while (false); return;
one_turn : (around : Surroundings) → broken around true (Do none (Truth false) ∷ leave ∷ []) ≡ None
one_turn around = refl

-- switch (1) { case 1: return; default: } return;
falls_out : (around : Surroundings)
    → broken around true (Switch (trees.Int (pos 1)) (AndGroup (Some (pos 1) ∷ []) (stms_of (leave ∷ [])) (AndGroup (None ∷ []) none NoGroups)) ∷ leave ∷ []) ≡ None
falls_out around = refl

-- switch (1) { default: ; case 1: return; } return;
last_group : (around : Surroundings)
    → broken around true (Switch (trees.Int (pos 1)) (AndGroup (None ∷ []) (stms_of (Block none ∷ [])) (AndGroup (Some (pos 1) ∷ []) (stms_of (leave ∷ [])) NoGroups)) ∷ leave ∷ []) ≡ Some 4
last_group around = refl

-- switch (1) { case 1: return; } return;
no_default : (around : Surroundings) → broken around true (Switch (trees.Int (pos 1)) (AndGroup (Some (pos 1) ∷ []) (stms_of (leave ∷ [])) NoGroups) ∷ leave ∷ []) ≡ None
no_default around = refl

-- try { return; } catch (A e0) { } return;
caught : (around : Surroundings) → broken around true (Try (stms_of (leave ∷ [])) (AndCatch (codes "A") e0 none NoCatches) ∷ leave ∷ []) ≡ None
caught around = refl

-- try { } finally { return; } return;
overridden : (around : Surroundings) → broken around true (Finally none (stms_of (leave ∷ [])) ∷ leave ∷ []) ≡ Some 2
overridden around = refl

-- l0: try { break l0; } finally { return; } return;
stopped : (around : Surroundings) → broken around true (Labelled 0 (Finally (stms_of (trees.Break 0 ∷ [])) (stms_of (leave ∷ []))) ∷ leave ∷ []) ≡ Some 4
stopped around = refl

-- l0: try { break l0; } finally { } return;
let_through : (around : Surroundings) → broken around true (Labelled 0 (Finally (stms_of (trees.Break 0 ∷ [])) none) ∷ leave ∷ []) ≡ None
let_through around = refl

-- throw null; return;
thrown : (around : Surroundings) → broken around true (Throw Null ∷ leave ∷ []) ≡ Some 2
thrown around = refl

-- a return in a static initialiser
no_return : (around : Surroundings) → broken around false (leave ∷ []) ≡ Some 0
no_return around = refl

-- l0: { l1: while (true) { break l0; } } completes, and l1: while (true) { } doesn't
label_within : (around : Surroundings) → list_completes around (stms_of (Labelled 0 (Block (stms_of (Labelled 1 (While (Truth true) (stms_of (trees.Break 0 ∷ []))) ∷ []))) ∷ [])) ≡ true
label_within around = refl

label_unused : (around : Surroundings) → list_completes around (stms_of (Labelled 1 (While (Truth true) none) ∷ [])) ≡ false
label_unused around = refl
