-- Definite assignment at worked examples (JLS 16): the place of the first variable that is read and not assigned, or none.
use Rattle.std.proofs.Common.{◌≡◌, ℕ, true, false, List, [], ◌∷◌, Option, Some, None, refl}
use Rattle.std.specs.Prelude.{pos, codes}
use Rattle.dj_names.specs.Types as types
use Rattle.dj_syntax.specs.declared.variable.Var.{Var}
use Rattle.dj_syntax.specs.declared.variable.VarKind.TheVariants.{Param, Local, Caught}
use Rattle.dj_syntax.specs.declared.operator.Op.TheVariants as op
use Rattle.dj_syntax.specs.Trees.{Exp, Truth, Variable, Not, Binary, Choice, Assign, Stm, Block, Labelled, Declare, Set, If, While, Switch, Return, Rethrow, Try, Do, For, Finally, Stms, NoGroups, AndGroup, NoCatches, AndCatch, stms_of}
use Rattle.dj_syntax.specs.Trees as trees
use Rattle.dj_places.specs.Constants.{Surroundings}
use Rattle.dj_places.specs.Places.{first_broken}
use Rattle.dj_variables.specs.Sets.{everything}
use Rattle.dj_assigned.specs.Assigned.{list_reads}

-- `int v0;` and statements behind it
abbrev unassigned : Surroundings → List Stm → Option ℕ
unassigned around list = first_broken (list_reads around everything 0 (stms_of (Declare (record { kind = Local; number = 0 }) types.Int None ∷ list)))

abbrev v0 : Var
v0 = record { kind = Local; number = 0 }

abbrev v1 : Var
v1 = record { kind = Local; number = 1 }

abbrev p0 : Var
p0 = record { kind = Param; number = 0 }

abbrev e0 : Var
e0 = record { kind = Caught; number = 0 }

abbrev number : ℕ → Exp
number n = trees.Int (pos n)

-- v0 = 1;
abbrev set : Stm
set = Set v0 (number 1)

-- return v0;
abbrev get : Stm
get = Return (Some (Variable v0))

abbrev none : Stms
none = stms_of []

-- (v0 = 1) > 0
abbrev assigning : Exp
assigning = Binary op.Gt (Assign v0 (number 1)) (number 0)

-- p0 > 0
abbrev other : Exp
other = Binary op.Gt (Variable p0) (number 0)

-- return v0;
at_once : (around : Surroundings) → unassigned around (get ∷ []) ≡ Some 2
at_once around = refl

-- v0 = 1; return v0;
behind_a_store : (around : Surroundings) → unassigned around (set ∷ get ∷ []) ≡ None
behind_a_store around = refl

-- v0 = v0;
own_value : (around : Surroundings) → unassigned around (Set v0 (Variable v0) ∷ []) ≡ Some 2
own_value around = refl

-- if (p0 > 0) { v0 = 1; } return v0;
one_branch : (around : Surroundings) → unassigned around (If other (stms_of (set ∷ [])) none ∷ get ∷ []) ≡ Some 8
one_branch around = refl

-- if (p0 > 0) { v0 = 1; } else { return 0; } return v0;
other_branch_leaves : (around : Surroundings) → unassigned around (If other (stms_of (set ∷ [])) (stms_of (Return (Some (number 0)) ∷ [])) ∷ get ∷ []) ≡ None
other_branch_leaves around = refl

-- if (p0 > 0 && (v0 = 1) > 0) { return v0; }
when_true : (around : Surroundings) → unassigned around (If (Binary op.AndAlso other assigning) (stms_of (get ∷ [])) none ∷ []) ≡ None
when_true around = refl

-- if (p0 > 0 && (v0 = 1) > 0) { } else { return v0; }
when_false : (around : Surroundings) → unassigned around (If (Binary op.AndAlso other assigning) none (stms_of (get ∷ [])) ∷ []) ≡ Some 11
when_false around = refl

-- if (p0 > 0 || (v0 = 1) > 0) { } else { return v0; }
either_false : (around : Surroundings) → unassigned around (If (Binary op.OrElse other assigning) none (stms_of (get ∷ [])) ∷ []) ≡ None
either_false around = refl

-- if (!(p0 > 0 && (v0 = 1) > 0)) { return 0; } return v0;
inverted : (around : Surroundings) → unassigned around (If (Not (Binary op.AndAlso other assigning)) (stms_of (Return (Some (number 0)) ∷ [])) none ∷ get ∷ []) ≡ None
inverted around = refl

-- p0 > 0 ? v0 = 1 : v0
one_result : (around : Surroundings) → unassigned around (Return (Some (Choice other (Assign v0 (number 1)) (Variable v0))) ∷ []) ≡ Some 8
one_result around = refl

-- if (false) { return v0; }
never_read : (around : Surroundings) → unassigned around (If (Truth false) (stms_of (get ∷ [])) none ∷ []) ≡ None
never_read around = refl

-- if (true ? true : false) { v0 = 1; } else { return v0; } return v0;
by_a_choice : (around : Surroundings)
    → unassigned around (If (Choice (Truth true) (Truth true) (Truth false)) (stms_of (set ∷ [])) (stms_of (get ∷ [])) ∷ get ∷ []) ≡ None
by_a_choice around = refl

-- while (p0 > 0) { v0 = 1; } return v0;
no_turn : (around : Surroundings) → unassigned around (While other (stms_of (set ∷ [])) ∷ get ∷ []) ≡ Some 8
no_turn around = refl

-- l0: while (true) { v0 = 1; break l0; } return v0;
by_a_break : (around : Surroundings) → unassigned around (Labelled 0 (While (Truth true) (stms_of (set ∷ trees.Break 0 ∷ []))) ∷ get ∷ []) ≡ None
by_a_break around = refl

-- l0: while (p0 > 0) { v0 = 1; if (v0 > 5) { break l0; } } return v0;
by_the_test : (around : Surroundings)
    → unassigned around (Labelled 0 (While other (stms_of (set ∷ If (Binary op.Gt (Variable v0) (number 5)) (stms_of (trees.Break 0 ∷ [])) none ∷ []))) ∷ get ∷ []) ≡ Some 14
by_the_test around = refl

-- do { v0 = 1; } while (v0 > 0);
in_the_test : (around : Surroundings) → unassigned around (Do (stms_of (set ∷ [])) (Binary op.Gt (Variable v0) (number 0)) ∷ get ∷ []) ≡ None
in_the_test around = refl

-- l0: do { if (p0 > 0) { continue l0; } v0 = 1; } while (v0 > 0);
by_a_continue : (around : Surroundings)
    → unassigned around (Labelled 0 (Do (stms_of (If other (stms_of (trees.Continue 0 ∷ [])) none ∷ set ∷ [])) (Binary op.Gt (Variable v0) (number 0))) ∷ []) ≡ Some 11
by_a_continue around = refl

-- for (; p0 > 0; p0 = v0) { v0 = 1; }
in_the_step : (around : Surroundings) → unassigned around (For other p0 (Variable v0) (stms_of (set ∷ [])) ∷ []) ≡ None
in_the_step around = refl

-- for (; p0 > 0; p0 = v0) { }: the step stands before the body
before_the_body : (around : Surroundings) → unassigned around (For other p0 (Variable v0) none ∷ []) ≡ Some 5
before_the_body around = refl

-- switch (p0) { case 1: v0 = 1; case 2: return v0; }
jumped_to : (around : Surroundings)
    → unassigned around (Switch (Variable p0) (AndGroup (Some (pos 1) ∷ []) (stms_of (set ∷ [])) (AndGroup (Some (pos 2) ∷ []) (stms_of (get ∷ [])) NoGroups)) ∷ []) ≡ Some 6
jumped_to around = refl

-- switch (p0) { case 1: l0: int v1; return p0; case 2: return v1; }
-- what is declared behind a label isn't declared for another group, where it is out of scope
jumped_label : (around : Surroundings)
    → unassigned around (Switch (Variable p0) (AndGroup (Some (pos 1) ∷ []) (stms_of (Labelled 0 (Declare v1 types.Int None) ∷ Return (Some (Variable p0)) ∷ [])) (AndGroup (Some (pos 2) ∷ []) (stms_of (Return (Some (Variable v1)) ∷ [])) NoGroups)) ∷ [])
    ≡ None
jumped_label around = refl

-- switch (p0) { case 1: v0 = 1; } return v0;
no_default : (around : Surroundings) → unassigned around (Switch (Variable p0) (AndGroup (Some (pos 1) ∷ []) (stms_of (set ∷ [])) NoGroups) ∷ get ∷ []) ≡ Some 6
no_default around = refl

-- switch (p0) { case 1: v0 = 1; default: v0 = 1; } return v0;
each_group : (around : Surroundings)
    → unassigned around (Switch (Variable p0) (AndGroup (Some (pos 1) ∷ []) (stms_of (set ∷ [])) (AndGroup (None ∷ []) (stms_of (set ∷ [])) NoGroups)) ∷ get ∷ []) ≡ None
each_group around = refl

-- try { v0 = 1; } catch (A e0) { } return v0;
in_the_try : (around : Surroundings) → unassigned around (Try (stms_of (set ∷ [])) (AndCatch (codes "A") e0 none NoCatches) ∷ get ∷ []) ≡ Some 5
in_the_try around = refl

-- try { v0 = 1; } catch (A e0) { rethrow e0; } return v0;
clause_leaves : (around : Surroundings) → unassigned around (Try (stms_of (set ∷ [])) (AndCatch (codes "A") e0 (stms_of (Rethrow e0 ∷ [])) NoCatches) ∷ get ∷ []) ≡ None
clause_leaves around = refl

-- try { } finally { v0 = 1; } return v0;
by_the_last : (around : Surroundings) → unassigned around (Finally none (stms_of (set ∷ [])) ∷ get ∷ []) ≡ None
by_the_last around = refl

-- try { v0 = 1; } finally { return v0; }
before_the_last : (around : Surroundings) → unassigned around (Finally (stms_of (set ∷ [])) (stms_of (get ∷ [])) ∷ []) ≡ Some 5
before_the_last around = refl

-- l0: try { break l0; } finally { v0 = 1; } return v0;
through_the_last : (around : Surroundings) → unassigned around (Labelled 0 (Finally (stms_of (trees.Break 0 ∷ [])) (stms_of (set ∷ []))) ∷ get ∷ []) ≡ None
through_the_last around = refl
