-- The pass with a label makes what the pass without one makes of what breaks to that label in place of returning.
use Rattle.std.proofs.Common.{ℕ, Bool, true, false, not, List, [], Option, Some, None, ◌≡◌, refl, sym, ap, ◌∙◌, subst, ◌||◌}
use Rattle.std.specs.Prelude.{if◌then◌else◌}
use Rattle.dj_syntax.specs.Trees.{Stm, Block, Labelled, Declare, Set, SetField, SetStatic, SetElement, Run, If, While, Switch, Return, Throw, Rethrow, Try, Synchronized, Construct, Do, For, Finally, Stms, Empty, And, Groups, NoGroups, AndGroup, Catches, NoCatches, AndCatch}
use Rattle.dj_syntax.specs.Trees as trees
use Rattle.dj_meaning.specs.Declarations.{declared}
use Rattle.dj_meaning.specs.Statements.{has_label, is_labelled}
use Rattle.dj_places.specs.Constants.{Surroundings, constant_truth}
use Rattle.dj_declare.specs.Breaking.{breaking, all_breaking, clauses_breaking, groups_breaking}
use Rattle.dj_declaring.specs.Passes.{Made, MadeList, MadeGroups, MadeClauses, beginning, with_one, without_one, with_group, with_clause, no_groups, no_clauses, under, blocked, chosen, turning, switched, tried, locked, repeated, counting, with_last, pass, pass_list, pass_groups, pass_clauses, MakesLawful, PassBreaks, made_of, MakesListLawful, PassMakesListsLawful}
use Rattle.dj_declaring.proofs.Passing.{back, list_on, pass_on}

-- breaks in place of returns declare what the statement declared
same_declared : (label : ℕ) (statement : Stm) → declared (breaking label statement) ≡ declared statement
same_declared label (Block list) = refl
same_declared label (Labelled other statement) = refl
same_declared label (Declare variable kind initial) = refl
same_declared label (Set variable new) = refl
same_declared label (SetField object name new) = refl
same_declared label (SetStatic class name new) = refl
same_declared label (SetElement array index new) = refl
same_declared label (Run call) = refl
same_declared label (If test first second) = refl
same_declared label (While test body) = refl
same_declared label (Switch on groups) = refl
same_declared label (trees.Break name) = refl
same_declared label (trees.Continue name) = refl
same_declared label (Return None) = refl
same_declared label (Return (Some value)) = refl
same_declared label (Throw exception) = refl
same_declared label (Rethrow variable) = refl
same_declared label (Try body clauses) = refl
same_declared label (Synchronized monitor body) = refl
same_declared label (Construct this arguments) = refl
same_declared label (Do body test) = refl
same_declared label (For test variable step body) = refl
same_declared label (Finally body last) = refl

same_labelled : (label : ℕ) (groups : Groups) → is_labelled None (groups_breaking label groups) ≡ is_labelled None groups
same_labelled label NoGroups = refl
same_labelled label (AndGroup labels body rest) = ap (λ more. has_label None labels || more) (same_labelled label rest)

module _ (around : Surroundings) (label : ℕ) where
  mutual
    breaks : (own : Option ℕ) (statement : Stm) → pass around (Some label) own statement ≡ pass around None own (breaking label statement)
    breaks own (Block list) = ap blocked (list_breaks list (beginning []))
    breaks own (Labelled other statement) = ap (under other) (breaks (Some other) statement)
    breaks own (If test first second) = λ i. chosen test (list_breaks first (beginning []) i) (list_breaks second (beginning []) i)
    breaks own (While test body) = ap (turning (constant_truth around test) test) (list_breaks body (beginning []))
    breaks own (Switch on groups) =
        ap (switched (is_labelled None groups) on) (groups_breaks groups no_groups) ∙ ap (λ whole. switched whole on (pass_groups around None (groups_breaking label groups) no_groups)) (sym (same_labelled label groups))
    breaks own (Return None) = refl
    breaks own (Return (Some value)) = refl
    breaks own (Try body clauses) = λ i. tried (list_breaks body (beginning []) i) (clauses_breaks clauses no_clauses i)
    breaks own (Synchronized monitor body) = ap (locked monitor) (list_breaks body (beginning []))
    breaks own (Do body test) = ap (λ inner. repeated own (constant_truth around test) inner test) (list_breaks body (beginning []))
    breaks own (For test variable step body) = ap (counting (constant_truth around test) test variable step) (list_breaks body (beginning []))
    breaks own (Finally body last) = λ i. with_last (list_breaks body (beginning []) i) (list_breaks last (beginning []) i)
    breaks own (Declare variable kind initial) = refl
    breaks own (Set variable new) = refl
    breaks own (SetField object name new) = refl
    breaks own (SetStatic class name new) = refl
    breaks own (SetElement array index new) = refl
    breaks own (Run call) = refl
    breaks own (trees.Break name) = refl
    breaks own (trees.Continue name) = refl
    breaks own (Throw exception) = refl
    breaks own (Rethrow variable) = refl
    breaks own (Construct this arguments) = refl

    list_breaks : (list : Stms) (made : MadeList) → pass_list around (Some label) list made ≡ pass_list around None (all_breaking label list) made
    list_breaks Empty made = refl
    list_breaks (And first rest) made =
        list_breaks rest (if made.falls then with_one (pass around (Some label) None first) made else without_one (declared first) made)
        ∙ (λ i. pass_list around None (all_breaking label rest) (if made.falls then with_one (breaks None first i) made else without_one (sym (same_declared label first) i) made))

    groups_breaks : (groups : Groups) (made : MadeGroups) → pass_groups around (Some label) groups made ≡ pass_groups around None (groups_breaking label groups) made
    groups_breaks NoGroups made = refl
    groups_breaks (AndGroup labels body rest) made =
        groups_breaks rest (with_group labels (pass_list around (Some label) body (beginning made.lost)) made)
        ∙ (λ i. pass_groups around None (groups_breaking label rest) (with_group labels (list_breaks body (beginning made.lost) i) made))

    clauses_breaks : (clauses : Catches) (made : MadeClauses) → pass_clauses around (Some label) clauses made ≡ pass_clauses around None (clauses_breaking label clauses) made
    clauses_breaks NoCatches made = refl
    clauses_breaks (AndCatch class variable body rest) made =
        clauses_breaks rest (with_clause class variable (pass_list around (Some label) body (beginning [])) made)
        ∙ (λ i. pass_clauses around None (clauses_breaking label rest) (with_clause class variable (list_breaks body (beginning []) i) made))

pub pass_breaks : PassBreaks
pass_breaks around label own statement = subst (MakesLawful around own (breaking label statement)) (sym (breaks around label own statement)) (pass_on around own (breaking label statement))

made_lawful : (around : Surroundings) (list : Stms) → MakesListLawful around list (made_of around None list)
made_lawful around list =
    let adds = list_on around list (beginning []) refl in
    record { list = back around list (pass_list around None list (beginning [])) adds; falls = adds.falls }

pub lists_lawful : PassMakesListsLawful
lists_lawful around list =
    (made_lawful around list, λ label. subst (MakesListLawful around (all_breaking label list)) (sym (list_breaks around label list (beginning []))) (made_lawful around (all_breaking label list)))
