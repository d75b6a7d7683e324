-- Lists of trees with other names, one by one.
use Rattle.std.proofs.Common.{ℕ, ◌≤◌, List, [], ◌∷◌, ◌++◌, map, length, drop, ◌≡◌, refl, sym, ap, ◌∙◌}
use Rattle.std.proofs.lemmas.List.{at_drop_all, append-nil}
use Rattle.dj_syntax.specs.declared.expression.Exp.{Exp as code_exp}
use Rattle.dj_syntax.specs.declared.statement.Stm.{Stm as code_stm}
use Rattle.dj_syntax.specs.declared.statement.Group.{Group as code_group}
use Rattle.dj_syntax.specs.declared.statement.Catch.{Catch as code_catch}
use Rattle.dj_syntax.proofs.TreeLists.{view_group-is, view_catch-is}
use Rattle.dj_syntax.specs.Trees.{Exp, AndExp, Stm, And, AndGroup, AndCatch, Group, Catch, exps_of, stms_of, groups_of, catches_of, view_exp, view_exps, view_stm, view_stms, view_group, view_groups, view_catch, view_catches}
use Rattle.dj_renaming.specs.Renaming.{Names, exp_renamed, exps_renamed, renamed, all_renamed, groups_renamed, catches_renamed}

-- a tree of the code with other names
abbrev pub exp_by : Names → code_exp → Exp
exp_by names exp = exp_renamed names (view_exp exp)

abbrev pub stm_by : Names → code_stm → Stm
stm_by names statement = renamed names (view_stm statement)

abbrev pub group_by : Names → code_group → Group
group_by names group = (group.labels, all_renamed names (view_stms group.body))

abbrev pub catch_by : Names → code_catch → Catch
catch_by names catch = (catch.class, names.variable catch.variable, all_renamed names (view_stms catch.body))

pub exps_by : (names : Names) (list : List code_exp) → exps_of (map (exp_by names) list) ≡ exps_renamed names (view_exps list)
exps_by names [] = refl
exps_by names (first ∷ rest) = ap (AndExp (exp_by names first)) (exps_by names rest)

pub stms_by : (names : Names) (list : List code_stm) → stms_of (map (stm_by names) list) ≡ all_renamed names (view_stms list)
stms_by names [] = refl
stms_by names (first ∷ rest) = ap (And (stm_by names first)) (stms_by names rest)

pub groups_by : (names : Names) (list : List code_group) → groups_of (map (group_by names) list) ≡ groups_renamed names (view_groups list)
groups_by names [] = refl
groups_by names (first ∷ rest) =
    ap (AndGroup first.labels (all_renamed names (view_stms first.body))) (groups_by names rest)
    ∙ ap (λ (group : Group). AndGroup group.0 (all_renamed names group.1) (groups_renamed names (view_groups rest))) (sym (view_group-is first))

pub catches_by : (names : Names) (list : List code_catch) → catches_of (map (catch_by names) list) ≡ catches_renamed names (view_catches list)
catches_by names [] = refl
catches_by names (first ∷ rest) =
    ap (AndCatch first.class (names.variable first.variable) (all_renamed names (view_stms first.body))) (catches_by names rest)
    ∙ ap (λ (catch : Catch). AndCatch catch.0 (names.variable catch.1) (all_renamed names catch.2) (catches_renamed names (view_catches rest))) (sym (view_catch-is first))

-- ---- at the end of a list

-- nothing is left of a list
all_made : {A B : Type 0} (made : List B) (of : A → B) (list : List A) (at : ℕ) → length list ≤ at → made ++ map of (drop at list) ≡ map of list → made ≡ map of list
all_made made of list at within e = sym (append-nil made) ∙ sym (at_drop_all (λ rest. made ++ map of rest) list at within) ∙ e

pub exps_made : (names : Names) (made list : List code_exp) (at : ℕ) → length list ≤ at → map view_exp made ++ map (exp_by names) (drop at list) ≡ map (exp_by names) list → view_exps made ≡ exps_renamed names (view_exps list)
exps_made names made list at within e = ap exps_of (all_made (map view_exp made) (exp_by names) list at within e) ∙ exps_by names list

pub stms_made : (names : Names) (made list : List code_stm) (at : ℕ) → length list ≤ at → map view_stm made ++ map (stm_by names) (drop at list) ≡ map (stm_by names) list → view_stms made ≡ all_renamed names (view_stms list)
stms_made names made list at within e = ap stms_of (all_made (map view_stm made) (stm_by names) list at within e) ∙ stms_by names list

pub groups_made : (names : Names) (made list : List code_group) (at : ℕ) → length list ≤ at → map view_group made ++ map (group_by names) (drop at list) ≡ map (group_by names) list → view_groups made ≡ groups_renamed names (view_groups list)
groups_made names made list at within e = ap groups_of (all_made (map view_group made) (group_by names) list at within e) ∙ groups_by names list

pub catches_made : (names : Names) (made list : List code_catch) (at : ℕ) → length list ≤ at → map view_catch made ++ map (catch_by names) (drop at list) ≡ map (catch_by names) list → view_catches made ≡ catches_renamed names (view_catches list)
catches_made names made list at within e = ap catches_of (all_made (map view_catch made) (catch_by names) list at within e) ∙ catches_by names list
