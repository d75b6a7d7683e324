-- Lists of trees of the code, seen as plain data: what loops over them need.
use Rattle.std.proofs.Common.{◌≡◌, ℕ, ◌+◌, ◌<◌, List, [], ◌∷◌, map, length, drop, get_or, sym, ap, ◌∙◌, rules}
use Rattle.std.proofs.lemmas.List.{drop_more}
use Rattle.dj_syntax.specs.declared.expression.Exp.{Exp as code_exp}
use Rattle.dj_syntax.specs.declared.statement.Stm.{Stm as code_stm}
use Rattle.dj_syntax.specs.declared.statement.Group.{Group as code_group, the_lemmas as group_lemmas}
use Rattle.dj_syntax.specs.declared.statement.Catch.{Catch as code_catch, the_lemmas as catch_lemmas}
use Rattle.dj_syntax.specs.Trees.{Exps, AndExp, Stms, And, Groups, AndGroup, Catches, AndCatch, Group, Catch, view_exp, view_exps, view_stm, view_stms, view_group, view_groups, view_catch, view_catches}

-- ---- records

-- a group is its labels and its statements
pub view_group-is : (group : code_group) → view_group group ≡ (group.labels, view_stms group.body)
view_group-is group = search (rules, group_lemmas)

-- a catch clause is its class, its variable and its statements
pub view_catch-is : (catch : code_catch) → view_catch catch ≡ (catch.class, catch.variable, view_stms catch.body)
view_catch-is catch = search (rules, catch_lemmas)

-- ---- the rest of a list is its first item and the rest behind it

pub exps_from : (list : List code_exp) (i : ℕ) (x : code_exp) → i < length list → x ≡ get_or list i x → view_exps (drop i list) ≡ AndExp (view_exp x) (view_exps (drop (i + 1) list))
exps_from list i x within is = ap view_exps (drop_more list i x within ∙ ap (λ y. y ∷ drop (i + 1) list) (sym is))

pub stms_from : (list : List code_stm) (i : ℕ) (x : code_stm) → i < length list → x ≡ get_or list i x → view_stms (drop i list) ≡ And (view_stm x) (view_stms (drop (i + 1) list))
stms_from list i x within is = ap view_stms (drop_more list i x within ∙ ap (λ y. y ∷ drop (i + 1) list) (sym is))

pub groups_from : (list : List code_group) (i : ℕ) (x : code_group) → i < length list → x ≡ get_or list i x
    → view_groups (drop i list) ≡ AndGroup x.labels (view_stms x.body) (view_groups (drop (i + 1) list))
groups_from list i x within is =
    ap view_groups (drop_more list i x within ∙ ap (λ y. y ∷ drop (i + 1) list) (sym is))
    ∙ ap (λ (group : Group). AndGroup group.0 group.1 (view_groups (drop (i + 1) list))) (view_group-is x)

pub catches_from : (list : List code_catch) (i : ℕ) (x : code_catch) → i < length list → x ≡ get_or list i x
    → view_catches (drop i list) ≡ AndCatch x.class x.variable (view_stms x.body) (view_catches (drop (i + 1) list))
catches_from list i x within is =
    ap view_catches (drop_more list i x within ∙ ap (λ y. y ∷ drop (i + 1) list) (sym is))
    ∙ ap (λ (catch : Catch). AndCatch catch.0 catch.1 catch.2 (view_catches (drop (i + 1) list))) (view_catch-is x)
