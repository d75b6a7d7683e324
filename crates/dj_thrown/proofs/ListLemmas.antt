-- The groups of a switch, of which so many are done.
use Rattle.std.proofs.Common.{◌≡◌, ℕ, ◌+◌, ◌<◌, ◌≤◌, List, length, drop, get_or, sym, ap, ◌∙◌}
use Rattle.std.proofs.lemmas.List.{drop_more, drop_all}
use Rattle.dj_syntax.specs.declared.statement.Stm as code_stm
use Rattle.dj_syntax.specs.declared.statement.Group as code_group
use Rattle.dj_syntax.specs.declared.statement.Stm.TheFolds.{fold_out-Group}
use Rattle.dj_syntax.specs.Trees.{Stm, Catch, Group, stm_layer, catch_layer, group_layer, AndGroup, view_stm, view_stms, view_group, view_groups}
use Rattle.dj_meaning.specs.StaticTypes.{Scope}
use Rattle.dj_meaning.specs.Declarations.{declared, within, behind}
use Rattle.dj_scopes.proofs.KeepingLemmas.{stms_more, stms_none}
use Rattle.dj_thrown.specs.declared.throwing.Held.{Held}
use Rattle.dj_thrown.specs.declared.walk.Walk.{Walk}
use Rattle.dj_thrown.specs.Settings.{Setting}
use Rattle.dj_thrown.specs.Walks.{pass, pass_list, pass_groups}

-- one statement of a list more
pub list_more : (setting : Setting) (held more : List Held) (scope after : Scope) (list : List code_stm.Stm) (k : ℕ) (stm : code_stm.Stm) (before behind whole : Walk) → k < length list → stm ≡ get_or list k stm
    → more ≡ held → after ≡ within (declared (view_stm stm)) scope → behind ≡ pass setting held scope (view_stm stm) before
    → pass_list setting held scope (view_stms (drop k list)) before ≡ whole → pass_list setting more after (view_stms (drop (k + 1) list)) behind ≡ whole
list_more setting held more scope after list k stm before behind whole inside is same so walked so_far =
    ap (λ h. pass_list setting h after (view_stms (drop (k + 1) list)) behind) same
    ∙ ap (λ s. pass_list setting held s (view_stms (drop (k + 1) list)) behind) so
    ∙ ap (pass_list setting held (within (declared (view_stm stm)) scope) (view_stms (drop (k + 1) list))) walked
    ∙ ap (λ stms. pass_list setting held scope stms before) (sym (stms_more list k stm inside is)) ∙ so_far

pub list_all : (setting : Setting) (held : List Held) (scope : Scope) (list : List code_stm.Stm) (k : ℕ) (before whole : Walk) → length list ≤ k
    → pass_list setting held scope (view_stms (drop k list)) before ≡ whole → before ≡ whole
list_all setting held scope list k before whole past so_far = ap (λ stms. pass_list setting held scope stms before) (sym (stms_none list k past)) ∙ so_far

-- a group, seen as plain data
view_group_is : (group : code_group.Group) → view_group group ≡ (group.labels, view_stms group.body)
view_group_is group = fold_out-Group Stm Catch Group stm_layer catch_layer group_layer group

groups_more : (groups : List code_group.Group) (k : ℕ) (group : code_group.Group) → k < length groups → group ≡ get_or groups k group
    → view_groups (drop k groups) ≡ AndGroup group.labels (view_stms group.body) (view_groups (drop (k + 1) groups))
groups_more groups k group inside is =
    ap view_groups (drop_more groups k group inside) ∙ ap (λ (one : code_group.Group). AndGroup (view_group one).0 (view_group one).1 (view_groups (drop (k + 1) groups))) (sym is)
    ∙ ap (λ (one : Group). AndGroup one.0 one.1 (view_groups (drop (k + 1) groups))) (view_group_is group)

-- one group of a switch more
pub group_more : (setting : Setting) (held more : List Held) (scope after : Scope) (groups : List code_group.Group) (k : ℕ) (group : code_group.Group) (before later whole : Walk) → k < length groups → group ≡ get_or groups k group
    → more ≡ held → after ≡ behind (view_stms group.body) scope → later ≡ pass_list setting held scope (view_stms group.body) before
    → pass_groups setting held scope (view_groups (drop k groups)) before ≡ whole → pass_groups setting more after (view_groups (drop (k + 1) groups)) later ≡ whole
group_more setting held more scope after groups k group before later whole inside is same so walked so_far =
    ap (λ h. pass_groups setting h after (view_groups (drop (k + 1) groups)) later) same
    ∙ ap (λ s. pass_groups setting held s (view_groups (drop (k + 1) groups)) later) so
    ∙ ap (pass_groups setting held (behind (view_stms group.body) scope) (view_groups (drop (k + 1) groups))) walked
    ∙ ap (λ some. pass_groups setting held scope some before) (sym (groups_more groups k group inside is)) ∙ so_far

pub groups_all : (setting : Setting) (held : List Held) (scope : Scope) (groups : List code_group.Group) (k : ℕ) (before whole : Walk) → length groups ≤ k
    → pass_groups setting held scope (view_groups (drop k groups)) before ≡ whole → before ≡ whole
groups_all setting held scope groups k before whole past so_far = ap (λ some. pass_groups setting held scope (view_groups some) before) (sym (drop_all k groups past)) ∙ so_far
