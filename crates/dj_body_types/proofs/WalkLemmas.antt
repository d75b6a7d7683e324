-- Statements, groups and catch clauses that are walked past, of which so many are done.
use Rattle.std.proofs.Common.{◌≡◌, ℕ, ◌+◌, ◌<◌, ◌≤◌, List, length, drop, get_or, sym, ap, ◌∙◌}
use Rattle.std.proofs.lemmas.List.{drop_all}
use Rattle.dj_names.specs.Types.{Class}
use Rattle.dj_syntax.specs.declared.statement.Stm as code_stm
use Rattle.dj_syntax.specs.declared.statement.Group as code_group
use Rattle.dj_syntax.specs.declared.statement.Catch as code_catch
use Rattle.dj_syntax.specs.Trees.{view_stm, view_stms, view_groups, view_catches}
use Rattle.dj_meaning.specs.StaticTypes.{Scope, with_type}
use Rattle.dj_meaning.specs.Declarations.{declared, within, behind}
use Rattle.dj_meaning.specs.Statements.{Elsewhere}
use Rattle.dj_scopes.proofs.KeepingLemmas.{stms_more, stms_none}
use Rattle.dj_typed.specs.Statements.{Around}
use Rattle.dj_checked.specs.declared.walk.Walk.{Walk}
use Rattle.dj_body_types.specs.Walks.{pass, pass_list, pass_catches, pass_groups}
use Rattle.dj_body_types.proofs.GroupLemmas.{groups_more, catches_more}

-- one statement of a list more
pub list_more : (around : Around) (scope after : Scope) (list : List code_stm.Stm) (k : ℕ) (stm : code_stm.Stm) (before behind whole : Walk) → k < length list → stm ≡ get_or list k stm
    → after ≡ within (declared (view_stm stm)) scope → behind ≡ pass around Elsewhere scope (view_stm stm) before
    → pass_list around scope (view_stms (drop k list)) before ≡ whole → pass_list around after (view_stms (drop (k + 1) list)) behind ≡ whole
list_more around scope after list k stm before behind whole inside is so walked so_far =
    ap (λ s. pass_list around s (view_stms (drop (k + 1) list)) behind) so
    ∙ ap (pass_list around (within (declared (view_stm stm)) scope) (view_stms (drop (k + 1) list))) walked
    ∙ ap (λ stms. pass_list around scope stms before) (sym (stms_more list k stm inside is)) ∙ so_far

pub list_all : (around : Around) (scope : Scope) (list : List code_stm.Stm) (k : ℕ) (before whole : Walk) → length list ≤ k
    → pass_list around scope (view_stms (drop k list)) before ≡ whole → before ≡ whole
list_all around scope list k before whole past so_far = ap (λ stms. pass_list around scope stms before) (sym (stms_none list k past)) ∙ so_far

-- one group of a switch more
pub group_more : (around : Around) (scope after : Scope) (groups : List code_group.Group) (k : ℕ) (group : code_group.Group) (before later whole : Walk) → k < length groups → group ≡ get_or groups k group
    → after ≡ behind (view_stms group.body) scope → later ≡ pass_list around scope (view_stms group.body) before
    → pass_groups around scope (view_groups (drop k groups)) before ≡ whole → pass_groups around after (view_groups (drop (k + 1) groups)) later ≡ whole
group_more around scope after groups k group before later whole inside is so walked so_far =
    ap (λ s. pass_groups around s (view_groups (drop (k + 1) groups)) later) so
    ∙ ap (pass_groups around (behind (view_stms group.body) scope) (view_groups (drop (k + 1) groups))) walked
    ∙ ap (λ some. pass_groups around scope some before) (sym (groups_more groups k group inside is)) ∙ so_far

pub groups_all : (around : Around) (scope : Scope) (groups : List code_group.Group) (k : ℕ) (before whole : Walk) → length groups ≤ k
    → pass_groups around scope (view_groups (drop k groups)) before ≡ whole → before ≡ whole
groups_all around scope groups k before whole past so_far = ap (λ some. pass_groups around scope (view_groups some) before) (sym (drop_all k groups past)) ∙ so_far

-- one clause more
pub catch_more : (around : Around) (scope after : Scope) (catches : List code_catch.Catch) (k : ℕ) (catch : code_catch.Catch) (before later whole : Walk) → k < length catches → catch ≡ get_or catches k catch
    → after ≡ scope → later ≡ pass_list around (with_type catch.variable (Class catch.class) scope) (view_stms catch.body) before
    → pass_catches around scope (view_catches (drop k catches)) before ≡ whole → pass_catches around after (view_catches (drop (k + 1) catches)) later ≡ whole
catch_more around scope after catches k catch before later whole inside is same walked so_far =
    ap (λ s. pass_catches around s (view_catches (drop (k + 1) catches)) later) same
    ∙ ap (pass_catches around scope (view_catches (drop (k + 1) catches))) walked
    ∙ ap (λ some. pass_catches around scope some before) (sym (catches_more catches k catch inside is)) ∙ so_far

pub catches_all : (around : Around) (scope : Scope) (catches : List code_catch.Catch) (k : ℕ) (before whole : Walk) → length catches ≤ k
    → pass_catches around scope (view_catches (drop k catches)) before ≡ whole → before ≡ whole
catches_all around scope catches k before whole past so_far = ap (λ some. pass_catches around scope (view_catches some) before) (sym (drop_all k catches past)) ∙ so_far
