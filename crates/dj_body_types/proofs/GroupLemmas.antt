-- Groups and catch clauses, of which so many are done.
use Rattle.std.proofs.Common.{◌≡◌, ◌&&◌, ◌||◌, not, ℕ, zero, suc, ◌+◌, ◌<◌, nat_le, Bool, true, false, List, [], ◌∷◌, length, drop, get_or, refl, sym, ap, ◌∙◌}
use Rattle.std.proofs.Math.Dec.{leb-zero, leb-suc-zero, leb-suc-suc}
use Rattle.std.proofs.lemmas.List.{drop_more}
use Rattle.dj_syntax.specs.declared.statement.Group as code_group
use Rattle.dj_syntax.specs.declared.statement.Catch as code_catch
use Rattle.dj_syntax.specs.declared.statement.Stm.TheFolds.{fold_out-Group, fold_out-Catch}
use Rattle.dj_syntax.specs.StmText.{is_empty}
use Rattle.dj_syntax.specs.Trees.{Stm, Catch, Group, stm_layer, catch_layer, group_layer, AndGroup, AndCatch, view_stms, view_group, view_groups, view_catch, view_catches}
use Rattle.dj_syntax.specs.WellFormedTrees.{has_no_group}
use Rattle.dj_typed.specs.Switches.{has_some, are_formed}

-- a group, seen as plain data
view_group_is : (group : code_group.Group) → view_group group ≡ (group.labels, view_stms group.body)
view_group_is group = fold_out-Group Stm Catch Group stm_layer catch_layer group_layer group

pub groups_more : (groups : List code_group.Group) (k : ℕ) (group : code_group.Group) → k < length groups → group ≡ get_or groups k group
    → view_groups (drop k groups) ≡ AndGroup group.labels (view_stms group.body) (view_groups (drop (k + 1) groups))
groups_more groups k group inside is =
    ap view_groups (drop_more groups k group inside) ∙ ap (λ (one : code_group.Group). AndGroup (view_group one).0 (view_group one).1 (view_groups (drop (k + 1) groups))) (sym is)
    ∙ ap (λ (one : Group). AndGroup one.0 one.1 (view_groups (drop (k + 1) groups))) (view_group_is group)

-- a catch clause, seen as plain data
view_catch_is : (catch : code_catch.Catch) → view_catch catch ≡ (catch.class, catch.variable, view_stms catch.body)
view_catch_is catch = fold_out-Catch Stm Catch Group stm_layer catch_layer group_layer catch

pub catches_more : (catches : List code_catch.Catch) (k : ℕ) (catch : code_catch.Catch) → k < length catches → catch ≡ get_or catches k catch
    → view_catches (drop k catches) ≡ AndCatch catch.class catch.variable (view_stms catch.body) (view_catches (drop (k + 1) catches))
catches_more catches k catch inside is =
    ap view_catches (drop_more catches k catch inside) ∙ ap (λ (one : code_catch.Catch). AndCatch (view_catch one).0 (view_catch one).1 (view_catch one).2 (view_catches (drop (k + 1) catches))) (sym is)
    ∙ ap (λ (one : Catch). AndCatch one.0 one.1 one.2 (view_catches (drop (k + 1) catches))) (view_catch_is catch)

-- the last group is done
pub no_group_at : (groups : List code_group.Group) (k : ℕ) → has_no_group (view_groups (drop k groups)) ≡ nat_le (length groups) k
no_group_at [] zero = sym (leb-zero zero)
no_group_at [] (suc k) = sym (leb-zero (suc k))
no_group_at (group ∷ groups) zero = sym (leb-suc-zero (length groups))
no_group_at (group ∷ groups) (suc k) = no_group_at groups k ∙ sym (leb-suc-suc (length groups) k)

-- a group more is formed
pub formed_is : (groups : List code_group.Group) (k : ℕ) (group : code_group.Group) (formed : Bool) → k < length groups → group ≡ get_or groups k group
    → formed ≡ (has_some group.labels && (not (is_empty (view_stms group.body)) || nat_le (length groups) (k + 1)))
    → are_formed (view_groups (drop k groups)) ≡ (formed && are_formed (view_groups (drop (k + 1) groups)))
formed_is groups k group formed inside is so =
    ap are_formed (groups_more groups k group inside is)
    ∙ ap (λ b. has_some group.labels && (not (is_empty (view_stms group.body)) || b) && are_formed (view_groups (drop (k + 1) groups))) (no_group_at groups (k + 1))
    ∙ ap (λ b. b && are_formed (view_groups (drop (k + 1) groups))) (sym so)

-- a group that isn't formed
pub not_formed : (groups : List code_group.Group) (k : ℕ) (group : code_group.Group) (formed : Bool) → k < length groups → group ≡ get_or groups k group
    → formed ≡ (has_some group.labels && (not (is_empty (view_stms group.body)) || nat_le (length groups) (k + 1)))
    → formed ≡ false → are_formed (view_groups (drop k groups)) ≡ are_formed (view_groups groups) → false ≡ (not (has_no_group (view_groups groups)) && are_formed (view_groups groups))
not_formed groups k group formed inside is so wrong kept =
    let all : are_formed (view_groups groups) ≡ false = sym kept ∙ formed_is groups k group formed inside is so ∙ ap (λ b. b && are_formed (view_groups (drop (k + 1) groups))) wrong in
    sym (ap (λ b. not (has_no_group (view_groups groups)) && b) all ∙ none (not (has_no_group (view_groups groups))))
  where
    none : (b : Bool) → (b && false) ≡ false
    none true = refl
    none false = refl

-- a group more that is
pub formed_more : (groups : List code_group.Group) (k : ℕ) (group : code_group.Group) (formed : Bool) → k < length groups → group ≡ get_or groups k group
    → formed ≡ (has_some group.labels && (not (is_empty (view_stms group.body)) || nat_le (length groups) (k + 1)))
    → formed ≡ true → are_formed (view_groups (drop k groups)) ≡ are_formed (view_groups groups) → are_formed (view_groups (drop (k + 1) groups)) ≡ are_formed (view_groups groups)
formed_more groups k group formed inside is so right kept =
    sym (formed_is groups k group formed inside is so ∙ ap (λ b. b && are_formed (view_groups (drop (k + 1) groups))) right) ∙ kept
