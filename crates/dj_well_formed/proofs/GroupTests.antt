-- What a group of a switch is tested for, and its list with it.
use Rattle.std.proofs.Common.{◌≡◌, ◌≢◌, ◌↔◌, ◌==◌, ◌<◌, ◌+◌, ◌-◌, ℕ, ℤ, Bool, not, ◌||◌, IsTrue, List, [], ◌∷◌, length, drop, get_or, Option, sym, subst, arith, ne_eqb}
use Rattle.std.specs.List.{AllByRecursion}
use Rattle.std.proofs.lemmas.Bool.{eq-eqb}
use Rattle.std.proofs.lemmas.List.{length-drop}
use Rattle.dj_syntax.specs.declared.statement.Group.{Group as code_group}
use Rattle.dj_syntax.specs.Trees.{Stms, AndGroup, Groups, view_groups, view_stms}
use Rattle.dj_syntax.specs.UnitText.{is_empty}
use Rattle.dj_syntax.specs.WellFormed.{AreWellFormedGroups, AreWellFormedStms, IsCase, has_no_group}
use Rattle.dj_syntax.proofs.TreeLists.{groups_from}

-- a group is the last where its index is
pub last_is : (list : List code_group) (index : ℕ) → index < length list → (index + 1 == length list) ≡ has_no_group (view_groups (drop (index + 1) list))
last_is list index within = go (drop (index + 1) list) (length-drop (index + 1) list)
  where
    go : (rest : List code_group) → length rest ≡ length list - (index + 1) → (index + 1 == length list) ≡ has_no_group (view_groups rest)
    go [] is = eq-eqb (index + 1) (length list) (omega (arith, is, within))
    go (x ∷ xs) is = ne_eqb (index + 1) (length list) (λ same. omega (arith, is, same))

-- a group that is well formed, given whether it is the last
abbrev pub IsGroup : Bool → Bool → List (Option ℤ) → Stms → Type 0
IsGroup helper last labels body = (labels ≢ []) × AllByRecursion IsCase labels × IsTrue (not (is_empty body) || last) × AreWellFormedStms helper body

-- groups from an index on are the one there and those behind it
pub groups_step : (helper : Bool) (list : List code_group) (index : ℕ) (group : code_group) (last : Bool) → index < length list → group ≡ get_or list index group
    → last ≡ has_no_group (view_groups (drop (index + 1) list))
    → AreWellFormedGroups helper (view_groups (drop index list)) ↔ (IsGroup helper last group.labels (view_stms group.body) × AreWellFormedGroups helper (view_groups (drop (index + 1) list)))
groups_step helper list index group last within is of_last =
    let body = view_stms group.body in
    let rest = view_groups (drop (index + 1) list) in
    subst (λ (groups : Groups). AreWellFormedGroups helper groups ↔ (IsGroup helper last group.labels body × AreWellFormedGroups helper rest)) (sym (groups_from list index group within is))
    (subst (λ (known : Bool). AreWellFormedGroups helper (AndGroup group.labels body rest) ↔ (IsGroup helper known group.labels body × AreWellFormedGroups helper rest)) (sym of_last)
    (λ all. ((all.0, all.1, all.2, all.3), all.4), λ both. (both.0.0, both.0.1, both.0.2, both.0.3, both.1)))
