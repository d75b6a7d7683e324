-- What is well formed in a list is so item by item.
use Rattle.std.proofs.Common.{◌≡◌, ℕ, ◌<◌, Bool, List, [], ◌∷◌, map, length, get_or, sym, ap, subst}
use Rattle.std.specs.List.{AllByRecursion}
use Rattle.std.proofs.lemmas.List.Elements.{All-from_recursion}
use Rattle.dj_syntax.specs.declared.expression.Exp.{Exp as code_exp}
use Rattle.dj_syntax.specs.declared.statement.Stm.{Stm as code_stm}
use Rattle.dj_syntax.specs.declared.statement.Group.{Group as code_group}
use Rattle.dj_syntax.specs.declared.statement.Catch.{Catch as code_catch}
use Rattle.dj_syntax.specs.Trees.{Group, Catch, view_exp, view_exps, view_stm, view_stms, view_group, view_groups, view_catch, view_catches}
use Rattle.dj_syntax.specs.WellFormed.{IsQualified, IsWellFormedExp, AreWellFormedExps, IsWellFormedStm, AreWellFormedStms, AreWellFormedGroups, AreWellFormedCatches}
use Rattle.dj_syntax.proofs.TreeLists.{view_group-is, view_catch-is}

-- what holds of each item holds of one
pub item : {A : Type 0} (P : A → Type 0) (xs : List A) (i : ℕ) (x : A) → i < length xs → x ≡ get_or xs i x → AllByRecursion P xs → P x
item P xs i x within is all = subst P (sym is) (All-from_recursion P xs all i x within)

-- what holds of what each item is seen as holds of one
pub item_seen : {A B : Type 0} (view : A → B) (P : B → Type 0) (xs : List A) (i : ℕ) (x : A) → i < length xs → x ≡ get_or xs i x → AllByRecursion P (map view xs) → P (view x)
item_seen {A = A} view P xs i x within is all = item (λ y. P (view y)) xs i x within is (each xs all)
  where
    each : (xs : List A) → AllByRecursion P (map view xs) → AllByRecursion (λ y. P (view y)) xs
    each [] all = tt
    each (y ∷ ys) all = (all.0, each ys all.1)

pub exp_item : (xs : List code_exp) (i : ℕ) (x : code_exp) → i < length xs → x ≡ get_or xs i x → AreWellFormedExps (view_exps xs) → IsWellFormedExp (view_exp x)
exp_item xs i x within is all = item (λ y. IsWellFormedExp (view_exp y)) xs i x within is (each xs all)
  where
    each : (xs : List code_exp) → AreWellFormedExps (view_exps xs) → AllByRecursion (λ y. IsWellFormedExp (view_exp y)) xs
    each [] all = tt
    each (y ∷ ys) all = (all.0, each ys all.1)

pub stm_item : (helper : Bool) (xs : List code_stm) (i : ℕ) (x : code_stm) → i < length xs → x ≡ get_or xs i x → AreWellFormedStms helper (view_stms xs) → IsWellFormedStm helper (view_stm x)
stm_item helper xs i x within is all = item (λ y. IsWellFormedStm helper (view_stm y)) xs i x within is (each xs all)
  where
    each : (xs : List code_stm) → AreWellFormedStms helper (view_stms xs) → AllByRecursion (λ y. IsWellFormedStm helper (view_stm y)) xs
    each [] all = tt
    each (y ∷ ys) all = (all.0, each ys all.1)

pub group_item : (helper : Bool) (xs : List code_group) (i : ℕ) (x : code_group) → i < length xs → x ≡ get_or xs i x → AreWellFormedGroups helper (view_groups xs) → AreWellFormedStms helper (view_stms x.body)
group_item helper xs i x within is all =
    subst (λ (seen : Group). AreWellFormedStms helper seen.1) (view_group-is x) (item (λ y. AreWellFormedStms helper (view_group y).1) xs i x within is (each xs all))
  where
    each : (xs : List code_group) → AreWellFormedGroups helper (view_groups xs) → AllByRecursion (λ y. AreWellFormedStms helper (view_group y).1) xs
    each [] all = tt
    each (y ∷ ys) all = (all.3, each ys all.4)

-- a catch clause's class and its statements
abbrev IsCaught : Bool → Catch → Type 0
IsCaught helper catch = IsQualified catch.0 × AreWellFormedStms helper catch.2

pub catch_item : (helper : Bool) (xs : List code_catch) (i : ℕ) (x : code_catch) → i < length xs → x ≡ get_or xs i x → AreWellFormedCatches helper (view_catches xs)
    → IsQualified x.class × AreWellFormedStms helper (view_stms x.body)
catch_item helper xs i x within is all =
    subst (IsCaught helper) (view_catch-is x) (item (λ y. IsCaught helper (view_catch y)) xs i x within is (each xs all))
  where
    each : (xs : List code_catch) → AreWellFormedCatches helper (view_catches xs) → AllByRecursion (λ y. IsCaught helper (view_catch y)) xs
    each [] all = tt
    each (y ∷ ys) all = ((all.0, all.2), each ys all.3)
