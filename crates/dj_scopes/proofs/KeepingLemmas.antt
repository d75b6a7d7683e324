-- What variables were is put back.
use Rattle.std.proofs.Common.{◌≡◌, ℕ, ◌+◌, ◌<◌, ◌≤◌, ◌==◌, Bool, true, false, List, [], ◌∷◌, ◌++◌, length, drop, get_or, Option, Some, None, refl, sym, ap, ◌∙◌}
use Rattle.std.specs.Prelude.{option_map, if◌then◌else◌}
use Rattle.std.proofs.lemmas.Bool.{eqb-true, and_parts}
use Rattle.std.proofs.lemmas.List.{drop_more, drop_all}
use Rattle.dj_names.specs.Types.{JType, view_type}
use Rattle.dj_syntax.specs.declared.statement.Stm as code_stm
use Rattle.dj_syntax.specs.Trees.{Empty, And, view_stm, view_stms}
use Rattle.dj_syntax.specs.declared.variable.VarKind.{VarKind}
use Rattle.dj_syntax.specs.declared.variable.VarKind.TheVariants as kind
use Rattle.dj_syntax.specs.declared.variable.Var.{Var}
use Rattle.dj_syntax.specs.NameText.{letter}
use Rattle.dj_meaning.specs.StaticTypes.{Scope, is_same_variable, with_type}
use Rattle.dj_meaning.specs.Declarations.{declared, within, behind}
use Rattle.dj_scopes.specs.declared.keeping.Kept.{Kept}
use Rattle.dj_scopes.specs.Keeping.{with_kind, scope_back, scope_without}

-- ---- variables that are spelled alike are one

same_kind : (first second : VarKind) → (letter first == letter second) ≡ true → first ≡ second
same_kind kind.Param kind.Param is = refl
same_kind kind.Param kind.Local is = absurd (cc)
same_kind kind.Param kind.Caught is = absurd (cc)
same_kind kind.Param kind.State is = absurd (cc)
same_kind kind.Local kind.Param is = absurd (cc)
same_kind kind.Local kind.Local is = refl
same_kind kind.Local kind.Caught is = absurd (cc)
same_kind kind.Local kind.State is = absurd (cc)
same_kind kind.Caught kind.Param is = absurd (cc)
same_kind kind.Caught kind.Local is = absurd (cc)
same_kind kind.Caught kind.Caught is = refl
same_kind kind.Caught kind.State is = absurd (cc)
same_kind kind.State kind.Param is = absurd (cc)
same_kind kind.State kind.Local is = absurd (cc)
same_kind kind.State kind.Caught is = absurd (cc)
same_kind kind.State kind.State is = refl

pub one_variable : (first second : Var) → is_same_variable first second ≡ true → first ≡ second
one_variable first second is =
    let both = and_parts (letter first.kind == letter second.kind) (first.number == second.number) is in
    λ i. record { kind = same_kind first.kind second.kind both.0 i; number = eqb-true first.number second.number both.1 i }

-- ---- one more is kept

pub scope_back-push : (kept : List Kept) (one : Kept) (scope : Scope) → scope_back (kept ++ one ∷ []) scope ≡ scope_back kept (with_kind one.variable (option_map view_type one.kind) scope)
scope_back-push [] one scope = refl
scope_back-push (first ∷ rest) one scope = ap (with_kind first.variable (option_map view_type first.kind)) (scope_back-push rest one scope)

-- a type put back behind a declaration
put_back_one : (test : Bool) (before type other : Option JType) → (test ≡ true → before ≡ other) → (if test then before else (if test then type else other)) ≡ other
put_back_one true before type other same = same refl
put_back_one false before type other same = refl

pub kept_one : (variable : Var) (type : JType) (scope : Scope) → with_kind variable (scope variable) (with_type variable type scope) ≡ scope
kept_one variable type scope = λ i other. put_back_one (is_same_variable other variable) (scope variable) (Some type) (scope other) (λ is. ap scope (sym (one_variable other variable is))) i

pub kept_within : (one : Option (Var × JType)) (scope : Scope) → scope_without one scope (within one scope) ≡ scope
kept_within None scope = refl
kept_within (Some one) scope = kept_one one.0 one.1 scope

-- ---- a list, of which so many statements are done

pub scope_kept : (kept more : List Kept) (one : Option (Var × JType)) (scope after : Scope) → ((other : Scope) → scope_back more other ≡ scope_back kept (scope_without one scope other)) → after ≡ within one scope
    → scope_back more after ≡ scope_back kept scope
scope_kept kept more one scope after keeps is = ap (scope_back more) is ∙ keeps (within one scope) ∙ ap (scope_back kept) (kept_within one scope)

pub stms_more : (list : List code_stm.Stm) (k : ℕ) (stm : code_stm.Stm) → k < length list → stm ≡ get_or list k stm → view_stms (drop k list) ≡ And (view_stm stm) (view_stms (drop (k + 1) list))
stms_more list k stm within is = ap view_stms (drop_more list k stm within) ∙ ap (λ one. And (view_stm one) (view_stms (drop (k + 1) list))) (sym is)

pub stms_none : (list : List code_stm.Stm) (k : ℕ) → length list ≤ k → view_stms (drop k list) ≡ Empty
stms_none list k past = ap view_stms (drop_all k list past)

pub behind_more : (list : List code_stm.Stm) (k : ℕ) (stm : code_stm.Stm) (scope after whole : Scope) → k < length list → stm ≡ get_or list k stm → after ≡ within (declared (view_stm stm)) scope
    → behind (view_stms (drop k list)) scope ≡ whole → behind (view_stms (drop (k + 1) list)) after ≡ whole
behind_more list k stm scope after whole within_list is so so_far = ap (behind (view_stms (drop (k + 1) list))) so ∙ sym (ap (λ stms. behind stms scope) (stms_more list k stm within_list is)) ∙ so_far

pub behind_all : (list : List code_stm.Stm) (k : ℕ) (scope whole : Scope) → length list ≤ k → behind (view_stms (drop k list)) scope ≡ whole → scope ≡ whole
behind_all list k scope whole past so_far = sym (ap (λ stms. behind stms scope) (stms_none list k past)) ∙ so_far
