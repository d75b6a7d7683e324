-- A list of the code is empty where the list that it is seen as has nothing.
use Rattle.std.proofs.Common.{◌≡◌, ◌==◌, List, [], ◌∷◌, length, refl, arith, ne_eqb}
use Rattle.dj_syntax.specs.declared.expression.Exp.{Exp as code_exp}
use Rattle.dj_syntax.specs.declared.statement.Stm.{Stm as code_stm}
use Rattle.dj_syntax.specs.declared.statement.Group.{Group as code_group}
use Rattle.dj_syntax.specs.declared.statement.Catch.{Catch as code_catch}
use Rattle.dj_syntax.specs.Trees.{view_exps, view_stms, view_groups, view_catches}
use Rattle.dj_syntax.specs.UnitText.{is_empty}
use Rattle.dj_syntax.specs.WellFormed.{has_no_exp, has_no_group, has_no_catch}

pub no_exp : (list : List code_exp) → (length list == 0) ≡ has_no_exp (view_exps list)
no_exp [] = refl
no_exp (x ∷ xs) = ne_eqb (length (x ∷ xs)) 0 (λ is. omega (arith, is))

pub no_stm : (list : List code_stm) → (length list == 0) ≡ is_empty (view_stms list)
no_stm [] = refl
no_stm (x ∷ xs) = ne_eqb (length (x ∷ xs)) 0 (λ is. omega (arith, is))

pub no_group : (list : List code_group) → (length list == 0) ≡ has_no_group (view_groups list)
no_group [] = refl
no_group (x ∷ xs) = ne_eqb (length (x ∷ xs)) 0 (λ is. omega (arith, is))

pub no_catch : (list : List code_catch) → (length list == 0) ≡ has_no_catch (view_catches list)
no_catch [] = refl
no_catch (x ∷ xs) = ne_eqb (length (x ∷ xs)) 0 (λ is. omega (arith, is))
