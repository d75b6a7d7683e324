-- Expressions that assign nothing.
use Rattle.std.proofs.Common.{◌≡◌, Bool, true, false, refl, ap, ◌∙◌}
use Rattle.std.specs.Prelude.{◌&&◌, ◌||◌}
use Rattle.dj_syntax.specs.declared.variable.Var.{Var}
use Rattle.dj_syntax.specs.Trees.{Exp, Text, Truth, This, Variable, ClassOf, Field, Static, Element, Call, StaticCall, SuperCall, New, NewArray, Cast, InstanceOf, Negative, Not, Binary, Choice, Assign, Exps, NoExps, AndExp}
use Rattle.dj_syntax.specs.Trees as trees
use Rattle.dj_rebuilding.specs.Pending.{assigns, assigns_any}
use Rattle.dj_pending.specs.Heights.{is_quiet, are_quiet}

-- both of two, where both are
pub first_of : (first second : Bool) → first && second ≡ true → first ≡ true
first_of true second e = refl
first_of false second e = absurd (cc)

pub second_of : (first second : Bool) → first && second ≡ true → second ≡ true
second_of true second e = e
second_of false second e = absurd (cc)

neither : (first second : Bool) → first ≡ false → second ≡ false → first || second ≡ false
neither first second f s = ap (λ (one : Bool). one || second) f ∙ s

mutual
  -- a quiet expression assigns no variable
  pub quiet : (variable : Var) (exp : Exp) → is_quiet exp ≡ true → assigns exp variable ≡ false
  quiet variable (trees.Int number) h = refl
  quiet variable (trees.Long number) h = refl
  quiet variable (Text units) h = refl
  quiet variable (Truth known) h = refl
  quiet variable trees.Null h = refl
  quiet variable This h = refl
  quiet variable (Variable read) h = refl
  quiet variable (ClassOf kind) h = refl
  quiet variable (Field object name) h = quiet variable object h
  quiet variable (Static class name) h = refl
  quiet variable (Element array index) h = neither _ _ (quiet variable array (first_of _ _ h)) (quiet variable index (second_of _ _ h))
  quiet variable (Call object name arguments) h = neither _ _ (quiet variable object (first_of _ _ h)) (all_quiet variable arguments (second_of _ _ h))
  quiet variable (StaticCall class name arguments) h = all_quiet variable arguments h
  quiet variable (SuperCall above name arguments) h = all_quiet variable arguments h
  quiet variable (New class arguments) h = all_quiet variable arguments h
  quiet variable (NewArray kind sizes more) h = all_quiet variable sizes h
  quiet variable (Cast kind operand) h = quiet variable operand h
  quiet variable (InstanceOf operand kind) h = quiet variable operand h
  quiet variable (Negative operand) h = quiet variable operand h
  quiet variable (Not operand) h = quiet variable operand h
  quiet variable (Binary operator first second) h = neither _ _ (quiet variable first (first_of _ _ h)) (quiet variable second (second_of _ _ h))
  quiet variable (Choice test first second) h =
      neither _ _ (quiet variable test (first_of _ _ h)) (neither _ _ (quiet variable first (first_of _ _ (second_of (is_quiet test) _ h))) (quiet variable second (second_of (is_quiet first) _ (second_of (is_quiet test) _ h))))
  quiet variable (Assign written new) h = absurd (cc)

  -- nor do several
  pub all_quiet : (variable : Var) (exps : Exps) → are_quiet exps ≡ true → assigns_any exps variable ≡ false
  all_quiet variable NoExps h = refl
  all_quiet variable (AndExp first rest) h = neither _ _ (quiet variable first (first_of _ _ h)) (all_quiet variable rest (second_of _ _ h))
