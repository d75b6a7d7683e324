-- What is found of a method, part by part.
use Rattle.std.specs.Prelude.{◌≡◌, ◌⊎◌, ℕ, IsTrue, IsBitSet, List, [], Option, Some, None, ⊤}
use Rattle.dj_names.specs.Identifiers.{IsIdentifier}
use Rattle.dj_class.specs.Described.{ClassOf, MethodOf}
use Rattle.dj_syntax.specs.Trees.{Exp, view_exp}
use Rattle.dj_syntax.specs.UnitText.{is_interface}
use Rattle.dj_code.specs.declared.content.CodeContent.{CodeContent}
use Rattle.dj_code.specs.MethodCode.{Code}
use Rattle.dj_code.specs.ReadCode.{HasContent}
use Rattle.dj_values.specs.Fits.{is_static}
use Rattle.dj_straight.specs.Straight.{IsReturned, BreaksAt}
use Rattle.dj_straight.specs.declared.straight_method.Judged.{Judged}
use Rattle.dj_straight.specs.declared.straight_method.Judged.TheVariants.{Straight, NotYet}
use Rattle.dj_straight.specs.Ints.{AnswersInt}
use Rattle.dj_straight.specs.StraightMethod.{is_public, IsPlainCode, IsStraightMethod, IsNotYet}

-- the head of a straight method, its parameters aside
pub record HasPlainHead (class : ClassOf) (method : MethodOf) : Type 0 where
  pub name : IsIdentifier method.name
  pub static : IsTrue (is_static method.flags)
  pub public : IsTrue (is_interface class.flags) → IsTrue (is_public method.flags)
  pub no_bridge : ¬ IsBitSet method.flags 6
  pub thrown : method.thrown ≡ []
  pub answers : AnswersInt method.descriptor

-- the bytes of the instructions in the content of the method's Code, none where it has no such content
abbrev pub IsSpelledBy : MethodOf → Option (List ℕ) → Type 0
IsSpelledBy method None = (content : CodeContent) → ¬ HasContent method content
IsSpelledBy method (Some bytes) = (content : CodeContent) × HasContent method content × (content.code ≡ bytes)

-- what is found of the code of a method, spelled by these bytes
abbrev pub IsJudgedCode : ℕ → List ℕ → Code → Judged → Type 0
IsJudgedCode parameters bytes code (Straight exp) = IsPlainCode parameters code × IsReturned parameters code.max_stack bytes code.instructions (view_exp exp)
IsJudgedCode parameters bytes code (NotYet pc) =
    ((¬ IsPlainCode parameters code) × (pc ≡ 0)) ⊎ (IsPlainCode parameters code × BreaksAt parameters code.max_stack bytes code.instructions pc)

-- what is found of a method
abbrev pub IsJudged : ClassOf → List MethodOf → MethodOf → Judged → Type 0
IsJudged class before method (Straight exp) = IsStraightMethod class before method (view_exp exp)
IsJudged class before method (NotYet pc) = IsNotYet class before method pc

-- a fact of the expression that a straight method returns
abbrev pub IfStraight : Judged → (Exp → Type 0) → Type 0
IfStraight (Straight exp) property = property (view_exp exp)
IfStraight (NotYet pc) property = ⊤
