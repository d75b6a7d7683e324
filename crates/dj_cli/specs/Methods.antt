-- What is found of the fields and the methods of a class.
use Rattle.std.specs.Prelude.{◌≡◌, ℕ, false, List, [], ◌++◌, length, slice_get, Option, Some, None, IsSomeAnd}
use Rattle.dj_class.specs.Described.{ClassOf, FieldOf, MethodOf}
use Rattle.dj_world.specs.Worlds.{WorldOf, IsWorld}
use Rattle.dj_code.specs.MethodCode.{Typed}
use Rattle.dj_code.specs.ReadCode.{SpellsCode}
use Rattle.dj_tags.specs.Laxly.{Laxly}
use Rattle.dj_verify.specs.Table.{IsFrameTable}
use Rattle.dj_syntax.specs.Trees.{Exp, Body, view_body, view_exp}
use Rattle.dj_syntax.specs.UnitText.{is_interface}
use Rattle.dj_syntax.specs.WellFormed.{IsWellFormedExp}
use Rattle.dj_causes.specs.declared.cause.FieldCause.{FieldCause}
use Rattle.dj_causes.specs.FieldCauses.{IsFieldCause}
use Rattle.dj_method_causes.specs.Telling.{HasNoCause}
use Rattle.dj_class_text.specs.Formed.{FitsBody, FitBodies}
use Rattle.dj_straight.specs.StraightMethod.{IsStraightMethod}
use Rattle.dj_cli.specs.declared.methods.Finding.{Finding}
use Rattle.dj_cli.specs.declared.methods.Finding.TheVariants as finding
use Rattle.dj_cli.specs.declared.methods.Told.{Told}
use Rattle.dj_cli.specs.declared.methods.Told.TheVariants as told
use Rattle.dj_report.specs.Report.{shown_method}
use Rattle.dj_cli.specs.declared.endings.MemberLine.{MemberLine}
use Rattle.dj_cli.specs.Lines.{ending_bytes, line_bytes}
use Rattle.dj_cli.specs.Output.{Verdict, PrintsMethod, IsBareMethod, IsRefusedMethod, IsBadMethod, IsUnverifiedMethod, IsNotYetMethod, IsVerdict, AreVerdicts, AreFieldCauses, body_of, bodies_of, field_line, field_lines, is_printed, method_line, method_lines, refused_among}

-- the causes of the fields of a class, and the lines on those that have one
pub record HaveLines (world : WorldOf) (class : ClassOf) (fields : List FieldOf) (lines : List ℕ) : Type 0 where
  pub causes : List (Option FieldCause)
  pub are : AreFieldCauses world class 0 fields causes
  pub lines_are : lines ≡ field_lines class fields causes

-- the line on the field at a place, where it has a cause
abbrev pub IsFieldLine : WorldOf → ClassOf → ℕ → Option MemberLine → Type 0
IsFieldLine world class at None = IsFieldCause world class at None
IsFieldLine world class at (Some line) =
    IsSomeAnd (slice_get class.fields at) (λ field. (cause : FieldCause) × IsFieldCause world class at (Some cause) × (line_bytes class.this_class line ≡ field_line class field (Some cause)))

-- a straight method whose code is verified in the world by these frames, which has no cause, with its expression, well formed
pub record IsPrintable (world : WorldOf) (class : ClassOf) (before : List MethodOf) (method : MethodOf) (exp : Exp) : Type 0 where
  pub is_world : IsWorld world
  pub here : slice_get class.methods (length before) ≡ Some method
  pub straight : IsStraightMethod class before method exp
  pub typed : Typed
  pub spelled : SpellsCode class method typed.code
  pub table : IsFrameTable (Laxly world.headers) world.headers typed.code typed.frames
  pub free : HasNoCause world class (length before) typed
  pub fits : IsWellFormedExp exp

-- the body of a method that is printed, which fits it
pub record IsPrintOf (world : WorldOf) (class : ClassOf) (before : List MethodOf) (method : MethodOf) (body : Body) : Type 0 where
  pub prints : PrintsMethod world class before method body
  pub fits : FitsBody (is_interface class.flags) class.this_class method body

-- what is found of a method of a class, those before it given
abbrev pub IsFound : WorldOf → ClassOf → List MethodOf → MethodOf → Finding → Type 0
IsFound world class before method (finding.Straight exp) = IsPrintable world class before method (view_exp exp)
IsFound world class before method (finding.Decompiled body) = IsPrintOf world class before method (view_body body)
IsFound world class before method finding.Bare = IsBareMethod world class (length before) method
IsFound world class before method (finding.Refused cause) = IsRefusedMethod world class (length before) method cause
IsFound world class before method (finding.Bad pc kind) = IsBadMethod class method kind pc
IsFound world class before method (finding.Unverified pc rule) = IsUnverifiedMethod world class method rule pc
IsFound world class before method (finding.NotYet pc) = IsNotYetMethod world class before method pc

-- a verdict on a method that isn't printed, and the end of its line
pub record IsLineOf (world : WorldOf) (class : ClassOf) (before : List MethodOf) (method : MethodOf) (tail : List ℕ) : Type 0 where
  pub verdict : Verdict
  pub is_verdict : IsVerdict world class before method verdict
  pub no_body : body_of verdict ≡ None
  pub not_printed : is_printed verdict ≡ false
  pub line_is : method_line class method verdict ≡ shown_method class.this_class method.name method.descriptor ++ tail

-- what is told of a method
abbrev pub IsToldOf : WorldOf → ClassOf → List MethodOf → MethodOf → Told → Type 0
IsToldOf world class before method (told.Body body) = IsPrintOf world class before method (view_body body)
IsToldOf world class before method told.Bare = IsBareMethod world class (length before) method
IsToldOf world class before method (told.Line ending) = IsLineOf world class before method (ending_bytes ending)

-- verdicts on methods of a class, the bodies of those that are printed with one, each of which fits, the lines on those that aren't printed, and how many these are
pub record AreJudged (world : WorldOf) (class : ClassOf) (methods : List MethodOf) (bodies : List (Option Body)) (lines : List ℕ) (refused : ℕ) : Type 0 where
  pub verdicts : List Verdict
  pub judged : AreVerdicts world class [] methods verdicts
  pub bodies_are : bodies ≡ bodies_of verdicts
  pub lines_are : lines ≡ method_lines class methods verdicts
  pub refused_is : refused ≡ refused_among verdicts
  pub fit : FitBodies (is_interface class.flags) class.this_class methods bodies
