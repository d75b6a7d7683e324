-- The piece of a class, as the code keeps it.
use Rattle.std.specs.Prelude.{ℕ, ◌<◌, ◌^◌, List, [], ◌++◌, length, Some, ⊤}
use Rattle.dj_class.specs.declared.class.ClassFile.{ClassFile}
use Rattle.dj_class.specs.Described.{ClassOf}
use Rattle.dj_class.specs.Views.{view_class}
use Rattle.dj_world.specs.Worlds.{WorldOf}
use Rattle.dj_causes.specs.declared.cause.ClassCause.{ClassCause}
use Rattle.dj_causes.specs.ClassCauses.{IsClassCause}
use Rattle.dj_class_text.specs.Formed.{IsFromFile}
use Rattle.dj_load.specs.HeldFiles.{FileIs, IsClass, IsClash, IsBroken}
use Rattle.dj_cli.specs.declared.endings.MemberLine.{MemberLine}
use Rattle.dj_cli.specs.declared.last.LastPiece.{LastPiece}
use Rattle.dj_cli.specs.declared.pieces.ClassPiece.{ClassPiece}
use Rattle.dj_cli.specs.declared.pieces.ClassTold.{ClassTold}
use Rattle.dj_cli.specs.declared.pieces.ClassTold.TheVariants as told
use Rattle.dj_syntax.specs.Trees.{CompilationUnit}
use Rattle.dj_syntax.specs.UnitText.{unit_text}
use Rattle.dj_report.specs.Report.{line_text}
use Rattle.dj_report.specs.Report as report
use Rattle.dj_cli.specs.Lines.{lines_bytes}
use Rattle.dj_cli.specs.Output.{Piece, PrintsClass, file_line}

-- the text of a class: the line that names its file, and its unit
abbrev pub text_bytes : ClassPiece → List ℕ
text_bytes piece = piece.line.items ++ piece.unit.items

-- the report on a class of this name: the lines on its fields, and those on its methods
abbrev pub report_bytes : List ℕ → ClassPiece → List ℕ
report_bytes class piece = lines_bytes class piece.fields.items ++ lines_bytes class piece.methods.items

-- the piece of a class of this name
abbrev pub piece_of : List ℕ → ClassPiece → Piece
piece_of class piece = record { text = text_bytes piece; lines = report_bytes class piece; printed = piece.printed; refused = length piece.methods.items }

-- the piece of a class of this name, whose unit and lines are these, and of which so many methods are printed
abbrev pub piece_of_parts : List ℕ → CompilationUnit → List MemberLine → List MemberLine → ℕ → Piece
piece_of_parts class unit fields methods printed = record { text = file_line class ++ unit_text unit; lines = lines_bytes class fields ++ lines_bytes class methods; printed = printed; refused = length methods }

-- the piece of a class of this name, with so many methods, that is refused for this cause
abbrev pub refused_piece : List ℕ → ClassCause → ℕ → Piece
refused_piece class cause methods = record { text = []; lines = line_text (report.RefusedClass class cause); printed = 0; refused = methods }

-- the piece behind those of the files
abbrev pub end_piece : LastPiece → Piece
end_piece piece = record { text = piece.text.items; lines = piece.lines.items; printed = 0; refused = 0 }

-- what is told of a class: its piece, or the cause for which it isn't printed
abbrev pub IsClassTold : WorldOf → ClassOf → ClassTold → Type 0
IsClassTold world class (told.Printed piece) = PrintsClass world class (piece_of class.this_class piece)
IsClassTold world class (told.Refused cause) = IsClassCause world class (Some cause)

-- a class is as one is that was read from a file, which has 65,535 methods at most
pub record IsReadClass (class : ClassFile) : Type 0 where
  pub of_file : IsFromFile (view_class class)
  pub few : length class.methods < 2 ^ 32

-- the same of a file's class
abbrev pub IsOfFile : FileIs → Type 0
IsOfFile (IsClass class) = IsReadClass class
IsOfFile (IsClash kind) = ⊤
IsOfFile (IsBroken kind offset) = ⊤
