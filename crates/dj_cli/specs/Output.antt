-- What a run tells of the files of an order, in pieces, and how far it got: the headline. Each definition that takes a world speaks of the one that the files make.
use Rattle.std.specs.Prelude.{◌≡◌, ◌≢◌, ◌⊎◌, ℕ, ◌+◌, Bool, true, false, not, if◌then◌else◌, List, [], ◌∷◌, ◌++◌, length, filter, map, sum_by, take, slice_get, Option, Some, None, IsSome, IsSomeAnd, MatchBool, ⊤, codes}
use Rattle.std.specs.List.{flat_map}
use Rattle.std.specs.Io.KnownBytes.{append_known}
use Rattle.dj_class.specs.Described.{ClassOf, FieldOf, MethodOf}
use Rattle.dj_class.specs.Views.{view_class}
use Rattle.dj_world.specs.Worlds.{WorldOf}
use Rattle.dj_syntax.specs.Trees.{Exp, Body, CompilationUnit}
use Rattle.dj_syntax.specs.UnitText.{unit_text}
use Rattle.dj_syntax.specs.WellFormed.{IsWellFormed}
use Rattle.dj_instructions.specs.declared.kinds.BadKind.{BadKind}
use Rattle.dj_frames.specs.Frames.{Frame}
use Rattle.dj_code.specs.MethodCode.{Code, Typed}
use Rattle.dj_code.specs.ReadCode.{SpellsCode, FirstCodeFault}
use Rattle.dj_tags.specs.Laxly.{Laxly}
use Rattle.dj_verify.specs.declared.rule.Rule.{Rule}
use Rattle.dj_verify.specs.Table.{IsFrameTable, IsFirstViolation}
use Rattle.dj_bytecode.specs.SameShows.{SameShows}
use Rattle.dj_typed.specs.Bodies.{IsTyped}
use Rattle.dj_straight.specs.StraightMethod.{IsStraightMethod, IsNotYet, IsBodyOf}
use Rattle.dj_causes.specs.declared.cause.Cause.{Cause}
use Rattle.dj_causes.specs.declared.cause.ClassCause.{ClassCause}
use Rattle.dj_causes.specs.declared.cause.FieldCause.{FieldCause}
use Rattle.dj_causes.specs.BareCauses.{HasBareCause, IsBareCause}
use Rattle.dj_causes.specs.ClassCauses.{HasClassCause, IsClassCause}
use Rattle.dj_causes.specs.FieldCauses.{IsFieldCause}
use Rattle.dj_method_causes.specs.Telling.{HasNoCause, IsToldCause, IsUntold}
use Rattle.dj_decompiled.specs.Decompiled.{IsDecompiled, IsNotYetAt}
use Rattle.dj_class_text.specs.ClassText.{IsClassText}
use Rattle.dj_class_text.specs.Apart.{IsApart}
use Rattle.dj_report.specs.Report.{line_text}
use Rattle.dj_report.specs.Report as report
use Rattle.dj_world.specs.declared.fault.ClashKind.{ClashKind}
use Rattle.dj_world.specs.declared.fault.ClashKind.TheVariants as clash
use Rattle.dj_making.specs.MadeFiles.{MadeSetting, made_names, summary_text}
use Rattle.dj_load.specs.HeldFiles.{Files, FileIs, Finds, IsClass, IsClash, IsBroken, Setting}

-- what is told of one file, or behind the last one: a text, and then the lines of the report on it; and how many of its methods are printed, and how many aren't
pub record Piece : Type 0 where
  pub text : List ℕ
  pub lines : List ℕ
  pub printed : ℕ
  pub refused : ℕ

-- ---- a method

-- what is found of a method, in the order in which a method is refused
pub data Verdict : Type 0 where
  Prints : Body → Verdict
  Bare : Verdict
  Refused : Cause → Verdict
  Bad : BadKind → ℕ → Verdict
  Unverified : Rule → ℕ → Verdict
  NotYet : ℕ → Verdict

-- code is verified in the world: it has a table of frames, by what the machine asks of references
pub record IsVerified (world : WorldOf) (code : Code) : Type 0 where
  pub frames : List Frame
  pub table : IsFrameTable (Laxly world.headers) world.headers code frames

-- a straight method of a class, and its body
pub record IsStraightBody (class : ClassOf) (before : List MethodOf) (method : MethodOf) (body : Body) : Type 0 where
  pub exp : Exp
  pub straight : IsStraightMethod class before method exp
  pub of_method : IsBodyOf class method exp body

-- a method of a class with code that is verified in the world by these frames, and has no cause; and its body, that of a straight method or the one to which the code's one block is decompiled. It shows the same as the code at every bound, for all arguments that fit and all answers, on each machine that has the classes of the world as it has them, those of the table of core classes too that no file has, whatever others it loads beside them;
-- and it is typed
pub record PrintsMethod (world : WorldOf) (class : ClassOf) (before : List MethodOf) (method : MethodOf) (body : Body) : Type 0 where
  pub typed : Typed
  pub spelled : SpellsCode class method typed.code
  pub table : IsFrameTable (Laxly world.headers) world.headers typed.code typed.frames
  pub free : HasNoCause world class (length before) typed
  pub made : IsStraightBody class before method body ⊎ IsDecompiled world typed body
  pub shows : SameShows world.headers world.members typed.code body
  pub lawful : IsTyped world.headers world.members body

-- the method at a place has no code, and no cause: it is printed without a body
pub record IsBareMethod (world : WorldOf) (class : ClassOf) (at : ℕ) (method : MethodOf) : Type 0 where
  pub none : method.code ≡ None
  pub free : (cause : Cause) → ¬ HasBareCause world class at cause

-- the method at a place has no code, and this is its first cause
pub record IsRefusedBare (world : WorldOf) (class : ClassOf) (at : ℕ) (method : MethodOf) (cause : Cause) : Type 0 where
  pub none : method.code ≡ None
  pub first : IsBareCause world class at (Some cause)

-- the method at a place has code, which is verified in the world by these frames, and this is its first cause, as it is told
pub record IsRefusedCode (world : WorldOf) (class : ClassOf) (at : ℕ) (method : MethodOf) (cause : Cause) : Type 0 where
  pub typed : Typed
  pub spelled : SpellsCode class method typed.code
  pub table : IsFrameTable (Laxly world.headers) world.headers typed.code typed.frames
  pub first : IsToldCause world class at typed (Some cause)

-- the method at a place isn't printed, and this is its first cause
abbrev pub IsRefusedMethod : WorldOf → ClassOf → ℕ → MethodOf → Cause → Type 0
IsRefusedMethod world class at method cause = IsRefusedBare world class at method cause ⊎ IsRefusedCode world class at method cause

-- a method has code that is none, and this is its first fault
pub record IsBadMethod (class : ClassOf) (method : MethodOf) (kind : BadKind) (pc : ℕ) : Type 0 where
  pub some : IsSome method.code
  pub first : FirstCodeFault class method kind pc

-- a method has code that isn't verified in the world, and this is the first rule that it breaks, at this offset
pub record IsUnverifiedMethod (world : WorldOf) (class : ClassOf) (method : MethodOf) (rule : Rule) (pc : ℕ) : Type 0 where
  pub code : Code
  pub spelled : SpellsCode class method code
  pub first : IsFirstViolation (Laxly world.headers) world.headers code pc rule

-- a method isn't straight, and its code, which is verified in the world by these frames, isn't decompiled yet, at this offset; no cause is told of it
pub record IsNotYetMethod (world : WorldOf) (class : ClassOf) (before : List MethodOf) (method : MethodOf) (pc : ℕ) : Type 0 where
  pub some : IsSome method.code
  pub other : ℕ
  pub not_straight : IsNotYet class before method other
  pub verified : (code : Code) → SpellsCode class method code → IsVerified world code
  pub typed : Typed
  pub spelled : SpellsCode class method typed.code
  pub table : IsFrameTable (Laxly world.headers) world.headers typed.code typed.frames
  pub untold : IsUntold world class (length before) typed
  pub not_yet : IsNotYetAt world typed pc

-- the verdict on a method of a class, those before it in the file given: it is printed, with a body or without, or it is refused for its first cause, or its code is bad, or it isn't verified, or the method isn't straight, nor is its code decompiled yet, at this offset
abbrev pub IsVerdict : WorldOf → ClassOf → List MethodOf → MethodOf → Verdict → Type 0
IsVerdict world class before method (Prints body) = PrintsMethod world class before method body
IsVerdict world class before method Bare = IsBareMethod world class (length before) method
IsVerdict world class before method (Refused cause) = IsRefusedMethod world class (length before) method cause
IsVerdict world class before method (Bad kind pc) = IsBadMethod class method kind pc
IsVerdict world class before method (Unverified rule pc) = IsUnverifiedMethod world class method rule pc
IsVerdict world class before method (NotYet pc) = IsNotYetMethod world class before method pc

-- one verdict for each method, in file order
abbrev pub AreVerdicts : WorldOf → ClassOf → List MethodOf → List MethodOf → List Verdict → Type 0
AreVerdicts world class before [] [] = ⊤
AreVerdicts world class before [] (verdict ∷ verdicts) = ⊥
AreVerdicts world class before (method ∷ methods) [] = ⊥
AreVerdicts world class before (method ∷ methods) (verdict ∷ verdicts) =
    IsVerdict world class before method verdict × AreVerdicts world class (before ++ method ∷ []) methods verdicts

-- the body that a method is printed with, where it is
abbrev pub body_of : Verdict → Option Body
body_of (Prints body) = Some body
body_of Bare = None
body_of (Refused cause) = None
body_of (Bad kind pc) = None
body_of (Unverified rule pc) = None
body_of (NotYet pc) = None

-- the same of each method
abbrev pub bodies_of : List Verdict → List (Option Body)
bodies_of verdicts = map body_of verdicts

-- a method is printed, with a body or without
abbrev pub is_printed : Verdict → Bool
is_printed (Prints body) = true
is_printed Bare = true
is_printed (Refused cause) = false
is_printed (Bad kind pc) = false
is_printed (Unverified rule pc) = false
is_printed (NotYet pc) = false

-- how many methods are printed
abbrev pub printed_among : List Verdict → ℕ
printed_among verdicts = length (filter is_printed verdicts)

-- how many aren't
abbrev pub refused_among : List Verdict → ℕ
refused_among verdicts = length (filter (λ verdict. not (is_printed verdict)) verdicts)

-- the line on a method, none where it is printed
abbrev pub method_line : ClassOf → MethodOf → Verdict → List ℕ
method_line class method (Prints body) = []
method_line class method Bare = []
method_line class method (Refused cause) = line_text (report.RefusedMethod class.this_class method.name method.descriptor cause)
method_line class method (Bad kind pc) = line_text (report.BadMethod class.this_class method.name method.descriptor kind pc)
method_line class method (Unverified rule pc) = line_text (report.UnverifiedMethod class.this_class method.name method.descriptor rule pc)
method_line class method (NotYet pc) = line_text (report.NotYetMethod class.this_class method.name method.descriptor pc)

-- the lines on methods, in file order
abbrev pub method_lines : ClassOf → List MethodOf → List Verdict → List ℕ
method_lines class [] verdicts = []
method_lines class (method ∷ methods) [] = []
method_lines class (method ∷ methods) (verdict ∷ verdicts) =
    method_line class method verdict ++ method_lines class methods verdicts

-- ---- a field

-- the first cause of each field from a place on, or that it has none, in file order
abbrev pub AreFieldCauses : WorldOf → ClassOf → ℕ → List FieldOf → List (Option FieldCause) → Type 0
AreFieldCauses world class at [] [] = ⊤
AreFieldCauses world class at [] (cause ∷ causes) = ⊥
AreFieldCauses world class at (field ∷ fields) [] = ⊥
AreFieldCauses world class at (field ∷ fields) (cause ∷ causes) =
    IsFieldCause world class at cause × AreFieldCauses world class (at + 1) fields causes

-- the line on a field, none where it is printed
abbrev pub field_line : ClassOf → FieldOf → Option FieldCause → List ℕ
field_line class field None = []
field_line class field (Some cause) = line_text (report.RefusedField class.this_class field.name field.descriptor cause)

-- the lines on fields, in file order
abbrev pub field_lines : ClassOf → List FieldOf → List (Option FieldCause) → List ℕ
field_lines class [] causes = []
field_lines class (field ∷ fields) [] = []
field_lines class (field ∷ fields) (cause ∷ causes) = field_line class field cause ++ field_lines class fields causes

-- ---- a file

-- the line that names the file in which a class's text belongs
abbrev pub file_line : List ℕ → List ℕ
file_line class = codes "// " ++ class ++ codes ".java" ++ 10 ∷ []

-- a class is printed that no cause refuses: with exactly its fields that have no cause, its methods without code that have none, and its methods with code that have none, where they are straight or decompiled. Its unit is well formed, no two of its members clash, no other well formed unit has its text, and each other field has its line, and behind them each other method
pub record PrintsClass (world : WorldOf) (class : ClassOf) (piece : Piece) : Type 0 where
  pub none : (cause : ClassCause) → ¬ HasClassCause world class cause
  pub causes : List (Option FieldCause)
  pub are_causes : AreFieldCauses world class 0 class.fields causes
  pub verdicts : List Verdict
  pub judged : AreVerdicts world class [] class.methods verdicts
  pub unit : CompilationUnit
  pub class_text : IsClassText world class (bodies_of verdicts) unit
  pub well_formed : IsWellFormed unit
  pub apart : IsApart unit
  pub one_reading : (other : CompilationUnit) → IsWellFormed other → unit_text other ≡ unit_text unit → other ≡ unit
  pub text_is : piece.text ≡ file_line class.this_class ++ unit_text unit
  pub lines_are : piece.lines ≡ field_lines class class.fields causes ++ method_lines class class.methods verdicts
  pub printed_is : piece.printed ≡ printed_among verdicts
  pub refused_is : piece.refused ≡ refused_among verdicts

-- a class isn't printed: it has no text, the line with its first cause, and none of its methods is printed
pub record RefusesClass (world : WorldOf) (class : ClassOf) (piece : Piece) : Type 0 where
  pub cause : ClassCause
  pub first : IsClassCause world class (Some cause)
  pub no_text : piece.text ≡ []
  pub line_is : piece.lines ≡ line_text (report.RefusedClass class.this_class cause)
  pub none_printed : piece.printed ≡ 0
  pub all_refused : piece.refused ≡ length class.methods

-- the piece of a class: it is printed, or it has a cause
pub data IsClassPiece (world : WorldOf) (class : ClassOf) (piece : Piece) : Type 0 where
  prints : PrintsClass world class piece → IsClassPiece world class piece
  refuses : RefusesClass world class piece → IsClassPiece world class piece

-- the piece of a file without a class in the world: a line, and no method
abbrev pub line_piece : List ℕ → Piece
line_piece line = record { text = []; lines = line; printed = 0; refused = 0 }

-- the piece of a file of this name: that of its class, or the line that its class clashes, or that it is broken
abbrev pub IsFilePiece : WorldOf → List ℕ → FileIs → Piece → Type 0
IsFilePiece world name (IsClass class) piece = IsClassPiece world (view_class class) piece
IsFilePiece world name (IsClash kind) piece = piece ≡ line_piece (line_text (report.Clash name kind))
IsFilePiece world name (IsBroken kind offset) piece = piece ≡ line_piece (line_text (report.Broken name kind offset))

-- ---- all files

-- the files that pieces are told of: their names, and whether the program makes them
pub record Source : Type 0 where
  pub names : List (List ℕ)
  pub made : Bool

-- files of these names are loaded
abbrev pub loaded_source : List (List ℕ) → Source
loaded_source names = record { names = names; made = false }

-- so many files are made
abbrev pub made_source : ℕ → Source
made_source number = record { names = made_names number; made = true }

-- the line on a list of library files that isn't UTF-8
abbrev pub unread_line : Option (List ℕ) → List ℕ
unread_line None = []
unread_line (Some path) = line_text (report.Unread path)

-- the line on a library file of this path whose class clashes with others: none where one of its name was there already
abbrev pub behind_line : List ℕ → ClashKind → List ℕ
behind_line path clash.Twice = []
behind_line path clash.Cycle = line_text (report.Clash path clash.Cycle)
behind_line path clash.SuperIsFinal = line_text (report.Clash path clash.SuperIsFinal)
behind_line path clash.SuperKind = line_text (report.Clash path clash.SuperKind)

-- the line on a library file of this path: none where its class is in the world
abbrev pub library_line : List ℕ → FileIs → List ℕ
library_line path (IsClass class) = []
library_line path (IsClash kind) = behind_line path kind
library_line path (IsBroken kind offset) = line_text (report.Broken path kind offset)

-- the same of library files of these paths, in order
abbrev pub library_lines : List (List ℕ) → List FileIs → List ℕ
library_lines [] found = []
library_lines (path ∷ paths) [] = []
library_lines (path ∷ paths) (file ∷ found) = library_line path file ++ library_lines paths found

-- the lines behind those on the named files: on the list of library files, and on these
abbrev pub last_lines : Finds → List ℕ
last_lines found = unread_line found.unread ++ library_lines found.paths found.library

-- how many methods are printed, by pieces
abbrev pub printed_of : List Piece → ℕ
printed_of pieces = sum_by (λ (piece : Piece). piece.printed) pieces

-- how many aren't
abbrev pub refused_of : List Piece → ℕ
refused_of pieces = sum_by (λ (piece : Piece). piece.refused) pieces

-- the text behind those of these pieces: where files are made, the line on them and on their methods
abbrev pub last_text : Source → List Piece → List ℕ
last_text source before =
    if source.made then summary_text (length source.names) (printed_of before) (refused_of before) else []

-- the piece behind those of the files: it has no method
pub record IsLastPiece (source : Source) (found : Finds) (before : List Piece) (piece : Piece) : Type 0 where
  pub text_is : piece.text ≡ last_text source before
  pub lines_are : piece.lines ≡ last_lines found
  pub none_printed : piece.printed ≡ 0
  pub none_refused : piece.refused ≡ 0

-- the piece behind these: that of the next file, or behind all of these the last one
abbrev pub IsNext : Source → Finds → WorldOf → List Piece → Piece → Type 0
IsNext source found world before piece =
    IsSomeAnd (slice_get source.names (length before)) (λ name. IsSomeAnd (slice_get found.named (length before)) (λ file. IsFilePiece world name file piece))
    ⊎ ((length before ≡ length source.names) × IsLastPiece source found before piece)

-- some first pieces, in order
pub data AreFirst (source : Source) (found : Finds) (world : WorldOf) : List Piece → Type 0 where
  none : AreFirst source found world []
  more : (before : List Piece) (piece : Piece) → AreFirst source found world before → IsNext source found world before piece → AreFirst source found world (before ++ piece ∷ [])

-- the texts of pieces, one after another
abbrev pub text_of : List Piece → List ℕ
text_of pieces = flat_map (λ (piece : Piece). piece.text) pieces

-- the lines of pieces, one after another
abbrev pub lines_of : List Piece → List ℕ
lines_of pieces = flat_map (λ (piece : Piece). piece.lines) pieces

-- ---- what was told

-- the text and the report grew by these pieces, and then by so much
pub record Grew (pieces : List Piece) (text lines : List ℕ) (text_old text_new report_old report_new : Option (List ℕ)) : Type 0 where
  pub text_taken : text_new ≡ append_known text_old (text_of pieces ++ text)
  pub report_taken : report_new ≡ append_known report_old (lines_of pieces ++ lines)

-- so many first pieces were told, whole, and nothing besides; the flag tells whether they have a line
pub record ToldFirst (count : ℕ) (refused : Bool) (text_old text_new report_old report_new : Option (List ℕ)) (source : Source) (found : Finds) (world : WorldOf) : Type 0 where
  pub pieces : List Piece
  pub are : AreFirst source found world pieces
  pub number : length pieces ≡ count
  pub grew : Grew pieces [] [] text_old text_new report_old report_new
  pub refused_is : MatchBool refused (lines_of pieces ≢ []) (lines_of pieces ≡ [])

-- the pieces of all files and the last one were told; the flag tells whether there is a line
abbrev pub ToldAll : Bool → Option (List ℕ) → Option (List ℕ) → Option (List ℕ) → Option (List ℕ) → Source → Finds → WorldOf → Type 0
ToldAll refused text_old text_new report_old report_new source found world =
    ToldFirst (length source.names + 1) refused text_old text_new report_old report_new source found world

-- some first pieces were told, whole, and nothing besides
abbrev pub ToldSome : Option (List ℕ) → Option (List ℕ) → Option (List ℕ) → Option (List ℕ) → Source → Finds → WorldOf → Type 0
ToldSome text_old text_new report_old report_new source found world =
    (count : ℕ) × (refused : Bool) × ToldFirst count refused text_old text_new report_old report_new source found world

-- where telling a piece was cut off
pub data Cut : Type 0 where
  InText : Cut
  InLines : Cut

-- what was told of a piece that was cut off: a prefix of its text and no line, or its text whole and a prefix of its lines
abbrev pub Front : Cut → Piece → List ℕ → List ℕ → Type 0
Front InText piece text lines = (count : ℕ) × (text ≡ take count piece.text) × (lines ≡ [])
Front InLines piece text lines = (count : ℕ) × (text ≡ piece.text) × (lines ≡ take count piece.lines)

-- some first pieces were told, whole, of the next one a front, and nothing besides
pub record ToldFront (cut : Cut) (text_old text_new report_old report_new : Option (List ℕ)) (source : Source) (found : Finds) (world : WorldOf) : Type 0 where
  pub pieces : List Piece
  pub are : AreFirst source found world pieces
  pub next : Piece
  pub is_next : IsNext source found world pieces next
  pub text : List ℕ
  pub lines : List ℕ
  pub front : Front cut next text lines
  pub grew : Grew pieces text lines text_old text_new report_old report_new

-- so much was told of the files of an order and of the world that they make; they are the named ones and those of this list where the files tell what they hold
pub record OfFiles (held : Option Files) (named : List (List ℕ)) (list : Option (List ℕ)) (Told : Source → Finds → WorldOf → Type 0) : Type 0 where
  pub found : Finds
  pub world : WorldOf
  pub setting : Setting held named list found world
  pub told : Told (loaded_source named) found world

-- so much was told of so many files that the program made, and of the world that they make
pub record OfMade (number : ℕ) (Told : Source → Finds → WorldOf → Type 0) : Type 0 where
  pub found : Finds
  pub world : WorldOf
  pub setting : MadeSetting number found world
  pub told : Told (made_source number) found world

-- a run that wanted memory had put nothing, or so much was told
abbrev pub StopsForMemory : Option (List ℕ) → Option (List ℕ) → Option (List ℕ) → Option (List ℕ) → Type 0 → Type 0
StopsForMemory text_old text_new report_old report_new told =
    ((text_new ≡ text_old) × (report_new ≡ report_old)) ⊎ told
