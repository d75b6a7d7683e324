-- How telling the pieces of files ends.
use Rattle.std.specs.Prelude.{◌≡◌, ◌≢◌, ℕ, Bool, List, [], Option, Result, Ok, Err, MatchBool, String, map}
use Rattle.std.specs.String.{string_bytes}
use Rattle.std.specs.declared.alloc.Global.{Global}
use Rattle.std.specs.Io.KnownBytes.{append_known}
use Rattle.dj_cli.specs.declared.telling.TellStop.{TellStop}
use Rattle.dj_cli.specs.declared.telling.TellStop.TheVariants.{Text, Report, Memory}
use Rattle.dj_load.specs.HeldFiles.{Finds}
use Rattle.dj_world.specs.Worlds.{WorldOf}
use Rattle.dj_cli.specs.declared.tally.Tally.{Tally}
use Rattle.dj_cli.specs.Output.{Piece, Source, ToldFirst, Cut, InText, InLines, Front, printed_of, refused_of}

-- a fact where the text could not be written, one where the report could not, and one where memory was wanting
abbrev pub StoppedTelling : TellStop → Type 0 → Type 0 → Type 0 → Type 0
StoppedTelling Text text report memory = text
StoppedTelling Report text report memory = report
StoppedTelling (Memory error) text report memory = memory

-- no fault was counted, but by the text where it could not be written, and by the report where it could not
abbrev pub IsCalm : {X : Type 0} → Result X TellStop → ℕ → ℕ → ℕ → ℕ → Type 0
IsCalm (Ok done) text_old text_new report_old report_new = (text_new ≡ text_old) × (report_new ≡ report_old)
IsCalm (Err Text) text_old text_new report_old report_new = report_new ≡ report_old
IsCalm (Err Report) text_old text_new report_old report_new = text_new ≡ text_old
IsCalm (Err (Memory error)) text_old text_new report_old report_new = (text_new ≡ text_old) × (report_new ≡ report_old)

-- a piece of this kind was told, whole, with what there is of it to count
pub record TellsPiece (Is : Piece → Type 0) (tally : Tally) (text_old text_new report_old report_new : Option (List ℕ)) : Type 0 where
  pub piece : Piece
  pub is : Is piece
  pub text_taken : text_new ≡ append_known text_old piece.text
  pub report_taken : report_new ≡ append_known report_old piece.lines
  pub has_line_is : MatchBool tally.has_line (piece.lines ≢ []) (piece.lines ≡ [])
  pub printed_is : tally.printed ≡ piece.printed
  pub refused_is : tally.refused ≡ piece.refused

-- so many first pieces were told, whole, and nothing besides, with what there is of them to count
pub record Tallies (count : ℕ) (tally : Tally) (text_old text_new report_old report_new : Option (List ℕ)) (source : Source) (found : Finds) (world : WorldOf) : Type 0 where
  pub told : ToldFirst count tally.has_line text_old text_new report_old report_new source found world
  pub printed_is : tally.printed ≡ printed_of told.pieces
  pub refused_is : tally.refused ≡ refused_of told.pieces

-- a piece of this kind was cut off: a front of it was told
pub record CutsPiece (Is : Piece → Type 0) (cut : Cut) (text_old text_new report_old report_new : Option (List ℕ)) : Type 0 where
  pub piece : Piece
  pub is : Is piece
  pub text : List ℕ
  pub lines : List ℕ
  pub front : Front cut piece text lines
  pub text_taken : text_new ≡ append_known text_old text
  pub report_taken : report_new ≡ append_known report_old lines

-- telling a piece of this kind stopped: it was cut off, or nothing was put
abbrev pub StopsPiece : (Piece → Type 0) → TellStop → Option (List ℕ) → Option (List ℕ) → Option (List ℕ) → Option (List ℕ) → Type 0
StopsPiece Is stop text_old text_new report_old report_new =
    StoppedTelling stop (CutsPiece Is InText text_old text_new report_old report_new) (CutsPiece Is InLines text_old text_new report_old report_new) ((text_new ≡ text_old) × (report_new ≡ report_old))

-- files of these names, which the program may have made
abbrev pub source_of : List (String Global) → Bool → Source
source_of names made = record { names = map string_bytes names; made = made }
