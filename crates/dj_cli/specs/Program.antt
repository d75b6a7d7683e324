-- Which files a run is to load, of which it tells, and how a run ends that prints nothing.
use Rattle.std.specs.Prelude.{◌≡◌, ℕ, List, [], Option, None, Result, Ok, Err}
use Rattle.std.specs.Io.KnownBytes.{append_known}
use Rattle.dj_outer.specs.Sink.{TakesPrefix}
use Rattle.dj_words.specs.declared.order.UsageKind.{UsageKind}
use Rattle.dj_words.specs.Orders.{Asked, Files, Make}
use Rattle.dj_report.specs.Report.{Line, Usage, Read, Much, line_text}
use Rattle.dj_load.specs.HeldFiles as held
use Rattle.dj_load.specs.HeldFiles.{Finds, OfDue}
use Rattle.dj_load.specs.Loads.{ReadFails, IsTooMuch}
use Rattle.dj_world.specs.Worlds.{WorldOf}
use Rattle.dj_cli.specs.Output.{Source, OfFiles, OfMade}

-- the files that an order names to be printed; one to make files names none, and neither do words that give none
abbrev pub named_of : Result Asked UsageKind → List (List ℕ)
named_of (Ok (Files named list raw)) = named
named_of (Ok (Make number)) = []
named_of (Err why) = []

-- the list of library files that it names
abbrev pub list_of : Result Asked UsageKind → Option (List ℕ)
list_of (Ok (Files named list raw)) = list
list_of (Ok (Make number)) = None
list_of (Err why) = None

-- so much was told of the files of an order, named or made, and of the world that they make
abbrev pub OfOrder : Option held.Files → Result Asked UsageKind → (Source → Finds → WorldOf → Type 0) → Type 0
OfOrder held (Ok (Files named list raw)) Told = OfFiles held named list Told
OfOrder held (Ok (Make number)) Told = OfMade number Told
OfOrder held (Err why) Told = ⊥

-- ---- last lines

-- one last line was put, and no text
pub record TellsLine (line : Line) (text_old text_new report_old report_new : Option (List ℕ)) : Type 0 where
  pub text_kept : text_new ≡ text_old
  pub report_taken : report_new ≡ append_known report_old (line_text line)

-- what Usage, ReadFault and TooMuch come from, with the last line of each
pub data LastLine (order : Result Asked UsageKind) (held : Option held.Files) (asked_old asked_new : Option (List (List ℕ))) (faults_old faults_new : ℕ) : Line → Type 0 where
  usage : {kind : UsageKind} → order ≡ Err kind → LastLine order held asked_old asked_new faults_old faults_new (Usage kind)
  read : {place : ℕ} → OfDue held (named_of order) (list_of order) (λ due. ReadFails held due asked_old asked_new faults_old faults_new place) → LastLine order held asked_old asked_new faults_old faults_new (Read place)
  much : {place : ℕ} → OfDue held (named_of order) (list_of order) (λ due. IsTooMuch held due asked_old asked_new place) → LastLine order held asked_old asked_new faults_old faults_new (Much place)

-- the putting of a last line was cut off: no text was put, and of the line a prefix; what it comes from stands
pub record CutsLastLine (order : Result Asked UsageKind) (held : Option held.Files) (asked_old asked_new : Option (List (List ℕ))) (faults_old faults_new : ℕ) (text_old text_new report_old report_new : Option (List ℕ)) : Type 0 where
  pub line : Line
  pub cause : LastLine order held asked_old asked_new faults_old faults_new line
  pub text_kept : text_new ≡ text_old
  pub report_taken : TakesPrefix report_old report_new (line_text line)
