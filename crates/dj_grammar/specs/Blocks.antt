-- How far a body is read, and how its statements begin and end (JLS 14).
use Rattle.std.specs.Prelude.{ℕ, List, [], ◌∷◌, Option, Some, None}
use Rattle.dj_syntax.specs.Trees.{Stm}
use Rattle.dj_grammar.specs.Frames.{Start, Pending, Opens}
use Rattle.dj_grammar.specs.Readings.{Reading, Wanted, Negation, Head, Named, Behind, Typed, Sized, Called, Declared, Selecting, Stands, Helping, Lost}
use Rattle.dj_grammar.specs.Steps.{starting}
use Rattle.dj_grammar.specs.Open.{Frame, Listed, Clause, Simple, flushed, no_statements, with_last}

-- How far a body is read: the braces that are open, the statements of the innermost, what the words of the next one are
-- read for, its labels, and how far its expression is read.
pub record Blocks : Type 0 where
  pub outer : List Frame
  pub list : Listed
  pub clause : Clause
  pub labels : List ℕ
  pub reading : Reading

-- a statement with these labels begins
abbrev pub beginning : List ℕ → Reading
beginning labels = Wanted (Opens (Start labels) ∷ [])

-- between two statements
abbrev pub ready : List Frame → Listed → Blocks
ready outer list = record { outer = outer; list = list; clause = Simple; labels = []; reading = beginning [] }

-- nothing of a body is read
abbrev pub no_blocks : Blocks
no_blocks = ready [] no_statements

-- a statement ends, with its labels
abbrev pub completed : Blocks → Stm → List ℕ → Blocks
completed blocks statement labels = ready blocks.outer (with_last (flushed blocks.list) statement labels)

-- a statement ends, where there is one
abbrev pub completed_or : Blocks → Option Stm → List ℕ → Blocks
completed_or blocks None labels = ready blocks.outer blocks.list
completed_or blocks (Some statement) labels = completed blocks statement labels

-- the labels with which a statement begins, none where none does
abbrev pub label_list : Option (List ℕ × List Pending) → List ℕ
label_list None = []
label_list (Some start) = start.0

-- the labels of a statement that begins
abbrev pub labels_of : Reading → List ℕ
labels_of (Wanted pending) = label_list (starting pending)
labels_of (Negation pending) = []
labels_of (Head pending) = []
labels_of (Named name pending) = []
labels_of (Behind name pending) = []
labels_of (Typed kind pending) = []
labels_of (Sized kind sizes more pending) = []
labels_of (Called callee arguments pending) = []
labels_of (Declared kind variable pending) = []
labels_of (Selecting object pending) = []
labels_of (Stands value pending) = []
labels_of (Helping pending) = []
labels_of Lost = []

-- a keyword begins a statement
abbrev pub begin : Blocks → Clause → Reading → Blocks
begin blocks clause reading =
    record { outer = blocks.outer; list = blocks.list; clause = clause; labels = labels_of blocks.reading; reading = reading }
