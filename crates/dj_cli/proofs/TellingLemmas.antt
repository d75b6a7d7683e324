-- Pieces told one after another, and where telling them stops.
use Rattle.std.proofs.Common.{arith, ◌≡◌, ◌≢◌, ℕ, ◌+◌, Bool, true, false, not, ◌==◌, ◌||◌, List, [], ◌∷◌, ◌++◌, length, take, Option, Some, Ok, Err, refl, sym, ap, ◌∙◌, subst, append_assoc, append-nil, inl, inr}
use Rattle.std.specs.Prelude.{◌<◌, ◌≤◌, ◌^◌, get_or, if◌then◌else◌, map, MatchBool, slice_get}
use Rattle.std.specs.Option.{option_map}
use Rattle.std.proofs.lemmas.Option.{slice_get-map, slice_get-get_or}
use Rattle.std.specs.Io.KnownBytes.{append_known}
use Rattle.std.proofs.lemmas.List.{flat_map_more, length-map, length_push, nil_from_length}
use Rattle.std.proofs.lemmas.List.Sums.{sum_by_push}
use Rattle.std.proofs.lemmas.Bool.Decides.{eqb_tells}
use Rattle.dj_outer.specs.declared.files.Failed.{Failed}
use Rattle.dj_outer.specs.Sink.{Puts}
use Rattle.dj_outer.specs.Count.{Rose}
use Rattle.dj_outer.proofs.PutsLemmas.{known-then, known-nothing, rose-from}
use Rattle.dj_names.specs.Shown.{show_units}
use Rattle.dj_cli.specs.declared.endings.MemberLine.{MemberLine}
use Rattle.dj_cli.specs.declared.endings.Subject.{Subject}
use Rattle.dj_cli.specs.declared.endings.Subject.TheVariants as subject
use Rattle.dj_causes.specs.declared.cause.ClassCause.{ClassCause}
use Rattle.dj_causes.specs.declared.cause.ClassCause.TheVariants as cause
use Rattle.dj_report.specs.Report.{RefusedClass, line_text}
use Rattle.dj_cli.specs.declared.telling.TellStop.{TellStop}
use Rattle.dj_cli.specs.declared.telling.TellStop.TheVariants.{Text, Report, Memory}
use Rattle.dj_class.specs.declared.class.ClassFile.{ClassFile}
use Rattle.dj_class.specs.Described.{ClassOf}
use Rattle.dj_class.specs.Views.{view_class, view_method}
use Rattle.dj_causes.specs.ClassCauses.{IsClassCause}
use Rattle.dj_cli.specs.declared.last.LastPiece.{LastPiece}
use Rattle.dj_cli.specs.declared.tally.Tally.{Tally}
use Rattle.dj_cli.specs.Pieces.{IsOfFile, end_piece, refused_piece}
use Rattle.dj_cli.specs.Output.{Piece, PrintsClass, IsClassPiece, prints, refuses, IsFilePiece, IsNext, Source, last_lines, library_line, library_lines, none, more, text_of, lines_of, printed_of, Grew, ToldFirst, ToldAll, ToldSome, ToldFront, Cut, InText, InLines}
use Rattle.dj_load.specs.HeldFiles.{FileIs, Finds, IsClass, IsClash, IsBroken}
use Rattle.dj_making.specs.MadeFiles.{summary_text}
use Rattle.dj_world.specs.Worlds.{WorldOf}
use Rattle.dj_cli.specs.Lines.{subject_bytes, line_bytes, lines_bytes}
use Rattle.dj_cli.specs.Telling.{IsCalm, StoppedTelling, Tallies, TellsPiece, CutsPiece, StopsPiece}
use Rattle.dj_cli.proofs.MethodsLemmas.{counted}

-- the item at a place, seen by a function
pub name_at : {X Y : Type 0} (f : X → Y) (xs : List X) (i : ℕ) (x : X) → i < length xs → x ≡ get_or xs i x → slice_get (map f xs) i ≡ Some (f x)
name_at f xs i x lt is = slice_get-map f xs i ∙ ap (option_map f) (slice_get-get_or xs i x lt ∙ ap Some (sym is))

-- ---- whether there is a line

-- whether either has a line
refused_either : (before one : Bool) (lines others : List ℕ) → MatchBool before (lines ≢ []) (lines ≡ []) → MatchBool one (others ≢ []) (others ≡ []) → MatchBool (before || one) (lines ++ others ≢ []) (lines ++ others ≡ [])
refused_either false false lines others first second = ap (λ these. these ++ others) first ∙ second
refused_either false true lines others first second = λ nil. second (sym (ap (λ these. these ++ others) first) ∙ nil)
refused_either true one lines others first second = nonempty lines first
  where
    nonempty : (lines : List ℕ) → lines ≢ [] → lines ++ others ≢ []
    nonempty [] not_empty = λ nil. not_empty refl
    nonempty (byte ∷ rest) not_empty = λ nil. absurd cc

-- ---- what was told

-- the text and the report, one piece more
text-push : (pieces : List Piece) (piece : Piece) → text_of (pieces ++ piece ∷ []) ≡ text_of pieces ++ piece.text
text-push pieces piece = sym (flat_map_more (λ (one : Piece). one.text) [] pieces piece)

lines-push : (pieces : List Piece) (piece : Piece) → lines_of (pieces ++ piece ∷ []) ≡ lines_of pieces ++ piece.lines
lines-push pieces piece = sym (flat_map_more (λ (one : Piece). one.lines) [] pieces piece)

-- nothing was told
grew-none : (text report : Option (List ℕ)) → Grew [] [] [] text text report report
grew-none text report = record { text_taken = known-nothing text; report_taken = known-nothing report }

-- pieces, and then so much of another
grew-by : (pieces : List Piece) (text lines : List ℕ) (text_old text_mid text_new report_old report_mid report_new : Option (List ℕ)) → Grew pieces [] [] text_old text_mid report_old report_mid
    → text_new ≡ append_known text_mid text → report_new ≡ append_known report_mid lines → Grew pieces text lines text_old text_new report_old report_new
grew-by pieces text lines text_old text_mid text_new report_old report_mid report_new grew text_taken report_taken = record {
  text_taken = known-then text_old text_mid text_new (text_of pieces ++ []) text grew.text_taken text_taken ∙ ap (λ these. append_known text_old (these ++ text)) (append-nil (text_of pieces));
  report_taken = known-then report_old report_mid report_new (lines_of pieces ++ []) lines grew.report_taken report_taken ∙ ap (λ these. append_known report_old (these ++ lines)) (append-nil (lines_of pieces));
}

-- pieces, and then another, whole
grew-push : (pieces : List Piece) (piece : Piece) (text_old text_new report_old report_new : Option (List ℕ)) → Grew pieces piece.text piece.lines text_old text_new report_old report_new
    → Grew (pieces ++ piece ∷ []) [] [] text_old text_new report_old report_new
grew-push pieces piece text_old text_new report_old report_new grew = record {
  text_taken = grew.text_taken ∙ ap (append_known text_old) (sym (text-push pieces piece) ∙ sym (append-nil (text_of (pieces ++ piece ∷ []))));
  report_taken = grew.report_taken ∙ ap (append_known report_old) (sym (lines-push pieces piece) ∙ sym (append-nil (lines_of (pieces ++ piece ∷ []))));
}

-- ---- the pieces of files

module _ (source : Source) (found : Finds) (world : WorldOf) where
  -- the next piece is that of the file at its place
  next_is : (before : List Piece) (i : ℕ) (name : List ℕ) (file : FileIs) (piece : Piece) → length before ≡ i → slice_get source.names i ≡ Some name → slice_get found.named i ≡ Some file → IsFilePiece world name file piece → IsNext source found world before piece
  next_is before i name file piece number at_name at_file is = inl (rw (number, at_name, at_file) is)

  -- no piece was told
  pub told_none : (text report : Option (List ℕ)) (tally : Tally) → tally ≡ record { has_line = false; printed = 0; refused = 0 } → Tallies 0 tally text text report report source found world
  told_none text report tally same = rw same (record {
    told = record { pieces = []; are = none; number = refl; grew = grew-none text report; refused_is = refl };
    printed_is = refl;
    refused_is = refl;
  })

  module _ (i : ℕ) (tally : Tally) (text_old text_mid text_new report_old report_mid report_new : Option (List ℕ)) (told : Tallies i tally text_old text_mid report_old report_mid source found world) where
    -- the next piece was told
    told_push : (piece : Piece) (line : Bool) → IsNext source found world told.told.pieces piece → text_new ≡ append_known text_mid piece.text → report_new ≡ append_known report_mid piece.lines → MatchBool line (piece.lines ≢ []) (piece.lines ≡ [])
        → ToldFirst (i + 1) (tally.has_line || line) text_old text_new report_old report_new source found world
    told_push piece line next text_taken report_taken has_line = record {
      pieces = told.told.pieces ++ piece ∷ [];
      are = more told.told.pieces piece told.told.are next;
      number = length_push told.told.pieces piece ∙ ap (λ n. n + 1) told.told.number;
      grew = grew-push told.told.pieces piece text_old text_new report_old report_new
          (grew-by told.told.pieces piece.text piece.lines text_old text_mid text_new report_old report_mid report_new told.told.grew text_taken report_taken);
      refused_is = rw (lines-push told.told.pieces piece) (refused_either tally.has_line line (lines_of told.told.pieces) piece.lines told.told.refused_is has_line);
    }

    module _ (Is : Piece → Type 0) (is_next : (piece : Piece) → Is piece → IsNext source found world told.told.pieces piece) where
      -- a piece was told, which is the next one
      pub told_so : (one : Tally) → TellsPiece Is one text_mid text_new report_mid report_new → ToldFirst (i + 1) (tally.has_line || one.has_line) text_old text_new report_old report_new source found world
      told_so one this = told_push this.piece one.has_line (is_next this.piece this.is) this.text_taken this.report_taken this.has_line_is

      -- it was cut off
      told_front : (cut : Cut) → CutsPiece Is cut text_mid text_new report_mid report_new → ToldFront cut text_old text_new report_old report_new source found world
      told_front cut this = record {
        pieces = told.told.pieces;
        are = told.told.are;
        next = this.piece;
        is_next = is_next this.piece this.is;
        text = this.text;
        lines = this.lines;
        front = this.front;
        grew = grew-by told.told.pieces this.text this.lines text_old text_mid text_new report_old report_mid report_new told.told.grew this.text_taken this.report_taken;
      }

      -- telling stopped at it
      pub stops_so : (stop : TellStop) → StopsPiece Is stop text_mid text_new report_mid report_new
          → StoppedTelling stop (ToldFront InText text_old text_new report_old report_new source found world) (ToldFront InLines text_old text_new report_old report_new source found world) (ToldSome text_old text_new report_old report_new source found world)
      stops_so Text this = told_front InText this
      stops_so Report this = told_front InLines this
      stops_so (Memory error) this = (
        i,
        tally.has_line,
        record {
          pieces = told.told.pieces;
          are = told.told.are;
          number = told.told.number;
          grew = record { text_taken = this.0 ∙ told.told.grew.text_taken; report_taken = this.1 ∙ told.told.grew.report_taken };
          refused_is = told.told.refused_is;
        },
      )

    module _ (name : List ℕ) (file : FileIs) (at_name : slice_get source.names i ≡ Some name) (at_file : slice_get found.named i ≡ Some file) where
      -- the piece of the next file was told
      pub told_more : (one both : Tally) → both.has_line ≡ (tally.has_line || one.has_line) → both.printed ≡ tally.printed + one.printed → both.refused ≡ tally.refused + one.refused
          → TellsPiece (IsFilePiece world name file) one text_mid text_new report_mid report_new → Tallies (i + 1) both text_old text_new report_old report_new source found world
      told_more one both has_line printed refused this = record {
        told = record {
          pieces = told.told.pieces ++ this.piece ∷ [];
          are = more told.told.pieces this.piece told.told.are (next_is told.told.pieces i name file this.piece told.told.number at_name at_file this.is);
          number = length_push told.told.pieces this.piece ∙ ap (λ n. n + 1) told.told.number;
          grew = grew-push told.told.pieces this.piece text_old text_new report_old report_new
              (grew-by told.told.pieces this.piece.text this.piece.lines text_old text_mid text_new report_old report_mid report_new told.told.grew this.text_taken this.report_taken);
          refused_is = rw (has_line, lines-push told.told.pieces this.piece) (refused_either tally.has_line one.has_line (lines_of told.told.pieces) this.piece.lines told.told.refused_is this.has_line_is);
        };
        printed_is = omega (arith, printed, told.printed_is, this.printed_is, sum_by_push (λ (piece : Piece). piece.printed) told.told.pieces this.piece);
        refused_is = omega (arith, refused, told.refused_is, this.refused_is, sum_by_push (λ (piece : Piece). piece.refused) told.told.pieces this.piece);
      }

      -- telling stopped at the next file
      pub stops_telling : (stop : TellStop) → StopsPiece (IsFilePiece world name file) stop text_mid text_new report_mid report_new
          → StoppedTelling stop (ToldFront InText text_old text_new report_old report_new source found world) (ToldFront InLines text_old text_new report_old report_new source found world) (ToldSome text_old text_new report_old report_new source found world)
      stops_telling stop this = stops_so (IsFilePiece world name file) (λ piece is. next_is told.told.pieces i name file piece told.told.number at_name at_file is) stop this

  -- ---- the last piece

  module _ (tally : Tally) (text_old text_mid text_new report_old report_mid report_new : Option (List ℕ)) (told : Tallies (length source.names) tally text_old text_mid report_old report_mid source found world) (piece : LastPiece)
      (text_is : piece.text.items ≡ (if source.made then summary_text (length source.names) tally.printed tally.refused else [])) (lines_is : piece.lines.items ≡ last_lines found) where
    -- the piece behind those of all files is the last one
    last_is : (last : Piece) → last ≡ end_piece piece → IsNext source found world told.told.pieces last
    last_is last same =
        let text = text_is ∙ ap (λ count. if source.made then summary_text (length source.names) count tally.refused else []) told.printed_is
        ∙ ap (λ count. if source.made then summary_text (length source.names) (printed_of told.told.pieces) count else []) told.refused_is in
        inr (told.told.number, rw same (record { text_is = text; lines_are = lines_is; none_printed = refl; none_refused = refl }))

    -- it was told
    pub told_all : (one : Tally) → TellsPiece (λ last. last ≡ end_piece piece) one text_mid text_new report_mid report_new → ToldAll (tally.has_line || one.has_line) text_old text_new report_old report_new source found world
    told_all one this = told_so (length source.names) tally text_old text_mid text_new report_old report_mid report_new told (λ last. last ≡ end_piece piece) last_is one this

    -- telling stopped at it
    pub stops_at_end : (stop : TellStop) → StopsPiece (λ last. last ≡ end_piece piece) stop text_mid text_new report_mid report_new
        → StoppedTelling stop (ToldFront InText text_old text_new report_old report_new source found world) (ToldFront InLines text_old text_new report_old report_new source found world) (ToldSome text_old text_new report_old report_new source found world)
    stops_at_end stop this = stops_so (length source.names) tally text_old text_mid text_new report_old report_mid report_new told (λ last. last ≡ end_piece piece) last_is stop this

-- ---- the lines of one piece

-- a front of nothing is nothing
front-none : (front back : List ℕ) → front ++ back ≡ [] → front ≡ []
front-none [] back same = refl
front-none (byte ∷ front) back same = absurd cc

-- what ends in something is something
pub back-some : (front : List ℕ) (byte : ℕ) (back : List ℕ) → front ++ byte ∷ back ≢ []
back-some [] byte back = λ same. cc
back-some (first ∷ front) byte back = λ same. cc

-- one line more
pub lines_bytes-push : (class : List ℕ) (lines : List MemberLine) (line : MemberLine) → lines_bytes class (lines ++ line ∷ []) ≡ lines_bytes class lines ++ line_bytes class line
lines_bytes-push class lines line = sym (flat_map_more (line_bytes class) [] lines line)

-- what was put and what is gathered behind it, where a line comes behind both, and then the rest
pub gathered-on : (put old all front back line rest : List ℕ) → put ++ old ≡ all → front ++ back ≡ old ++ line → (put ++ front) ++ (back ++ rest) ≡ all ++ line ++ rest
gathered-on put old all front back line rest before both =
    append_assoc put front (back ++ rest)
    ∙ ap (λ behind. put ++ behind) (sym (append_assoc front back rest) ∙ ap (λ list. list ++ rest) both ∙ append_assoc old line rest)
    ∙ sym (append_assoc put old (line ++ rest))
    ∙ ap (λ list. list ++ (line ++ rest)) before
    ∙ sym (append_assoc all line rest)

-- what failed with a count that rose failed from an earlier one on
pub failed-from : (stop : TellStop) (text_first text_old text_new report_first report_old report_new : ℕ) → text_first ≤ text_old → report_first ≤ report_old → StoppedTelling stop (Rose text_old text_new) (Rose report_old report_new) (Unit {0}) → StoppedTelling stop (Rose text_first text_new) (Rose report_first report_new) (Unit {0})
failed-from Text text_first text_old text_new report_first report_old report_new text report rose = rose-from text_first text_old text_new text rose
failed-from Report text_first text_old text_new report_first report_old report_new text report rose = rose-from report_first report_old report_new report rose
failed-from (Memory error) text_first text_old text_new report_first report_old report_new text report rose = tt

-- where no fault was counted before, what stopped without others did so from an earlier count on
pub calm-stops : (X Y : Type 0) {text_first text_old report_first report_old : ℕ} (text_new report_new : ℕ) (stop : TellStop) → text_old ≡ text_first → report_old ≡ report_first → IsCalm {X = X} (Err stop) text_old text_new report_old report_new → IsCalm {X = Y} (Err stop) text_first text_new report_first report_new
calm-stops X Y text_new report_new Text text report calm = calm ∙ report
calm-stops X Y text_new report_new Report text report calm = calm ∙ text
calm-stops X Y text_new report_new (Memory error) text report calm = (calm.0 ∙ text, calm.1 ∙ report)

-- what a line names has bytes
subject-some : (class : List ℕ) (named : Subject) → subject_bytes class named ≢ []
subject-some class (subject.Field field) = λ nil. back-some (show_units class) 46 [] (front-none _ _ (front-none _ _ (front-none _ _ nil)))
subject-some class (subject.Method method) = λ nil. back-some (show_units class) 46 [] (front-none _ _ (front-none _ _ nil))

-- lines have bytes
lines-some : (class : List ℕ) (lines : List MemberLine) → lines ≢ [] → lines_bytes class lines ≢ []
lines-some class [] some = λ nil. some refl
lines-some class (line ∷ lines) some = λ nil. subject-some class line.subject (front-none _ _ (front-none _ _ nil))

-- whether there is a line
has-line : (class : List ℕ) (lines : List MemberLine) (empty : Bool) → empty ≡ (length lines == 0) → MatchBool (not empty) (lines_bytes class lines ≢ []) (lines_bytes class lines ≡ [])
has-line class lines empty is =
    elim (eqb_tells (length lines) 0) [
      | inl w ↦ subst (λ flag. MatchBool (not flag) (lines_bytes class lines ≢ []) (lines_bytes class lines ≡ [])) (sym (is ∙ w.0)) (ap (lines_bytes class) (nil_from_length lines w.1))
      | inr w ↦ subst (λ flag. MatchBool (not flag) (lines_bytes class lines ≢ []) (lines_bytes class lines ≡ [])) (sym (is ∙ w.0)) (lines-some class lines (λ nil. w.1 (ap length nil)))
    ]

-- whether one of two lists has a line
pub either-has-line : (class : List ℕ) (fields methods : List MemberLine) (no_field no_method : Bool) → no_field ≡ (length fields == 0) → no_method ≡ (length methods == 0)
    → MatchBool (not no_field || not no_method) (lines_bytes class fields ++ lines_bytes class methods ≢ []) (lines_bytes class fields ++ lines_bytes class methods ≡ [])
either-has-line class fields methods no_field no_method first second =
    refused_either (not no_field) (not no_method) (lines_bytes class fields) (lines_bytes class methods) (has-line class fields no_field first) (has-line class methods no_method second)

-- whether there are bytes
pub told-lines : (lines : List ℕ) (empty : Bool) → empty ≡ (length lines == 0) → MatchBool (not empty) (lines ≢ []) (lines ≡ [])
told-lines lines empty is =
    elim (eqb_tells (length lines) 0) [
      | inl w ↦ subst (λ flag. MatchBool (not flag) (lines ≢ []) (lines ≡ [])) (sym (is ∙ w.0)) (nil_from_length lines w.1)
      | inr w ↦ subst (λ flag. MatchBool (not flag) (lines ≢ []) (lines ≡ [])) (sym (is ∙ w.0)) (λ nil. w.1 (ap length nil))
    ]

-- the line on a refused class has bytes
pub refused-some : (class : List ℕ) (reason : ClassCause) → line_text (RefusedClass class reason) ≢ []
refused-some class cause.Enum = back-some (show_units class) 32 _
refused-some class cause.Annotation = back-some (show_units class) 32 _
refused-some class cause.Package = back-some (show_units class) 32 _
refused-some class cause.Root = back-some (show_units class) 32 _
refused-some class (cause.Name name) = back-some (show_units class) 32 _
refused-some class (cause.Constant name) = back-some (show_units class) 32 _

-- ---- pieces of one kind are of another

module _ (Is Also : Piece → Type 0) (also : (piece : Piece) → Is piece → Also piece) (text_old text_new report_old report_new : Option (List ℕ)) where
  pub tells-as : (tally : Tally) → TellsPiece Is tally text_old text_new report_old report_new → TellsPiece Also tally text_old text_new report_old report_new
  tells-as tally told = record {
    piece = told.piece;
    is = also told.piece told.is;
    text_taken = told.text_taken;
    report_taken = told.report_taken;
    has_line_is = told.has_line_is;
    printed_is = told.printed_is;
    refused_is = told.refused_is;
  }

  cuts-as : (cut : Cut) → CutsPiece Is cut text_old text_new report_old report_new → CutsPiece Also cut text_old text_new report_old report_new
  cuts-as cut told = record { piece = told.piece; is = also told.piece told.is; text = told.text; lines = told.lines; front = told.front; text_taken = told.text_taken; report_taken = told.report_taken }

  pub stops-as : (stop : TellStop) → StopsPiece Is stop text_old text_new report_old report_new → StopsPiece Also stop text_old text_new report_old report_new
  stops-as Text told = cuts-as InText told
  stops-as Report told = cuts-as InLines told
  stops-as (Memory error) told = told

-- ---- the lines on library files

-- the line on one library file more
pub library_lines-push : (paths : List (List ℕ)) (found : List FileIs) (path : List ℕ) (file : FileIs) → length found ≡ length paths → library_lines (paths ++ path ∷ []) (found ++ file ∷ []) ≡ library_lines paths found ++ library_line path file
library_lines-push [] [] path file number = append-nil (library_line path file)
library_lines-push [] (other ∷ found) path file number = absurd (omega (arith, number))
library_lines-push (first ∷ paths) [] path file number = absurd (omega (arith, number))
library_lines-push (first ∷ paths) (other ∷ found) path file number =
    ap (λ rest. library_line first other ++ rest) (library_lines-push paths found path file (omega (arith, number))) ∙ sym (append_assoc (library_line first other) (library_lines paths found) (library_line path file))

-- ---- a piece that is one line

module _ (Is : Piece → Type 0) (line : List ℕ) (methods : ℕ) (is : Is (record { text = []; lines = line; printed = 0; refused = methods })) (text : Option (List ℕ)) {report_old report_new : Option (List ℕ)} {faults_old faults_new : ℕ} where
  -- the line was put
  pub tells-line : {done : Unit {0}} {tally : Tally} → tally ≡ record { has_line = true; printed = 0; refused = methods } → line ≢ [] → Puts (Ok done) report_old report_new faults_old faults_new line → TellsPiece Is tally text text report_old report_new
  tells-line same some puts = rw same (record {
    piece = record { text = []; lines = line; printed = 0; refused = methods };
    is = is;
    text_taken = known-nothing text;
    report_taken = puts.ok;
    has_line_is = some;
    printed_is = refl;
    refused_is = refl;
  })

  -- the line was cut off
  pub cuts-line : {fault : Failed} → Puts (Err fault) report_old report_new faults_old faults_new line → CutsPiece Is InLines text text report_old report_new
  cuts-line puts = record {
    piece = record { text = []; lines = line; printed = 0; refused = methods };
    is = is;
    text = [];
    lines = take puts.prefix.0 line;
    front = (puts.prefix.0, refl, refl);
    text_taken = known-nothing text;
    report_taken = puts.prefix.1;
  }

-- ---- the pieces of classes

module _ (world : WorldOf) (class : ClassOf) where
  -- a piece that is this one, with which the class is printed
  pub is_printed : (piece : Piece) → PrintsClass world class piece → (told : Piece) → told ≡ piece → IsClassPiece world class told
  is_printed piece prints_it told same = subst (IsClassPiece world class) (sym same) (prints prints_it)

  -- a piece that is the line with this cause
  pub is_refused : (reason : ClassCause) (methods : ℕ) → IsClassCause world class (Some reason) → methods ≡ length class.methods → (told : Piece) → told ≡ refused_piece class.this_class reason methods → IsClassPiece world class told
  is_refused reason methods first number told same =
      subst (IsClassPiece world class) (sym same) (refuses (record { cause = reason; first = first; no_text = refl; line_is = refl; none_printed = refl; all_refused = number }))

-- ---- how many methods a piece has

-- a class has as many methods as its file
methods-number : (class : ClassFile) → length (view_class class).methods ≡ length class.methods
methods-number class = length-map class.methods view_method

-- fewer than 2 ^ 32
pub few_told : (world : WorldOf) (name : List ℕ) (file : FileIs) (piece : Piece) → IsOfFile file → IsFilePiece world name file piece → (piece.printed < 2 ^ 32) × (piece.refused < 2 ^ 32)
few_told world name (IsClass class) piece read (prints is) =
    let all = counted world (view_class class) (view_class class).methods is.verdicts is.judged in
    (omega (arith, all, methods-number class, is.printed_is, read.few), omega (arith, all, methods-number class, is.refused_is, read.few))
few_told world name (IsClass class) piece read (refuses is) =
    (omega (arith, is.none_printed), omega (arith, is.all_refused, methods-number class, read.few))
few_told world name (IsClash kind) piece read is = rw is (omega arith, omega arith)
few_told world name (IsBroken kind offset) piece read is = rw is (omega arith, omega arith)
