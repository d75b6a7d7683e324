use Rattle.std.proofs.Common.{length, true, false, map, ap, inr, arith}
use Rattle.std.specs.String.{string_bytes}
use Rattle.std.proofs.lemmas.List.{length-map}
use Rattle.std.proofs.lemmas.List.Elements.{All-from_recursion}
use Rattle.dj_load.specs.HeldFiles.{no_classes, oldest_named}
use Rattle.dj_load.specs.Loading.{contents_of, found_of}
use Rattle.dj_cli.specs.Output.{InLines, InText, ToldAll, ToldFront, ToldSome}
use Rattle.dj_cli.specs.Pieces.{IsOfFile}
use Rattle.dj_cli.proofs.FilesLemmas.{classes_of_files}
use Rattle.dj_cli.proofs.RunLemmas.{clean-then, err-then, made_setting, of_made, refused-then, report-then, text-then}
use Rattle.dj_cli.proofs.program.print_made.Goals as goal

pub read_files-requires : goal.read_files-requires
read_files-requires g c = record { few = omega (arith, c.in_ok-contents.ensures.number, c.requires.few, ap length c.in_ok-contents.ensures.library) }

pub tell-requires : goal.tell-requires
tell-requires g c =
    let found = c.in_ok-found.found.found.items in
    let makes = c.in_ok-found.ensures.read in
    record {
      few = rw c.as_slice.ensures.value (omega (arith, c.in_ok-named.ensures.number, c.requires.few));
      number = rw c.as_slice.ensures.value (omega (arith, c.in_ok-found.ensures.number, c.in_ok-named.ensures.number, c.in_ok-contents.ensures.number));
      library = omega (arith, c.in_ok-found.ensures.library, ap length c.in_ok-contents.ensures.library, ap length c.in_ok-found.ensures.paths, ap length c.in_ok-contents.ensures.paths, length-map c.in_ok-found.found.paths.items string_bytes);
      of_files = All-from_recursion (λ one. IsOfFile (found_of one)) found (classes_of_files oldest_named no_classes makes.of_named (contents_of c.in_ok-contents.contents.named.items) found makes.named);
    }

pub returns-clause-clean : goal.returns-clause-clean
returns-clause-clean g c = clean-then (of_made (map string_bytes c.in_ok-named.named.items) (ToldAll false (g.T.Sink.taken c.args.text.now) (g.T.Sink.taken c.tell.new.text) (g.P.Sink.taken c.args.report.now) (g.P.Sink.taken c.tell.new.report)) c.in_ok-named.ensures.names (made_setting c.in_ok-contents.contents c.in_ok-found.found c.in_ok-found.found.world c.in_ok-contents.ensures.named c.in_ok-contents.ensures.unread c.in_ok-contents.ensures.paths c.in_ok-contents.ensures.library c.in_ok-found.ensures.unread c.in_ok-found.ensures.paths c.in_ok-found.ensures.read)) c.tell.result (rw c.as_slice.ensures.value at c.tell.ensures.clean)

pub returns-clause-refused : goal.returns-clause-refused
returns-clause-refused g c = refused-then (of_made (map string_bytes c.in_ok-named.named.items) (ToldAll true (g.T.Sink.taken c.args.text.now) (g.T.Sink.taken c.tell.new.text) (g.P.Sink.taken c.args.report.now) (g.P.Sink.taken c.tell.new.report)) c.in_ok-named.ensures.names (made_setting c.in_ok-contents.contents c.in_ok-found.found c.in_ok-found.found.world c.in_ok-contents.ensures.named c.in_ok-contents.ensures.unread c.in_ok-contents.ensures.paths c.in_ok-contents.ensures.library c.in_ok-found.ensures.unread c.in_ok-found.ensures.paths c.in_ok-found.ensures.read)) c.tell.result (rw c.as_slice.ensures.value at c.tell.ensures.refused)

pub returns-clause-text_fault : goal.returns-clause-text_fault
returns-clause-text_fault g c = text-then (of_made (map string_bytes c.in_ok-named.named.items) (ToldFront InText (g.T.Sink.taken c.args.text.now) (g.T.Sink.taken c.tell.new.text) (g.P.Sink.taken c.args.report.now) (g.P.Sink.taken c.tell.new.report)) c.in_ok-named.ensures.names (made_setting c.in_ok-contents.contents c.in_ok-found.found c.in_ok-found.found.world c.in_ok-contents.ensures.named c.in_ok-contents.ensures.unread c.in_ok-contents.ensures.paths c.in_ok-contents.ensures.library c.in_ok-found.ensures.unread c.in_ok-found.ensures.paths c.in_ok-found.ensures.read)) c.tell.result (rw c.as_slice.ensures.value at c.tell.ensures.text_fault)

pub returns-clause-report_fault : goal.returns-clause-report_fault
returns-clause-report_fault g c = report-then (of_made (map string_bytes c.in_ok-named.named.items) (ToldFront InLines (g.T.Sink.taken c.args.text.now) (g.T.Sink.taken c.tell.new.text) (g.P.Sink.taken c.args.report.now) (g.P.Sink.taken c.tell.new.report)) c.in_ok-named.ensures.names (made_setting c.in_ok-contents.contents c.in_ok-found.found c.in_ok-found.found.world c.in_ok-contents.ensures.named c.in_ok-contents.ensures.unread c.in_ok-contents.ensures.paths c.in_ok-contents.ensures.library c.in_ok-found.ensures.unread c.in_ok-found.ensures.paths c.in_ok-found.ensures.read)) c.tell.result (rw c.as_slice.ensures.value at c.tell.ensures.report_fault)

pub returns-clause-memory : goal.returns-clause-memory
returns-clause-memory g c = err-then (λ told. inr (of_made (map string_bytes c.in_ok-named.named.items) (ToldSome (g.T.Sink.taken c.args.text.now) (g.T.Sink.taken c.tell.new.text) (g.P.Sink.taken c.args.report.now) (g.P.Sink.taken c.tell.new.report)) c.in_ok-named.ensures.names (made_setting c.in_ok-contents.contents c.in_ok-found.found c.in_ok-found.found.world c.in_ok-contents.ensures.named c.in_ok-contents.ensures.unread c.in_ok-contents.ensures.paths c.in_ok-contents.ensures.library c.in_ok-found.ensures.unread c.in_ok-found.ensures.paths c.in_ok-found.ensures.read) told)) c.tell.result (rw c.as_slice.ensures.value at c.tell.ensures.memory)
