use Rattle.std.proofs.Common.{true, false, arith, refl, ◌∙◌, inl, inr, Ok}
use Rattle.std.specs.Prelude.{⊤}
use Rattle.std.proofs.lemmas.List.Elements.{All-from_recursion}
use Rattle.dj_report.specs.declared.status.Status.TheVariants.{ReadFault, TooMuch}
use Rattle.dj_report.specs.Report.{Read, Much}
use Rattle.dj_load.specs.HeldFiles.{no_classes, oldest_named}
use Rattle.dj_load.specs.Loading.{contents_of, found_of}
use Rattle.dj_cli.specs.Output.{InLines, InText, ToldAll, ToldFront, ToldSome}
use Rattle.dj_cli.specs.Pieces.{IsOfFile}
use Rattle.dj_cli.specs.Program.{read, much}
use Rattle.dj_cli.proofs.FilesLemmas.{classes_of_files}
use Rattle.dj_cli.proofs.RunLemmas.{as_many_paths, clean-then, ends-calm, ends-read, ends-report, err-then, no-other, of_files, read-calm, refused-then, report-then, text-calm, text-then}
use Rattle.dj_cli.proofs.program.print_files.Goals as goal

pub tell-told-requires : goal.tell-told-requires
tell-told-requires g c =
    let found = c.in_ok-found-in-Ok.found.found.items in
    let makes = c.in_ok-found-in-Ok.ensures.read in
    record {
      few = omega (arith, c.in-Ok.ensures.number, c.in-Ok.ensures.few);
      number = c.in_ok-found-in-Ok.ensures.number ∙ c.in-Ok.ensures.number;
      library = c.in_ok-found-in-Ok.ensures.library ∙ c.in-Ok.ensures.library ∙ as_many_paths c.in_ok-found-in-Ok.found.paths.items c.in-Ok.contents.library.paths.items c.in_ok-found-in-Ok.ensures.paths;
      of_files = All-from_recursion (λ one. IsOfFile (found_of one)) found (classes_of_files oldest_named no_classes makes.of_named (contents_of c.in-Ok.contents.named.items) found makes.named);
    }

pub returns-in_ok-found-in-Ok-clause-clean : goal.returns-in_ok-found-in-Ok-clause-clean
returns-in_ok-found-in-Ok-clause-clean g c =
    let found = c.in_ok-found-in-Ok.found in
    clean-then (of_files c.args.named.now c.in-Ok.contents found found.world (ToldAll false (g.T.Sink.taken c.args.text.now) (g.T.Sink.taken c.tell-told.new.text) (g.P.Sink.taken c.args.report.now) (g.P.Sink.taken c.tell-told.new.report)) c.in-Ok.ensures.loaded c.in-Ok.ensures.number c.in-Ok.ensures.library c.in_ok-found-in-Ok.ensures.unread c.in_ok-found-in-Ok.ensures.paths c.in_ok-found-in-Ok.ensures.read) c.tell-told.result c.tell-told.ensures.clean

pub returns-in_ok-found-in-Ok-clause-refused : goal.returns-in_ok-found-in-Ok-clause-refused
returns-in_ok-found-in-Ok-clause-refused g c =
    let found = c.in_ok-found-in-Ok.found in
    refused-then (of_files c.args.named.now c.in-Ok.contents found found.world (ToldAll true (g.T.Sink.taken c.args.text.now) (g.T.Sink.taken c.tell-told.new.text) (g.P.Sink.taken c.args.report.now) (g.P.Sink.taken c.tell-told.new.report)) c.in-Ok.ensures.loaded c.in-Ok.ensures.number c.in-Ok.ensures.library c.in_ok-found-in-Ok.ensures.unread c.in_ok-found-in-Ok.ensures.paths c.in_ok-found-in-Ok.ensures.read) c.tell-told.result c.tell-told.ensures.refused

pub returns-in_ok-found-in-Ok-clause-usage : goal.returns-in_ok-found-in-Ok-clause-usage
returns-in_ok-found-in-Ok-clause-usage g c = no-other c.tell-told.result (λ kind. ⊥) (λ place. ⊤) (λ place. ⊤) c.tell-told.ensures.no_other

pub returns-in_ok-found-in-Ok-clause-read : goal.returns-in_ok-found-in-Ok-clause-read
returns-in_ok-found-in-Ok-clause-read g c = no-other c.tell-told.result (λ kind. ⊤) _ (λ place. ⊤) c.tell-told.ensures.no_other

pub returns-in_ok-found-in-Ok-clause-read_line : goal.returns-in_ok-found-in-Ok-clause-read_line
returns-in_ok-found-in-Ok-clause-read_line g c = no-other c.tell-told.result (λ kind. ⊤) _ (λ place. ⊤) c.tell-told.ensures.no_other

pub returns-in_ok-found-in-Ok-clause-much : goal.returns-in_ok-found-in-Ok-clause-much
returns-in_ok-found-in-Ok-clause-much g c = no-other c.tell-told.result (λ kind. ⊤) (λ place. ⊤) _ c.tell-told.ensures.no_other

pub returns-in_ok-found-in-Ok-clause-much_line : goal.returns-in_ok-found-in-Ok-clause-much_line
returns-in_ok-found-in-Ok-clause-much_line g c = no-other c.tell-told.result (λ kind. ⊤) (λ place. ⊤) _ c.tell-told.ensures.no_other

pub returns-in_ok-found-in-Ok-clause-text_fault : goal.returns-in_ok-found-in-Ok-clause-text_fault
returns-in_ok-found-in-Ok-clause-text_fault g c =
    let found = c.in_ok-found-in-Ok.found in
    text-then (of_files c.args.named.now c.in-Ok.contents found found.world (ToldFront InText (g.T.Sink.taken c.args.text.now) (g.T.Sink.taken c.tell-told.new.text) (g.P.Sink.taken c.args.report.now) (g.P.Sink.taken c.tell-told.new.report)) c.in-Ok.ensures.loaded c.in-Ok.ensures.number c.in-Ok.ensures.library c.in_ok-found-in-Ok.ensures.unread c.in_ok-found-in-Ok.ensures.paths c.in_ok-found-in-Ok.ensures.read) c.tell-told.result c.tell-told.ensures.text_fault

pub returns-in_ok-found-in-Ok-clause-report_fault : goal.returns-in_ok-found-in-Ok-clause-report_fault
returns-in_ok-found-in-Ok-clause-report_fault g c = λ raw.
    let found = c.in_ok-found-in-Ok.found in
    report-then (λ told. inl (of_files c.args.named.now c.in-Ok.contents found found.world (ToldFront InLines (g.T.Sink.taken c.args.text.now) (g.T.Sink.taken c.tell-told.new.text) (g.P.Sink.taken c.args.report.now) (g.P.Sink.taken c.tell-told.new.report)) c.in-Ok.ensures.loaded c.in-Ok.ensures.number c.in-Ok.ensures.library c.in_ok-found-in-Ok.ensures.unread c.in_ok-found-in-Ok.ensures.paths c.in_ok-found-in-Ok.ensures.read told)) c.tell-told.result c.tell-told.ensures.report_fault

pub returns-in_ok-found-in-Ok-clause-memory : goal.returns-in_ok-found-in-Ok-clause-memory
returns-in_ok-found-in-Ok-clause-memory g c =
    let found = c.in_ok-found-in-Ok.found in
    err-then (λ told. inr (of_files c.args.named.now c.in-Ok.contents found found.world (ToldSome (g.T.Sink.taken c.args.text.now) (g.T.Sink.taken c.tell-told.new.text) (g.P.Sink.taken c.args.report.now) (g.P.Sink.taken c.tell-told.new.report)) c.in-Ok.ensures.loaded c.in-Ok.ensures.number c.in-Ok.ensures.library c.in_ok-found-in-Ok.ensures.unread c.in_ok-found-in-Ok.ensures.paths c.in_ok-found-in-Ok.ensures.read told)) c.tell-told.result c.tell-told.ensures.memory

pub returns-in_ok-line-in-Err-Fault-clause-report_fault :
    goal.returns-in_ok-line-in-Err-Fault-clause-report_fault
returns-in_ok-line-in-Err-Fault-clause-report_fault g c = λ raw.
    let fails = rw c.in-Err-Fault.field-0-is at c.in-Err-Fault.ensures.read in
    let ends = rw (c.as_slice.ensures.value, c.in_ok-line-in-Err-Fault.ensures.line) at c.last_line.ensures.ends in
    ends-report c.last_line.result (ReadFault c.in-Err-Fault.place) _ _ _ tt
    (λ cut. inr (record { line = Read c.in-Err-Fault.place; cause = read fails; text_kept = refl; report_taken = cut.1 }))
    ends

pub returns-in_ok-line-in-Err-Over-clause-report_fault :
    goal.returns-in_ok-line-in-Err-Over-clause-report_fault
returns-in_ok-line-in-Err-Over-clause-report_fault g c = λ raw.
    let over = rw c.in-Err-Over.field-0-is at c.in-Err-Over.ensures.read in
    let ends = rw (c.as_slice-in-Err-Over.ensures.value, c.in_ok-line-in-Err-Over.ensures.line) at c.last_line-in-Err-Over.ensures.ends in
    ends-report c.last_line-in-Err-Over.result (TooMuch c.in-Err-Over.place) _ _ _ tt
    (λ cut. inr (record { line = Much c.in-Err-Over.place; cause = much over; text_kept = refl; report_taken = cut.1 }))
    ends

pub returns-in_ok-found-in-Ok-clause-read_calm : goal.returns-in_ok-found-in-Ok-clause-read_calm
returns-in_ok-found-in-Ok-clause-read_calm g c = read-calm c.tell-told.result c.in-Ok.ensures.calm

pub returns-in_ok-line-in-Err-Fault-clause-read_calm :
    goal.returns-in_ok-line-in-Err-Fault-clause-read_calm
returns-in_ok-line-in-Err-Fault-clause-read_calm g c =
    ends-read c.last_line.result (ReadFault c.in-Err-Fault.place) _ _ _ tt c.last_line.ensures.calm

pub returns-in_ok-line-in-Err-Fault-clause-text_calm :
    goal.returns-in_ok-line-in-Err-Fault-clause-text_calm
returns-in_ok-line-in-Err-Fault-clause-text_calm g c = text-calm (Ok c.last_line.result) refl

pub returns-in_ok-line-in-Err-Fault-clause-report_calm :
    goal.returns-in_ok-line-in-Err-Fault-clause-report_calm
returns-in_ok-line-in-Err-Fault-clause-report_calm g c =
    ends-calm c.last_line.result (ReadFault c.in-Err-Fault.place) _ (λ calm. (calm, tt)) c.last_line.ensures.calm

pub returns-in_ok-line-in-Err-Over-clause-read_calm :
    goal.returns-in_ok-line-in-Err-Over-clause-read_calm
returns-in_ok-line-in-Err-Over-clause-read_calm g c =
    read-calm (Ok c.last_line-in-Err-Over.result) (rw c.in-Err-Over.field-0-is at c.in-Err-Over.ensures.calm)

pub returns-in_ok-line-in-Err-Over-clause-text_calm :
    goal.returns-in_ok-line-in-Err-Over-clause-text_calm
returns-in_ok-line-in-Err-Over-clause-text_calm g c = text-calm (Ok c.last_line-in-Err-Over.result) refl

pub returns-in_ok-line-in-Err-Over-clause-report_calm :
    goal.returns-in_ok-line-in-Err-Over-clause-report_calm
returns-in_ok-line-in-Err-Over-clause-report_calm g c =
    ends-calm c.last_line-in-Err-Over.result (TooMuch c.in-Err-Over.place) _ (λ calm. (calm, tt)) c.last_line-in-Err-Over.ensures.calm
