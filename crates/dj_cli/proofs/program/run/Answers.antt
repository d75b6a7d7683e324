use Rattle.std.proofs.Common.{◌∙◌, Ok, ap, map, refl, inr}
use Rattle.std.specs.String.{string_bytes}
use Rattle.dj_report.specs.declared.status.Status.TheVariants.{Usage}
use Rattle.dj_report.specs.Report as lines
use Rattle.dj_cli.specs.Program.{usage}
use Rattle.dj_words.specs.Orders.{view_order}
use Rattle.dj_cli.proofs.OrderLemmas.{few_made}
use Rattle.dj_cli.proofs.RunLemmas.{asks_none, ends-calm, ends-report, read-calm, text-calm}
use Rattle.dj_cli.proofs.program.run.Goals as goal

pub returns-in_ok-line-in-Err-Usage-clause-report_fault :
    goal.returns-in_ok-line-in-Err-Usage-clause-report_fault
returns-in_ok-line-in-Err-Usage-clause-report_fault g c =
    let order = rw c.in-Err-Usage.field-0-is at c.in-Err-Usage.ensures.order in
    let line = c.as_slice-in-Err-Usage.ensures.value ∙ c.in_ok-line-in-Err-Usage.ensures.line in
    let ends = rw line at c.last_line.ensures.ends in
    ends-report c.last_line.result (Usage c.in-Err-Usage.kind) _ _ _ tt
    (λ cut. inr (record { line = lines.Usage c.in-Err-Usage.kind; cause = usage order; text_kept = refl; report_taken = cut.1 }))
    ends

pub print_made-requires : goal.print_made-requires
print_made-requires g c = record { few = few_made (map string_bytes c.args.words.now) c.in-Ok-Make.number (c.in-Ok-Make.ensures.order ∙ ap (λ order. Ok (view_order order)) c.in-Ok-Make.field-0-is) }

pub returns-in-Ok-Files-clause-report_fault : goal.returns-in-Ok-Files-clause-report_fault
returns-in-Ok-Files-clause-report_fault g c =
    let order = rw c.in-Ok-Files.field-0-is at c.in-Ok-Files.ensures.order in
    let told = rw c.as_slice.ensures.value at (c.print_files.ensures.report_fault c.in-Ok-Files.field-0-2) in
    rw order told

pub returns-in-Ok-Files-clause-asked_all : goal.returns-in-Ok-Files-clause-asked_all
returns-in-Ok-Files-clause-asked_all g c =
    let order = rw c.in-Ok-Files.field-0-is at c.in-Ok-Files.ensures.order in
    let asked = rw c.as_slice.ensures.value at c.print_files.ensures.asked_all in
    rw order asked

pub returns-in-Ok-Make-clause-asked : goal.returns-in-Ok-Make-clause-asked
returns-in-Ok-Make-clause-asked g c = asks_none (g.F.Files.held c.args.files.now) _ _ (g.F.Files.asked c.args.files.now)

pub returns-in_err-line-in-Err-Usage-clause-asked : goal.returns-in_err-line-in-Err-Usage-clause-asked
returns-in_err-line-in-Err-Usage-clause-asked g c = asks_none (g.F.Files.held c.args.files.now) _ _ (g.F.Files.asked c.args.files.now)

pub returns-in_ok-line-in-Err-Usage-clause-asked : goal.returns-in_ok-line-in-Err-Usage-clause-asked
returns-in_ok-line-in-Err-Usage-clause-asked g c = asks_none (g.F.Files.held c.args.files.now) _ _ (g.F.Files.asked c.args.files.now)

pub returns-in-Err-Memory-clause-asked : goal.returns-in-Err-Memory-clause-asked
returns-in-Err-Memory-clause-asked g c = asks_none (g.F.Files.held c.args.files.now) _ _ (g.F.Files.asked c.args.files.now)

pub returns-in-Ok-Make-clause-read_calm : goal.returns-in-Ok-Make-clause-read_calm
returns-in-Ok-Make-clause-read_calm g c = read-calm c.print_made.result refl

pub returns-in_ok-line-in-Err-Usage-clause-read_calm : goal.returns-in_ok-line-in-Err-Usage-clause-read_calm
returns-in_ok-line-in-Err-Usage-clause-read_calm g c = read-calm (Ok c.last_line.result) refl

pub returns-in_ok-line-in-Err-Usage-clause-text_calm : goal.returns-in_ok-line-in-Err-Usage-clause-text_calm
returns-in_ok-line-in-Err-Usage-clause-text_calm g c = text-calm (Ok c.last_line.result) refl

pub returns-in_ok-line-in-Err-Usage-clause-report_calm : goal.returns-in_ok-line-in-Err-Usage-clause-report_calm
returns-in_ok-line-in-Err-Usage-clause-report_calm g c =
    ends-calm c.last_line.result (Usage c.in-Err-Usage.kind) _ (λ calm. (calm, tt)) c.last_line.ensures.calm
