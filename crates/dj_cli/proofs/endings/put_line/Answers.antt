use Rattle.std.proofs.Common.{◌++◌, sym, ap, append-nil, codes}
use Rattle.std.proofs.lemmas.Result.{err_from_is_err_and}
use Rattle.dj_outer.proofs.PutsLemmas.{puts-as, puts-stop, puts-then}
use Rattle.dj_report.specs.Report.{named_tail}
use Rattle.dj_cli.specs.Lines.{ending_bytes, subject_bytes}
use Rattle.dj_cli.proofs.endings.put_line.Goals as goal

pub returns-in_err-put_subject-in-Name : goal.returns-in_err-put_subject-in-Name
returns-in_err-put_subject-in-Name g c =
    let is = (err_from_is_err_and c.from_residual.result c.from_residual.ensures.1).1 in
    let front = subject_bytes c.args.class.now c.args.line.now.subject in
    record {
      puts = puts-as (sym (ap (λ ending. front ++ ending_bytes ending) c.in-Name.is))
          (puts-stop is (named_tail (codes "Name") c.in-Name.name) (puts-as (append-nil front) c.in_err-put_subject-in-Name.ensures.puts));
    }

pub returns-in_ok-put_subject-in-Name : goal.returns-in_ok-put_subject-in-Name
returns-in_ok-put_subject-in-Name g c =
    let front = subject_bytes c.args.class.now c.args.line.now.subject in
    record {
      puts = puts-as (sym (ap (λ ending. front ++ ending_bytes ending) c.in-Name.is))
          (puts-then (puts-as (append-nil front) c.in_ok-put_subject-in-Name.ensures.puts) c.put_name_tail.ensures.puts);
    }
