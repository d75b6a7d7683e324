use Rattle.std.proofs.lemmas.Result.{err_from_is_err_and}
use Rattle.dj_names.specs.Types.{view_type}
use Rattle.dj_names.specs.Descriptors.{spell_type}
use Rattle.dj_names.specs.Shown.{show_units}
use Rattle.dj_outer.proofs.PutsLemmas.{puts-as, puts-stop, puts-then}
use Rattle.dj_report.proofs.ShownLemmas.{show-behind}
use Rattle.dj_report.proofs.putting.descriptors.put_type.Goals as goal

pub returns-in_err-put_brackets : goal.returns-in_err-put_brackets
returns-in_err-put_brackets g c =
    let element = spell_type (view_type c.split_brackets-count.result.1.now) in
    record {
      puts = puts-as (show-behind c.split_brackets-count.result.0 (spell_type (view_type c.args.kind.now)) element c.split_brackets-count.ensures.split)
          (puts-stop (err_from_is_err_and c.from_residual.result c.from_residual.ensures.1).1 (show_units element) c.in_err-put_brackets.ensures.puts);
    }

pub returns : goal.returns
returns g c =
    let element = spell_type (view_type c.split_brackets-count.result.1.now) in
    record {
      puts = puts-as (show-behind c.split_brackets-count.result.0 (spell_type (view_type c.args.kind.now)) element c.split_brackets-count.ensures.split)
          (puts-then c.in_ok-put_brackets.ensures.puts c.put_by_brackets.ensures.puts);
    }
