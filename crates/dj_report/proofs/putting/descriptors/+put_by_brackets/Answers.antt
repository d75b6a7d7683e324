use Rattle.std.proofs.Common.{sym, ap, ◌∙◌}
use Rattle.dj_names.specs.Types.{view_type}
use Rattle.dj_names.specs.Descriptors.{spell_type}
use Rattle.dj_names.specs.Shown.{show_units}
use Rattle.std.proofs.lemmas.Result.{err_from_is_err_and}
use Rattle.dj_outer.proofs.PutsLemmas.{puts-as, puts-stop, puts-then}
use Rattle.dj_report.proofs.ShownLemmas.{show-array}
use Rattle.dj_report.proofs.putting.descriptors.+put_by_brackets.Goals as goal

pub returns-in_err-put_piece-in-Array : goal.returns-in_err-put_piece-in-Array
returns-in_err-put_piece-in-Array g t c =
    let whole = show-array c.in-Array.element ∙ ap (λ kind. show_units (spell_type (view_type kind))) (sym c.in-Array.is) in
    record {
      puts = puts-as whole
          (puts-stop (err_from_is_err_and c.from_residual.result c.from_residual.ensures.1).1 (show_units (spell_type (view_type c.in-Array.element))) c.in_err-put_piece-in-Array.ensures.puts);
    }

pub returns-in_ok-put_piece-in-Array : goal.returns-in_ok-put_piece-in-Array
returns-in_ok-put_piece-in-Array g t c =
    let whole = show-array c.in-Array.element ∙ ap (λ kind. show_units (spell_type (view_type kind))) (sym c.in-Array.is) in
    record {
      puts = puts-as whole
          (puts-then c.in_ok-put_piece-in-Array.ensures.puts (rw c.get.ensures.value at c.put_by_brackets.ensures.puts));
    }
