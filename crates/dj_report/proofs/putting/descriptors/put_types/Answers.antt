use Rattle.std.proofs.Common.{◌+◌, ◌<◌, length, drop, arith}
use Rattle.std.specs.List.{flat_map}
use Rattle.std.proofs.lemmas.Result.{err_from_is_err_and}
use Rattle.dj_names.specs.Types.{view_type}
use Rattle.dj_names.specs.Descriptors.{spell_type}
use Rattle.dj_names.specs.Shown.{show_units}
use Rattle.dj_outer.proofs.PutsLemmas.{puts-as, puts-stop, puts-then}
use Rattle.dj_report.proofs.ShownLemmas.{types-at}
use Rattle.dj_report.proofs.putting.descriptors.put_types.Goals as goal

pub returns-in_err-put_type : goal.returns-in_err-put_type
returns-in_err-put_type g c =
    let kinds = c.args.kinds.now in
    let i = c.loop-kind.kind-index in
    let inside : i < length kinds = omega arith in
    let behind = flat_map (λ kind. show_units (spell_type (view_type kind))) (drop (i + 1) kinds) in
    record {
      puts = puts-as (types-at kinds i c.kind-item.result inside c.kind-item.is)
          (puts-stop (err_from_is_err_and c.from_residual.result c.from_residual.ensures.1).1 behind (puts-then c.loop-kind.invariant c.in_err-put_type.ensures.puts));
    }
