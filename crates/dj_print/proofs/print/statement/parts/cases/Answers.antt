use Rattle.std.proofs.Common.{rules, arith}
use Rattle.std.specs.List.{flat_map}
use Rattle.dj_syntax.specs.Items.{render}
use Rattle.dj_syntax.specs.UnitText.{case_items}
use Rattle.dj_print.proofs.ListTexts.{all_done, one_more}
use Rattle.dj_print.proofs.print.statement.parts.cases.Goals as goal

pub loop-label-init : goal.loop-label-init
loop-label-init g c = g.met.O.Out.nothing _

pub loop-label-preserved : goal.loop-label-preserved
loop-label-preserved g c =
    one_more g.O.Out.prints g.met.O.Out.then (case_items c.args.depth) c.args.labels.now c.loop-label.label-index _ (omega arith) (search rules) c.loop-label.invariant c.case.ensures.prints

pub returns : goal.returns
returns g c =
    record { prints = all_done g.O.Out.prints (λ labels. render (flat_map (case_items c.args.depth) labels)) c.args.labels.now c.loop-label.label-index (omega arith) c.loop-label.invariant }
