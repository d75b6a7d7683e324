use Rattle.std.proofs.Common.{refl, arith}
use Rattle.dj_names.specs.Types.{view_type, view_types}
use Rattle.dj_syntax.specs.Items.{render}
use Rattle.dj_syntax.specs.UnitText.{more_parameters}
use Rattle.dj_syntax.specs.WellFormed.{IsNamed}
use Rattle.dj_print.specs.Spelled.{spellings}
use Rattle.dj_print.proofs.WellFormedLists.{item_seen}
use Rattle.dj_print.proofs.ListTexts.{all_done, parameter_more}
use Rattle.dj_print.proofs.Composing.{two}
use Rattle.dj_print.proofs.print.method.more_parameters.Goals as goal

pub parameter-requires : goal.parameter-requires
parameter-requires g c =
    record { named = item_seen view_type IsNamed c.args.kinds.now c.loop-index.index _ (omega arith) c.index-kinds-index.is c.requires.named }

pub loop-index-init : goal.loop-index-init
loop-index-init g c = g.met.O.Out.nothing _

pub loop-index-preserved : goal.loop-index-preserved
loop-index-preserved g c =
    parameter_more g.O.Out.prints g.met.O.Out.then (spellings c.args.unit.now) c.args.kinds.now c.loop-index.index _ (omega arith) c.index-kinds-index.is c.loop-index.invariant (two g.O.Out.prints g.met.O.Out.then c.put.ensures.prints c.parameter.ensures.prints refl)

pub returns : goal.returns
returns g c =
    record { prints = all_done g.O.Out.prints (λ kinds. render (more_parameters (spellings c.args.unit.now) 1 (view_types kinds))) c.args.kinds.now c.loop-index.index (omega arith) c.loop-index.invariant }
