use Rattle.std.proofs.Common.{ap, arith}
use Rattle.std.specs.Prelude.{is_some}
use Rattle.std.specs.List.{flat_map}
use Rattle.dj_syntax.specs.Items.{render}
use Rattle.dj_syntax.specs.Trees.{view_method, view_unit}
use Rattle.dj_syntax.specs.UnitText.{method_items, class_name}
use Rattle.dj_syntax.specs.WellFormed.{IsWellFormedMethod}
use Rattle.dj_print.specs.Spelled.{spellings}
use Rattle.dj_print.proofs.Composing.{same}
use Rattle.dj_print.proofs.WellFormedLists.{item_seen}
use Rattle.dj_print.proofs.ListTexts.{all_done, one_more, seen_flat}
use Rattle.dj_print.proofs.print.methods.Goals as goal

pub method-requires-clause-well_formed : goal.method-requires-clause-well_formed
method-requires-clause-well_formed g c =
    item_seen view_method (IsWellFormedMethod c.args.interface (is_some c.args.unit.now.helper) (class_name (view_unit c.args.unit.now))) c.args.methods.now c.loop-one.one-index _ (omega arith) c.one-item.is c.requires.well_formed

pub loop-one-init : goal.loop-one-init
loop-one-init g c = g.met.O.Out.nothing _

pub loop-one-preserved : goal.loop-one-preserved
loop-one-preserved g c =
    one_more g.O.Out.prints g.met.O.Out.then (λ one. method_items (spellings c.args.unit.now) c.args.interface (view_method one)) c.args.methods.now c.loop-one.one-index _ (omega arith) c.one-item.is c.loop-one.invariant c.method.ensures.prints

pub returns : goal.returns
returns g c =
    record { prints = same g.O.Out.prints (all_done g.O.Out.prints (λ list. render (flat_map (λ one. method_items (spellings c.args.unit.now) c.args.interface (view_method one)) list)) c.args.methods.now c.loop-one.one-index (omega arith) c.loop-one.invariant) (ap render (seen_flat (method_items (spellings c.args.unit.now) c.args.interface) view_method c.args.methods.now)) }
