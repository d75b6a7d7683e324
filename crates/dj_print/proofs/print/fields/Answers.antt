use Rattle.std.proofs.Common.{ap, arith}
use Rattle.std.specs.Prelude.{is_some}
use Rattle.std.specs.List.{flat_map}
use Rattle.dj_syntax.specs.Items.{render}
use Rattle.dj_syntax.specs.Trees.{view_field, view_unit}
use Rattle.dj_syntax.specs.UnitText.{field_items, class_name}
use Rattle.dj_syntax.specs.WellFormed.{IsWellFormedField}
use Rattle.dj_print.specs.Spelled.{spellings}
use Rattle.dj_print.proofs.Composing.{same}
use Rattle.dj_print.proofs.WellFormedLists.{item_seen}
use Rattle.dj_print.proofs.ListTexts.{all_done, one_more, seen_flat}
use Rattle.dj_print.proofs.print.fields.Goals as goal

pub field-requires : goal.field-requires
field-requires g c =
    record { well_formed = item_seen view_field (IsWellFormedField c.args.interface) c.args.fields.now c.loop-one.one-index _ (omega arith) c.one-item.is c.requires.well_formed }

pub loop-one-init : goal.loop-one-init
loop-one-init g c = g.met.O.Out.nothing _

pub loop-one-preserved : goal.loop-one-preserved
loop-one-preserved g c =
    one_more g.O.Out.prints g.met.O.Out.then (λ one. field_items (spellings c.args.unit.now) c.args.interface (view_field one)) c.args.fields.now c.loop-one.one-index _ (omega arith) c.one-item.is c.loop-one.invariant c.field.ensures.prints

pub returns : goal.returns
returns g c =
    record { prints = same g.O.Out.prints (all_done g.O.Out.prints (λ list. render (flat_map (λ one. field_items (spellings c.args.unit.now) c.args.interface (view_field one)) list)) c.args.fields.now c.loop-one.one-index (omega arith) c.loop-one.invariant) (ap render (seen_flat (field_items (spellings c.args.unit.now) c.args.interface) view_field c.args.fields.now)) }
