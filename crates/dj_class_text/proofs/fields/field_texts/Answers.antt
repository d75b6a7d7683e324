use Rattle.std.proofs.Common.{arith}
use Rattle.dj_syntax.specs.UnitText.{is_interface}
use Rattle.dj_class.specs.Views.{view_class}
use Rattle.dj_class_text.proofs.ShowingLemmas.{same_length, fields_begin, field_told, fields_end}
use Rattle.dj_class_text.proofs.fields.field_texts.Goals as goal

pub loop-at-init : goal.loop-at-init
loop-at-init c = rw c.new-texts.ensures (fields_begin c.args.world.now (view_class c.args.class.now) (is_interface c.args.class.now.flags) c.args.class.now.fields)

pub loop-at-preserved : goal.loop-at-preserved
loop-at-preserved c =
    rw c.in_ok-push_shown.ensures.pushed
    (field_told c.args.world.now (view_class c.args.class.now) (is_interface c.args.class.now.flags) c.args.class.now.fields c.loop-at.at c.index-fields-at.result (omega (arith, same_length c.as_slice-fields.ensures)) (rw c.as_slice-fields.ensures at c.index-fields-at.is) c.loop-at.texts c.loop-at.invariant c.in_ok-text.text c.in_ok-text.ensures.shown)

pub returns : goal.returns
returns c = record { shows = fields_end c.args.world.now (view_class c.args.class.now) (is_interface c.args.class.now.flags) c.args.class.now.fields c.loop-at.at c.loop-at.texts (omega (arith, same_length c.as_slice-fields.ensures)) c.loop-at.invariant }
