use Rattle.std.proofs.Common.{sym}
use Rattle.dj_code_causes.proofs.Naming.{gains_slot}
use Rattle.dj_code_causes.proofs.names.add_slot.Goals as goal

pub returns-in_ok-add_tag-in-Some : goal.returns-in_ok-add_tag-in-Some
returns-in_ok-add_tag-in-Some c = record { gains = gains_slot c.args.names.now c.add_tag.new.names c.args.tags.now c.args.slot c.in-Some.tag.now (sym c.in-Some.ensures.tag) c.in_ok-add_tag-in-Some.ensures.gains }
