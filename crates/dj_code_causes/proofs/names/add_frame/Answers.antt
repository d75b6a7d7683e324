use Rattle.dj_sayable.proofs.GatheringLemmas.{gains_then}
use Rattle.dj_code_causes.specs.Gathered.{IsInTags}
use Rattle.dj_code_causes.proofs.names.add_frame.Goals as goal

pub returns : goal.returns
returns c = record {
  gains = gains_then c.args.names.now c.add_tags.new.names c.add_tags-2.new.names (IsInTags c.args.frame.now.locals) (IsInTags c.args.frame.now.stack) c.in_ok-add_tags.ensures.gains c.in_ok-add_tags-2.ensures.gains;
}
