use Rattle.std.proofs.Common.{arith}
use Rattle.dj_world.specs.Wanting.{WantsAsSuperclass, WantsAsInterface}
use Rattle.dj_world.proofs.WantedLemmas.{knows_none}
use Rattle.dj_world.proofs.wanted.Wanted.new.Goals as goal

pub returns : goal.returns
returns c = record {
  keeps = record {
    superclasses = knows_none WantsAsSuperclass c.new.result c.new.ensures.empty;
    interfaces = knows_none WantsAsInterface c.new-2.result c.new-2.ensures.empty;
    within = omega arith;
  };
}
