use Rattle.std.proofs.Common.{None}
use Rattle.dj_outside.specs.Runs.{world_of}
use Rattle.dj_objects.specs.Runs.{values_of, store_of}
use Rattle.dj_objects.proofs.RunLemmas.{stored}
use Rattle.dj_objects.proofs.run.Run.forget.Goals as goal

pub returns : goal.returns
returns c = record {
  forgotten = stored c.args.variable None (values_of c.args.self.now.values) (values_of c.forget.new.self) (store_of c.args.self.now).held (world_of c.args.self.now.outside) c.forget.ensures.forgotten;
}
