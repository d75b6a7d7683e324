use Rattle.dj_outside.specs.Runs.{trap_class, world_of}
use Rattle.dj_objects.specs.Runs.{store_of}
use Rattle.dj_objects.proofs.RunLemmas.{trap_anywhere}
use Rattle.dj_objects.proofs.run.Method.trap.Goals as goal

pub returns : goal.returns
returns c = record {
  trapped = trap_anywhere c.args.self.now.classes.headers.now (trap_class c.args.trap) (store_of c.args.run.now) (world_of c.args.run.now.outside) (world_of c.trap.new.self) c.trap.result c.trap.ensures.trapped;
}
