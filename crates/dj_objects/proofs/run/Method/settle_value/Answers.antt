use Rattle.dj_outside.specs.Runs.{trap_class}
use Rattle.dj_objects.specs.Runs.{run_state}
use Rattle.dj_objects.proofs.RunLemmas.{trap_value}
use Rattle.dj_objects.proofs.run.Method.settle_value.Goals as goal

pub returns-in-Traps : goal.returns-in-Traps
returns-in-Traps c = record {
  settled = rw c.in-Traps.is (trap_value c.args.self.now.classes.headers.now (trap_class c.in-Traps.trap) (run_state c.args.run.now) (run_state c.trap.new.run) c.trap.result c.trap.ensures.trapped);
}
