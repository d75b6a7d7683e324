use Rattle.std.specs.Prelude.{codes}
use Rattle.dj_values.specs.Views.{view_reference}
use Rattle.dj_objects.specs.Runs.{run_state}
use Rattle.dj_source.proofs.ThrowLemmas.{trap_other}
use Rattle.dj_source.proofs.throwing.object.Goals as goal

pub returns-in-Null : goal.returns-in-Null
returns-in-Null c = rw c.in-Null.is record {
  object = trap_other view_reference c.args.method.now.classes.headers.now (codes "java/lang/NullPointerException") (run_state c.args.run.now) (run_state c.trap.new.run) c.trap.result c.trap.ensures.trapped;
}
