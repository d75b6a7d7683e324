use Rattle.std.proofs.lemmas.Result.{err_from_is_err_and}
use Rattle.dj_values.specs.Views.{view_action}
use Rattle.dj_objects.specs.Runs.{run_state}
use Rattle.dj_objects.proofs.RunLemmas.{ask_gives, ask_lacks, ask_stops}
use Rattle.dj_objects.proofs.run.Method.ask_value.Goals as goal

pub returns-in-Some : goal.returns-in-Some
returns-in-Some c = record {
  asked = ask_gives c.args.self.now.classes.headers.now (view_action c.args.action) (run_state c.args.run.now) (run_state c.ask.new.run) c.in-Some.value (rw c.in-Some.is at c.in_ok-told.ensures.asked);
}

pub returns-in-None : goal.returns-in-None
returns-in-None c = record {
  asked = ask_lacks c.args.self.now.classes.headers.now (view_action c.args.action) (run_state c.args.run.now) (run_state c.ask.new.run) (rw c.in-None.is at c.in_ok-told.ensures.asked);
}

pub returns-in_err-told : goal.returns-in_err-told
returns-in_err-told c =
    let p = err_from_is_err_and c.from_residual.result c.from_residual.ensures.1 in
    rw (p.1, p.2) record {
      asked = ask_stops c.args.self.now.classes.headers.now (view_action c.args.action) (run_state c.args.run.now) (run_state c.ask.new.run) c.in_err-told.field-0.0 c.in_err-told.ensures.asked;
    }
