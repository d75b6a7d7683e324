use Rattle.std.specs.Prelude.{option_map}
use Rattle.dj_values.specs.Views.{view_value, view_action}
use Rattle.dj_values.specs.Outcomes as outcomes
use Rattle.dj_outside.specs.Runs.{world_of}
use Rattle.dj_outside.proofs.Anywhere.{ends_anywhere}
use Rattle.dj_objects.specs.Runs.{store_of}
use Rattle.dj_objects.proofs.run.Method.ask.Goals as goal

pub returns : goal.returns
returns c = record {
  asked = ends_anywhere (option_map view_value) c.args.self.now.classes.headers.now (outcomes.ask (view_action c.args.action)) (store_of c.args.run.now) (world_of c.args.run.now.outside) (world_of c.ask.new.self) c.ask.result c.ask.ensures.asked;
}
