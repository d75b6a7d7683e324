use Rattle.std.proofs.Common.{Some}
use Rattle.dj_values.specs.Views.{view_value}
use Rattle.dj_outside.specs.Runs.{world_of}
use Rattle.dj_objects.specs.Runs.{values_of, store_of}
use Rattle.dj_objects.proofs.RunLemmas.{stored}
use Rattle.dj_objects.proofs.run.Run.put.Goals as goal

pub returns : goal.returns
returns c = record {
  put = stored c.args.variable (Some (view_value c.args.value)) (values_of c.args.self.now.values) (values_of c.put.new.self) (store_of c.args.self.now).held (world_of c.args.self.now.outside) c.in_ok-put.ensures.ok;
}
