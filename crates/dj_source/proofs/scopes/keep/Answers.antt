use Rattle.std.proofs.Common.{ap, ◌∙◌}
use Rattle.std.specs.Prelude.{option_map}
use Rattle.dj_values.specs.Views.{view_value}
use Rattle.dj_objects.specs.Runs.{values_of}
use Rattle.dj_source.proofs.KeepingLemmas.{keeps_value}
use Rattle.dj_source.proofs.scopes.keep.Goals as goal

pub returns : goal.returns
returns c = record {
  scope = c.in_ok-keep.ensures.kept;
  store = keeps_value c.args.kept.now.values c.push.new.self _ (values_of c.args.run.now.values c.args.variable) c.in_ok-push.ensures.ok (ap (option_map view_value) c.in_ok-value.ensures.equal ∙ c.get.ensures.value);
}
