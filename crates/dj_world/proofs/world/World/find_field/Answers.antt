use Rattle.std.proofs.Common.{subst}
use Rattle.dj_names.specs.Types.{view_type}
use Rattle.dj_kinds.specs.Search.{FindsOne}
use Rattle.dj_kinds.specs.Found.{IsFoundField}
use Rattle.dj_world.specs.Worlds.{WorldOf}
use Rattle.dj_world.proofs.world.World.find_field.Goals as goal

pub returns : goal.returns
returns c = record {
  found = subst (λ (w : WorldOf). FindsOne (IsFoundField w.headers w.members c.args.class.now c.args.name.now (view_type c.args.kind.now)) c.find_field.result) c.self.view_is c.find_field.ensures.found;
}
