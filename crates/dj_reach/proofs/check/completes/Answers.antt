use Rattle.std.proofs.Common.{true}
use Rattle.dj_syntax.specs.Trees.{view_stms}
use Rattle.dj_places.specs.Surroundings.{surroundings_of}
use Rattle.dj_reach.proofs.CheckLemmas.{completes_told}
use Rattle.dj_reach.proofs.check.completes.Goals as goal

pub returns : goal.returns
returns c = record {
  completes = completes_told (record { around = surroundings_of c.args.classes.now; may_return = true }) (view_stms c.args.list.now) c.new-walk.result c.pass_list.new.walk c.new-walk.ensures.opening c.in_ok-pass_list.ensures.walked;
}
