use Rattle.dj_causes.specs.ClassCauses.{IsSaid}
use Rattle.dj_sayable.proofs.SayingLemmas.{untrue}
use Rattle.dj_causes.proofs.unsaid.is_unsaid.Goals as goal

pub returns : goal.returns
returns c = record {
  unsaid = λ class is_scope. untrue c.in_ok-said.said (IsSaid c.args.world.now class c.args.name.now) ((rw c.headers.ensures.headers at c.in_ok-said.ensures.said) c.args.world.now.members class is_scope);
}
