use Rattle.std.proofs.Common.{◌≡◌, List, sym, ap, subst}
use Rattle.dj_world.specs.declared.fault.ClashKind.TheVariants as clash
use Rattle.dj_world.specs.Worlds.{WorldOf}
use Rattle.dj_names.specs.declared.header.Header.{Header}
use Rattle.dj_world.specs.Wanting.{KeepsWanted}
use Rattle.dj_world.proofs.ClashLemmas.{world_after, may_add_in}
use Rattle.dj_world.proofs.WantedLemmas.{keeps_more}
use Rattle.dj_world.proofs.world.World.push.Goals as goal

pub push-requires-2 : goal.push-requires-2
push-requires-2 c =
    let same : c.self.inside.headers ≡ c.args.self.now.headers = ap (λ (w : WorldOf). w.headers) c.self.view_is in
    may_add_in c.self.inside.headers c.args.self.now.headers c.args.header same c.requires.may_be_added clash.Twice

pub invariant_of-self-in-Ok : goal.invariant_of-self-in-Ok
invariant_of-self-in-Ok c =
    let same : c.self.inside.headers ≡ c.args.self.now.headers = ap (λ (w : WorldOf). w.headers) c.self.view_is in
    record {
      is_world = world_after c.self.inside.headers c.push-2.new.self c.self.inside.members c.push.new.self c.args.header c.args.members c.self.invariant.is_world
          (may_add_in c.self.inside.headers c.args.self.now.headers c.args.header same c.requires.may_be_added) c.in-Ok.ensures.ok c.in_ok-push.ensures.ok;
      keeps = subst (λ (hs : List Header). KeepsWanted hs c.self.inside.wanted) (sym c.in-Ok.ensures.ok) (keeps_more c.self.inside.headers c.self.inside.wanted c.self.invariant.keeps c.args.header);
    }
