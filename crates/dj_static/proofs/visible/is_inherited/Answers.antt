use Rattle.std.proofs.lemmas.Bool.Decides.{same_from_decides}
use Rattle.dj_static.proofs.VisibleLemmas.{Decides-inherited}
use Rattle.dj_static.proofs.visible.is_inherited.Goals as goal

pub returns : goal.returns
returns c = record {
  inherited = same_from_decides _ _ c.inherits.ensures.inherited (Decides-inherited c.args.headers.now c.args.class.now c.args.owner.now c.args.flags);
}
