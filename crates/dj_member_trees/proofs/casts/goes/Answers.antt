use Rattle.std.proofs.lemmas.Bool.Decides.{same_from_decides}
use Rattle.dj_names.specs.Types.{view_type, view_static}
use Rattle.dj_member_trees.proofs.TypeLemmas.{Decides-assignable}
use Rattle.dj_member_trees.proofs.casts.goes.Goals as goal

pub returns : goal.returns
returns c = record { goes = same_from_decides _ _ c.is_assignable.ensures.assignable (Decides-assignable c.args.headers.now (view_static c.args.from.now) (view_type c.args.to.now)) }
