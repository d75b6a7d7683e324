use Rattle.std.proofs.lemmas.Bool.Decides.{same_from_decides}
use Rattle.dj_names.specs.Types.{view_type}
use Rattle.dj_checked.proofs.CastingLemmas.{Decides-type}
use Rattle.dj_checked.proofs.casting.is_type.Goals as goal

pub returns : goal.returns
returns c = record { same = same_from_decides _ _ c.same_type.ensures.same (Decides-type (view_type c.args.first.now) (view_type c.args.second.now)) }
