use Rattle.std.proofs.lemmas.Bool.Decides.{same_from_decides}
use Rattle.dj_checked.proofs.CastingLemmas.{Decides-goes_up}
use Rattle.dj_checked.proofs.casting.goes_up.Goals as goal

pub returns : goal.returns
returns c = record { goes = same_from_decides _ _ c.is_class_assignable.ensures.goes (Decides-goes_up c.args.headers.now c.args.from.now c.args.to.now) }
