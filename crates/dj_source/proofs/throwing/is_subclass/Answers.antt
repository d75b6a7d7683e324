use Rattle.std.proofs.lemmas.Bool.Decides.{same_from_decides}
use Rattle.dj_values.proofs.Deciding.{Decides-subclass}
use Rattle.dj_source.proofs.throwing.is_subclass.Goals as goal

pub returns : goal.returns
returns c = record { below = same_from_decides _ _ c.is_subclass.ensures.subclass (Decides-subclass c.args.headers.now c.args.lower.now c.args.upper.now) }
