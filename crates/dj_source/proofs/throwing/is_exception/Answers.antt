use Rattle.std.proofs.lemmas.Bool.Decides.{same_from_decides}
use Rattle.dj_values.specs.Fits.{throwable_name}
use Rattle.dj_values.proofs.Deciding.{Decides-subclass}
use Rattle.dj_source.proofs.throwing.is_exception.Goals as goal

pub returns : goal.returns
returns c = record { below = same_from_decides _ _ c.is_throwable.ensures.throwable (Decides-subclass c.args.headers.now c.args.class.now throwable_name) }
