use Rattle.std.proofs.lemmas.Bool.Decides.{same_from_decides}
use Rattle.dj_names.specs.Assignable.{above_arrays}
use Rattle.dj_typing.proofs.WordLemmas.{Decides-among}
use Rattle.dj_checked.proofs.casting.is_above_arrays.Goals as goal

pub returns : goal.returns
returns c = record { above = same_from_decides _ _ c.is_above_arrays.ensures.above (Decides-among above_arrays c.args.class.now) }
