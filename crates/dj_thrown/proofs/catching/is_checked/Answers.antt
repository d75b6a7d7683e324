use Rattle.std.proofs.lemmas.Bool.Decides.{same_from_decides}
use Rattle.dj_thrown.proofs.CheckedLemmas.{Decides-checked}
use Rattle.dj_thrown.proofs.catching.is_checked.Goals as goal

pub returns : goal.returns
returns c = record { checked = same_from_decides _ _ c.checked.ensures.checked (Decides-checked c.args.kinds.now c.args.class.now) }
