use Rattle.std.proofs.lemmas.Bool.Decides.{same_from_decides}
use Rattle.dj_static.proofs.VisibleLemmas.{Decides-interface}
use Rattle.dj_static.proofs.visible.is_interface.Goals as goal

pub returns : goal.returns
returns c = record { interface = same_from_decides _ _ c.is_interface.ensures.interface (Decides-interface c.args.headers.now c.args.class.now) }
