use Rattle.dj_decompiled.proofs.Decompiled.{bodies-show}
use Rattle.dj_decompiled.proofs.laws.decompiled_bodies_show.Goals as goal

pub returns : goal.returns
returns c = record { show = bodies-show }
