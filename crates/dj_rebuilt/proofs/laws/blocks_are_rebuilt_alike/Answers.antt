use Rattle.dj_rebuilt.proofs.Alike.{rebuilt_alike}
use Rattle.dj_rebuilt.proofs.laws.blocks_are_rebuilt_alike.Goals as goal

pub returns : goal.returns
returns c = record { alike = rebuilt_alike }
