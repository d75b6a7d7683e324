use Rattle.dj_exits.proofs.Rebuilt.{numbers-stay, blocks-apart}
use Rattle.dj_exits.proofs.laws.numbers_stay_apart.Goals as goal

pub returns : goal.returns
returns c = record { stay = numbers-stay; apart = blocks-apart }
