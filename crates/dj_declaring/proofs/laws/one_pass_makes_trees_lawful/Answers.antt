use Rattle.dj_declaring.proofs.Passing.{pass_makes_lawful}
use Rattle.dj_declaring.proofs.Leaving.{pass_breaks, lists_lawful}
use Rattle.dj_declaring.proofs.laws.one_pass_makes_trees_lawful.Goals as goal

pub returns : goal.returns
returns c = record { lawful = pass_makes_lawful; breaks = pass_breaks; lists = lists_lawful }
