use Rattle.dj_constructors.proofs.Trees.{constructor-trees-show}
use Rattle.dj_constructors.proofs.laws.constructor_trees_show.Goals as goal

pub returns : goal.returns
returns c = record { tree = constructor-trees-show }
