use Rattle.dj_constructors_formed.proofs.Entering.{constructors-may-enter}
use Rattle.dj_constructors_formed.proofs.Ready.{constructor-trees-are-ready}
use Rattle.dj_constructors_formed.proofs.laws.constructor_trees_are_ready.Goals as goal

pub returns : goal.returns
returns c = record { enter = constructors-may-enter; ready = constructor-trees-are-ready }
