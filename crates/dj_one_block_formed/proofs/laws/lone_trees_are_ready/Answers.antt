use Rattle.dj_one_block_formed.proofs.Heading.{tested-may-enter}
use Rattle.dj_one_block_formed.proofs.Entering.{variables-may-enter}
use Rattle.dj_one_block_formed.proofs.Ready.{lone-trees-are-ready}
use Rattle.dj_one_block_formed.proofs.laws.lone_trees_are_ready.Goals as goal

pub returns : goal.returns
returns c = record { heading = tested-may-enter; enter = variables-may-enter; ready = lone-trees-are-ready }
