use Rattle.dj_one_block_shown.proofs.Trees.{lone-trees-show}
use Rattle.dj_one_block_shown.proofs.Method.{methods-shown}
use Rattle.dj_one_block_shown.proofs.laws.one_block_methods_are_shown.Goals as goal

pub returns : goal.returns
returns c = record { tree = lone-trees-show; method = methods-shown }
