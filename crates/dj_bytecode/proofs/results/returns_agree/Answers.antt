use Rattle.dj_bytecode.proofs.NarrowedResults.{narrows_as_converted}
use Rattle.dj_bytecode.proofs.results.returns_agree.Goals as goal

pub returns : goal.returns
returns c = record { agree = narrows_as_converted }
