use Rattle.std.proofs.Common.{◌≡◌, length}
use Rattle.dj_tokens.proofs.NamesLemmas.{names_on}
use Rattle.dj_tokens.proofs.names.read_names.Given as goal

abbrev pub invariant-loop-alloc : goal.invariant-loop-alloc
invariant-loop-alloc l = names_on l.names l.reader ≡ names_on l.initial.names l.initial.reader

abbrev pub decreases-loop-alloc : goal.decreases-loop-alloc
decreases-loop-alloc l = length l.reader
