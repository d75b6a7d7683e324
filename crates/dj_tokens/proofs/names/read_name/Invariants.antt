use Rattle.std.proofs.Common.{◌≡◌, length}
use Rattle.dj_tokens.specs.Names.{more_name}
use Rattle.dj_tokens.proofs.names.read_name.Given as goal

abbrev pub invariant-loop-reader : goal.invariant-loop-reader
invariant-loop-reader l = more_name l.name.items l.reader ≡ more_name l.initial.name.items l.initial.reader

abbrev pub decreases-loop-reader : goal.decreases-loop-reader
decreases-loop-reader l = length l.reader
