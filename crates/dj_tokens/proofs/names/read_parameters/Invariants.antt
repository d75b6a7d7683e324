use Rattle.std.proofs.Common.{◌≡◌, None, length}
use Rattle.dj_names.specs.Types.{view_types}
use Rattle.dj_tokens.specs.Names.{more_parameters}
use Rattle.dj_tokens.proofs.names.read_parameters.Given as goal

abbrev pub invariant-loop-alloc : goal.invariant-loop-alloc
invariant-loop-alloc l =
    more_parameters (view_types l.kinds.items) None l.reader ≡ more_parameters (view_types l.initial.kinds.items) None l.initial.reader

abbrev pub decreases-loop-alloc : goal.decreases-loop-alloc
decreases-loop-alloc l = length l.reader
