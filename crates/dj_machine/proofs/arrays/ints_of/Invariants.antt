use Rattle.std.proofs.Common.{drop}
use Rattle.dj_values.specs.Views.{view_values}
use Rattle.dj_machine.proofs.IntLemmas.{Reads}
use Rattle.dj_machine.proofs.arrays.ints_of.Given as goal

abbrev pub invariant-loop-value : goal.invariant-loop-value
invariant-loop-value l = Reads (view_values l.values) (drop l.value-index (view_values l.values)) l.ints
