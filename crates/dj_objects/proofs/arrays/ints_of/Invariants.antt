use Rattle.std.proofs.Common.{drop}
use Rattle.dj_values.specs.Views.{view_values}
use Rattle.dj_objects.proofs.IntLemmas.{Reads}
use Rattle.dj_objects.proofs.arrays.ints_of.Given as goal

abbrev pub invariant-loop-value : goal.invariant-loop-value
invariant-loop-value l = Reads (view_values l.values) (view_values (drop l.value-index l.values)) l.ints
