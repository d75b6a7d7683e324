use Rattle.std.proofs.Common.{length}
use Rattle.dj_names.specs.Types.{view_types}
use Rattle.dj_names.proofs.RestLemmas.{ParametersRead}
use Rattle.dj_names.proofs.descriptors.read_method.Given as goal

abbrev pub invariant-loop-unit : goal.invariant-loop-unit
invariant-loop-unit l = ParametersRead (view_types l.parameters.items) l.room l.initial.unread l.unread

abbrev pub decreases-loop-unit : goal.decreases-loop-unit
decreases-loop-unit l = length l.unread
