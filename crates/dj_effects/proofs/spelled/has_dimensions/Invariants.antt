use Rattle.std.proofs.Common.{◌≡◌, ◌+◌}
use Rattle.dj_names.specs.Types.{view_type}
use Rattle.dj_names.specs.Descriptors.{dimensions}
use Rattle.dj_effects.proofs.spelled.has_dimensions.Given as goal

abbrev pub invariant-loop : goal.invariant-loop
invariant-loop l = dimensions (view_type l.inner) + l.counter ≡ dimensions (view_type l.kind)
