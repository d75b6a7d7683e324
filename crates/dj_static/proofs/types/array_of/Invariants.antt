use Rattle.std.proofs.Common.{◌≡◌}
use Rattle.dj_names.specs.Types.{view_type}
use Rattle.dj_meaning.specs.StaticTypes.{array_of}
use Rattle.dj_static.proofs.types.array_of.Given as goal

abbrev pub invariant-loop : goal.invariant-loop
invariant-loop l = view_type l.array ≡ array_of l.counter (view_type l.kind)
