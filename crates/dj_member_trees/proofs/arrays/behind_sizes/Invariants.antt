use Rattle.std.proofs.Common.{◌≡◌, ◌-◌}
use Rattle.dj_names.specs.Types.{view_type}
use Rattle.dj_member_trees.specs.Fitting.{behind_sizes}
use Rattle.dj_member_trees.proofs.arrays.behind_sizes.Given as goal

abbrev pub invariant-loop : goal.invariant-loop
invariant-loop l = behind_sizes (l.count - l.counter) (view_type l.at) ≡ behind_sizes l.count (view_type l.kind)
