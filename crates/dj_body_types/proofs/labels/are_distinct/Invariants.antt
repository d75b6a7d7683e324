use Rattle.std.proofs.Common.{◌≡◌, ◌&&◌, drop}
use Rattle.dj_syntax.specs.Trees.{view_groups}
use Rattle.dj_typed.specs.Switches as spec
use Rattle.dj_body_types.specs.Seen.{all_fresh, has}
use Rattle.dj_body_types.proofs.labels.are_distinct.Given as goal

abbrev pub invariant-loop-group : goal.invariant-loop-group
invariant-loop-group l = record { distinct : (l.distinct && all_fresh (has l.seen) (spec.labels_of (view_groups (drop l.group-index l.groups)))) ≡ spec.are_distinct (spec.labels_of (view_groups l.groups)) }
