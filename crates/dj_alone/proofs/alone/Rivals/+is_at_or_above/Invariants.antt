use Rattle.std.proofs.Common.{◌≡◌, ◌-◌, drop, map}
use Rattle.std.specs.List.{list_any}
use Rattle.dj_names.specs.Types.{view_types}
use Rattle.dj_kinds.specs.Search.{depth_first, interfaces_of}
use Rattle.dj_meaning.specs.Members.{view_members}
use Rattle.dj_alone.specs.Rivals.{has}
use Rattle.dj_alone.proofs.alone.Rivals.+is_at_or_above.Given as goal

abbrev pub decreases-is_at_or_above : goal.decreases-is_at_or_above
decreases-is_at_or_above l = l.most

abbrev pub invariant-loop-parent : goal.invariant-loop-parent
invariant-loop-parent l =
    list_any (λ parent. list_any (has l.self.headers.now (map view_members l.self.members.now) l.self.class.now l.self.name.now (view_types l.self.parameters.now)) (depth_first (l.most - 1) l.self.headers.now parent)) (interfaces_of l.self.headers.now l.interface)
    ≡ list_any (λ parent. list_any (has l.self.headers.now (map view_members l.self.members.now) l.self.class.now l.self.name.now (view_types l.self.parameters.now)) (depth_first (l.most - 1) l.self.headers.now parent)) (drop l.parent-index l.parent-items)
