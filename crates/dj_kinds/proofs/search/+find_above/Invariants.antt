use Rattle.std.proofs.Common.{◌-◌, Option, drop, flat_map}
use Rattle.dj_names.specs.declared.members.Member.{Member}
use Rattle.dj_kinds.specs.Search.{depth_first, interfaces_of}
use Rattle.dj_kinds.specs.Deciding.{Finds}
use Rattle.dj_kinds.proofs.search.+find_above.Given as goal

abbrev pub decreases-find_above : goal.decreases-find_above
decreases-find_above g l = l.most

abbrev pub invariant-loop-parent : goal.invariant-loop-parent
invariant-loop-parent g l =
    (found : Option Member) → Finds (g.D.Declares.own l.declares) (flat_map (depth_first (l.most - 1) l.headers) (drop l.parent-index l.parent-items)) found
    → Finds (g.D.Declares.own l.declares) (flat_map (depth_first (l.most - 1) l.headers) (interfaces_of l.headers l.interface)) found
