use Rattle.std.proofs.Common.{Option, drop, flat_map}
use Rattle.dj_names.specs.declared.members.Member.{Member}
use Rattle.dj_kinds.specs.Search.{depth_first, beside}
use Rattle.dj_kinds.specs.Deciding.{Finds}
use Rattle.dj_kinds.proofs.search.find_beside.Given as goal

abbrev pub invariant-loop-interface : goal.invariant-loop-interface
invariant-loop-interface g l =
    (found : Option Member) → Finds (g.D.Declares.own l.declares) (flat_map (depth_first l.most l.headers) (drop l.interface-index l.interface-items)) found
    → Finds (g.D.Declares.own l.declares) (beside l.most l.headers l.class) found
