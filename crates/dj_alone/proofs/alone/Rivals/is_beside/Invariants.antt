use Rattle.std.proofs.Common.{◌≡◌, drop, map}
use Rattle.std.specs.List.{list_any}
use Rattle.dj_names.specs.Types.{view_types}
use Rattle.dj_kinds.specs.Search.{depth_first, interfaces_of}
use Rattle.dj_meaning.specs.Members.{view_members}
use Rattle.dj_alone.specs.Rivals.{has}
use Rattle.dj_alone.proofs.alone.Rivals.is_beside.Given as goal

abbrev pub invariant-loop-interface : goal.invariant-loop-interface
invariant-loop-interface l =
    list_any (λ parent. list_any (has l.self.headers.now (map view_members l.self.members.now) l.self.class.now l.self.name.now (view_types l.self.parameters.now)) (depth_first l.most l.self.headers.now parent)) (interfaces_of l.self.headers.now l.class)
    ≡ list_any (λ parent. list_any (has l.self.headers.now (map view_members l.self.members.now) l.self.class.now l.self.name.now (view_types l.self.parameters.now)) (depth_first l.most l.self.headers.now parent)) (drop l.interface-index l.interface-items)
