use Rattle.std.proofs.Common.{◌≡◌, ◌-◌, map, Some}
use Rattle.std.specs.List.{list_any}
use Rattle.dj_names.specs.Types.{view_types}
use Rattle.dj_kinds.specs.Search.{upward}
use Rattle.dj_meaning.specs.Members.{view_members}
use Rattle.dj_alone.specs.Rivals.{has}
use Rattle.dj_alone.proofs.alone.Rivals.is_upward.Given as goal

abbrev pub invariant-loop : goal.invariant-loop
invariant-loop l =
    list_any (has l.self.headers.now (map view_members l.self.members.now) l.self.class.now l.self.name.now (view_types l.self.parameters.now)) (upward l.most l.self.headers.now (Some l.self.class.now))
    ≡ list_any (has l.self.headers.now (map view_members l.self.members.now) l.self.class.now l.self.name.now (view_types l.self.parameters.now)) (upward (l.most - l.counter) l.self.headers.now (Some l.at))
