use Rattle.std.proofs.Common.{◌-◌, Option, Some}
use Rattle.dj_names.specs.declared.members.Member.{Member}
use Rattle.dj_kinds.specs.Search.{upward}
use Rattle.dj_kinds.specs.Deciding.{Finds}
use Rattle.dj_kinds.proofs.search.find_upward.Given as goal

abbrev pub invariant-loop : goal.invariant-loop
invariant-loop g l =
    (found : Option Member) → Finds (g.D.Declares.own l.declares) (upward (l.most - l.counter) l.headers (Some l.at)) found
    → Finds (g.D.Declares.own l.declares) (upward l.most l.headers (Some l.class)) found
