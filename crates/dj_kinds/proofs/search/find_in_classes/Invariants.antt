use Rattle.std.proofs.Common.{◌-◌, ◌∷◌, Option, Some, flat_map}
use Rattle.dj_names.specs.declared.members.Member.{Member}
use Rattle.dj_kinds.specs.Search.{upward, beside}
use Rattle.dj_kinds.specs.Deciding.{Finds}
use Rattle.dj_kinds.proofs.search.find_in_classes.Given as goal

abbrev pub invariant-loop : goal.invariant-loop
invariant-loop g l =
    (found : Option Member) → Finds (g.D.Declares.own l.declares) (flat_map (λ one. one ∷ beside l.most l.headers one) (upward (l.most - l.counter) l.headers (Some l.at))) found
    → Finds (g.D.Declares.own l.declares) (flat_map (λ one. one ∷ beside l.most l.headers one) (upward l.most l.headers (Some l.class))) found
