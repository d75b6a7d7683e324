use Rattle.dj_members.proofs.ChainLemmas.{Stands, AllSeen, left}
use Rattle.dj_members.proofs.name_table.all_named.Given as goal

abbrev pub invariant-loop-place : goal.invariant-loop-place
invariant-loop-place g l = record { stands : Stands l.names l.name l.place; seen : AllSeen l.names l.name (g.P.Picker.picks l.picker) l.place }

abbrev pub decreases-loop-place : goal.decreases-loop-place
decreases-loop-place g l = left l.place
