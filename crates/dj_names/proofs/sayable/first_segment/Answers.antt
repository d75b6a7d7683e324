use Rattle.std.proofs.Common.{nat_eq, sym}
use Rattle.dj_names.proofs.SegmentLemmas.{before_place, before_none}
use Rattle.dj_names.proofs.sayable.first_segment.Goals as goal

pub returns-in-Some : goal.returns-in-Some
returns-in-Some c = record { first = before_place (λ unit. nat_eq unit 47) c.args.name.now c.in-Some.end (sym c.in-Some.ensures.place) }

pub returns-in-None : goal.returns-in-None
returns-in-None c = record { first = before_none (λ unit. nat_eq unit 47) c.args.name.now (sym c.in-None.ensures.place) }
