use Rattle.std.proofs.Common.{refl}
use Rattle.std.proofs.lemmas.Bool.{false≢true}
use Rattle.dj_names.proofs.ClassNameLemmas.{NameRead-none, NameRead-stops, NameRead-name, stuck_at, stuck_at_end}
use Rattle.dj_names.proofs.descriptors.read_class.Goals as goal

pub loop-unit-init : goal.loop-unit-init
loop-unit-init c = rw c.new-name.ensures.items (record { split = refl; read = NameRead-none })

pub returns-then-not-may_follow-clause-stops : goal.returns-then-not-may_follow-clause-stops
returns-then-not-may_follow-clause-stops c =
    let i = c.loop-unit.invariant in
    rw (← i.split)
    (NameRead-stops c.loop-unit.name.items c.loop-unit.started c.loop-unit.unread i.read
    (stuck_at c.loop-unit.started c.in-Some.unit c.loop-unit.unread c.in-Some.ensures.at_hand (λ follows. false≢true (c.if-not-may_follow.ensures.follows.1 follows))))

pub returns-then-unit-eq59-clause-name : goal.returns-then-unit-eq59-clause-name
returns-then-unit-eq59-clause-name c =
    rw (c.new.ensures.units, c.in_ok-from_vec.ensures.units)
    (NameRead-name c.loop-unit.name.items c.loop-unit.started c.in-Some.unit c.loop-unit.invariant.read (c.if-not-may_follow.ensures.follows.0 refl) c.if-unit-eq59.true)

pub returns-clause-stops : goal.returns-clause-stops
returns-clause-stops c =
    let i = c.loop-unit.invariant in
    rw (← i.split)
    (NameRead-stops c.loop-unit.name.items c.loop-unit.started c.loop-unit.unread i.read (stuck_at_end c.loop-unit.started c.loop-unit.unread c.in_default.ensures.at_hand))
