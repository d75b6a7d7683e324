use Rattle.std.proofs.Common.{◌+◌, ◌≡◌, false, [], take, get_or, inl, inr, refl}
use Rattle.dj_starts.specs.declared.ways.Edge.{Edge}
use Rattle.dj_starts.specs.Marks.{IsTarget}
use Rattle.dj_starts.proofs.Marking.{contains_none, contains_first, contains_more, contains_all, contained_all}
use Rattle.dj_starts.proofs.Visiting.{visit_old, visit_both, visit_said}
use Rattle.dj_starts.proofs.reach.visit_all.Goals as goal

abbrev nowhere : Edge
nowhere = record { target = 0; caught = false }

pub loop-way-init : goal.loop-way-init
loop-way-init c = visit_old c.args.seen.now c.args.pending.now (IsTarget []) (λ pc within asked. absurd (contains_none asked.way asked.one))

pub loop-way-preserved : goal.loop-way-preserved
loop-way-preserved c =
    let xs = c.args.ways.now in
    let i = c.loop-way.way-index in
    visit_said c.args.seen.now c.visit.new.seen c.args.pending.now c.visit.new.pending _ (IsTarget (take (i + 1) xs))
    (λ pc asked. elim asked [
      | inl old ↦ record { way = old.way; one = contains_more xs old.way i nowhere c.loop-way-test.true (inl old.one); there = old.there }
      | inr same ↦ record { way = get_or xs i nowhere; one = contains_more xs (get_or xs i nowhere) i nowhere c.loop-way-test.true (inr refl); there = same }
    ])
    (λ pc asked. elim (contains_first xs asked.way asked.way i nowhere c.loop-way-test.true asked.one) [
      | inl old ↦ inl record { way = asked.way; one = old; there = asked.there }
      | inr same ↦ inr (rw (← same) asked.there)
    ])
    (visit_both c.args.seen.now c.loop-way.seen c.visit.new.seen c.args.pending.now c.loop-way.pending c.visit.new.pending (IsTarget (take i xs)) (λ pc. pc ≡ (get_or xs i nowhere).target) c.loop-way.invariant c.in_ok-visit.ensures.visits)

pub returns : goal.returns
returns c = record {
  visits = visit_said c.args.seen.now c.loop-way.seen c.args.pending.now c.loop-way.pending (IsTarget (take c.loop-way.way-index c.args.ways.now)) (IsTarget c.args.ways.now)
      (λ pc asked. record { way = asked.way; one = contains_all c.args.ways.now asked.way c.loop-way.way-index c.loop-way-test.false asked.one; there = asked.there })
      (λ pc asked. record { way = asked.way; one = contained_all c.args.ways.now asked.way c.loop-way.way-index c.loop-way-test.false asked.one; there = asked.there })
      c.loop-way.invariant;
}
