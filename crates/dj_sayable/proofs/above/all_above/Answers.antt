use Rattle.std.proofs.Common.{◌≡◌, ℕ, List, get_or, sym, subst, arith}
use Rattle.dj_sayable.proofs.ClimbLemmas.{climb_start, climb_step, climb_room, climb_end}
use Rattle.dj_sayable.proofs.above.all_above.Goals as goal

pub loop-at-init : goal.loop-at-init
loop-at-init c = record {
  paired = c.in_ok-add_all.ensures.paired;
  climbs = climb_start c.args.headers.now c.args.classes.now c.add_all.new.self.names (rw c.new.ensures at c.in_ok-add_all.ensures.gains) (rw c.new.ensures at c.in_ok-add_all.ensures.continues);
}

pub loop-at-smaller : goal.loop-at-smaller
loop-at-smaller c = omega (arith, c.len.ensures, climb_room c.args.headers.now c.args.classes.now c.loop-at.at c.loop-at.found.names c.loop-at.invariant.climbs)

pub loop-at-preserved : goal.loop-at-preserved
loop-at-preserved c = record {
  paired = c.in_ok-add_parents.ensures.paired;
  climbs = climb_step c.args.headers.now c.args.classes.now c.loop-at.at c.in_ok-class.class c.loop-at.found.names c.add_parents.new.self.names
      (omega (arith, c.len.ensures, c.loop-at-test.true)) (subst (λ (x : List ℕ). x ≡ get_or c.loop-at.found.names c.loop-at.at x) (sym c.in_ok-class.ensures.equal) (rw c.as_slice.ensures at c.index-as_slice-at.is)) c.in_ok-add_parents.ensures.gains c.in_ok-add_parents.ensures.continues c.loop-at.invariant.climbs;
}

pub returns : goal.returns
returns c = record { above = climb_end c.args.headers.now c.args.classes.now c.loop-at.at c.loop-at.found.names (omega (arith, c.len.ensures, c.loop-at-test.false)) c.loop-at.invariant.climbs }
