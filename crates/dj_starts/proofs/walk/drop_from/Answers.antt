use Rattle.std.proofs.Common.{true, length, refl, inl, inr, arith, ap}
use Rattle.std.proofs.lemmas.Bool.{false≢true}
use Rattle.dj_starts.specs.Walking.{IsLastFrom}
use Rattle.dj_starts.proofs.Dropping.{dropped_none, dropped_more, dropped_all, last_above}
use Rattle.dj_starts.proofs.walk.drop_from.Goals as goal

pub loop-numbers-init : goal.loop-numbers-init
loop-numbers-init c = dropped_none c.args.low c.args.numbers.now c.requires.rising

pub loop-numbers-preserved : goal.loop-numbers-preserved
loop-numbers-preserved c =
    let is : IsLastFrom c.loop-numbers.numbers c.args.low = rw c.as_slice.ensures at (c.loop-numbers-test.ensures.exact.0 refl) in
    absurd (omega (arith, is.some, ap length c.in_default.ensures.0))

pub loop-numbers-preserved-then-last-low : goal.loop-numbers-preserved-then-last-low
loop-numbers-preserved-then-last-low c =
    let is : IsLastFrom c.loop-numbers.numbers c.args.low = rw c.as_slice.ensures at (c.loop-numbers-test.ensures.exact.0 refl) in
    dropped_more c.args.low c.args.numbers.now c.pop.new.self c.in-Some.last c.loop-numbers.found (last_above c.pop.new.self c.in-Some.last c.args.low (rw c.in-Some.ensures at is)) (rw c.in-Some.ensures at c.loop-numbers.invariant) true (λ _. inr c.if-last-low.true) (λ _. refl) (λ _. refl)

pub loop-numbers-preserved-else-last-low : goal.loop-numbers-preserved-else-last-low
loop-numbers-preserved-else-last-low c =
    let is : IsLastFrom c.loop-numbers.numbers c.args.low = rw c.as_slice.ensures at (c.loop-numbers-test.ensures.exact.0 refl) in
    dropped_more c.args.low c.args.numbers.now c.pop.new.self c.in-Some.last c.loop-numbers.found (last_above c.pop.new.self c.in-Some.last c.args.low (rw c.in-Some.ensures at is)) (rw c.in-Some.ensures at c.loop-numbers.invariant) c.loop-numbers.found (λ before. inl before) (λ before. before) (λ same. absurd (c.if-last-low.false same))

pub returns : goal.returns
returns c = dropped_all c.args.low c.args.numbers.now c.loop-numbers.numbers c.loop-numbers.found c.loop-numbers.invariant (λ is. false≢true (c.loop-numbers-test.ensures.exact.1 (rw c.as_slice.ensures is)))
