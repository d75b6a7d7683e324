use Rattle.std.proofs.Common.{refl, arith}
use Rattle.dj_sayable.proofs.FrontLemmas.{front_at, no_front}
use Rattle.dj_sayable.proofs.scope.has_class_in_front.Goals as goal

pub returns-then-branch : goal.returns-then-branch
returns-then-branch c =
    let has = c.in_ok-is_behind_class.ensures.behind.0 c.if-branch.true in
    record { front = (λ yes. front_at c.args.headers.now c.args.name.now c.loop-at.at c.loop-at-test.true has.0 (has.1, has.2), λ has. refl) }

pub returns : goal.returns
returns c = record {
  front = (
    λ yes. absurd cc,
    λ has. absurd (no_front c.args.headers.now c.args.name.now (λ at within. c.loop-at.invariant at (omega (arith, within, c.loop-at-test.false))) has),
  );
}
