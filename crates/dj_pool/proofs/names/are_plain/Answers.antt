use Rattle.std.proofs.Common.{ℕ, Contains, codes, refl}
use Rattle.std.proofs.lemmas.Bool.{false≢true}
use Rattle.std.proofs.lemmas.List.Elements.{All-more}
use Rattle.dj_pool.proofs.NameTests.{all_taken}
use Rattle.dj_pool.proofs.names.are_plain.Goals as goal

pub returns-then-not-is_plain : goal.returns-then-not-is_plain
returns-then-not-is_plain c =
    record { plain = (λ yes. absurd (false≢true yes), λ all. c.if-not-is_plain.ensures.plain.1 (all c.loop-unit.unit-index 0 c.loop-unit-test.true)) }

pub returns : goal.returns
returns c =
    let all = all_taken (λ (unit : ℕ). ¬ Contains (codes ".;[/") unit) c.args.units.now c.loop-unit.unit-index c.loop-unit-test.false c.loop-unit.invariant in
    record { plain = (λ yes. all, λ plain. refl) }

pub loop-unit-preserved : goal.loop-unit-preserved
loop-unit-preserved c =
    All-more (λ (unit : ℕ). ¬ Contains (codes ".;[/") unit) c.args.units.now c.loop-unit.unit-index 0 c.loop-unit-test.true c.loop-unit.invariant (c.if-not-is_plain.ensures.plain.0 refl)
