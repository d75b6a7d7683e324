use Rattle.std.proofs.Common.{inl, inr}
use Rattle.std.proofs.lemmas.Bool.{both_ways}
use Rattle.dj_world.proofs.ClashLemmas.{core_broken, wrong_kind_cases}
use Rattle.dj_world.proofs.clash.has_wrong_kind.Goals as goal

pub returns-then-has_mismatch : goal.returns-then-has_mismatch
returns-then-has_mismatch c = record { exact = (λ yes. inl (c.has_mismatch.ensures.exact.0 c.if-has_mismatch.true), λ wrong. c.if-has_mismatch.true) }

pub returns-else-has_mismatch : goal.returns-else-has_mismatch
returns-else-has_mismatch c = record {
  exact = (
    λ yes. core_broken c.args.headers.now c.args.header.now (c.breaks_core.ensures.exact.0 yes),
    λ wrong. elim (wrong_kind_cases c.args.headers.now c.args.header.now c.requires.lawful wrong) [
      | inl mismatch ↦ absurd (both_ways c.has_mismatch.result c.if-has_mismatch.false (c.has_mismatch.ensures.exact.1 mismatch))
      | inr breaks ↦ c.breaks_core.ensures.exact.1 breaks
    ],
  );
}
