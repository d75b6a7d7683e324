use Rattle.std.proofs.Common.{◌≡◌, ◌↔◌, Any, IsTrue, Some, inl, inr}
use Rattle.std.specs.Prelude.{IsBitSet}
use Rattle.std.proofs.lemmas.Bool.{both_ways}
use Rattle.dj_world.proofs.ClashLemmas.{final_by_super, final_by_lower, final_found}
use Rattle.dj_world.proofs.clash.has_final_super.Goals as goal

pub returns-then-is_below_final : goal.returns-then-is_below_final
returns-then-is_below_final c = record { exact = (λ yes. final_by_super c.args.headers.now c.args.header.now (c.is_below_final.ensures.exact.0 yes), λ wrong. c.if-is_below_final.true) }

pub returns-else-is_below_final : goal.returns-else-is_below_final
returns-else-is_below_final c =
    let headers = c.args.headers.now in
    let header = c.args.header.now in
    let above : IsTrue c.is_final_above.result ↔ (IsBitSet header.flags 4 × Any (λ other. other.superclass ≡ Some header.name) headers) = c.is_final_above.ensures.exact headers c.requires.wanted in
    record {
      exact = (
        λ yes. let both = above.0 yes in final_by_lower headers header both.0 both.1,
        λ wrong. elim (final_found headers header c.requires.lawful c.requires.no_circle wrong) [
          | inl super ↦ absurd (both_ways c.is_below_final.result c.if-is_below_final.false (c.is_below_final.ensures.exact.1 super))
          | inr lower ↦ above.1 lower
        ],
      );
    }
