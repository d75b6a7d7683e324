use Rattle.std.proofs.Common.{inl, inr}
use Rattle.std.proofs.lemmas.Bool.{both_ways}
use Rattle.dj_world.proofs.ClashLemmas.{kind_by_super, kind_by_interface, kind_by_lower, kind_found}
use Rattle.dj_world.proofs.clash.has_mismatch.Goals as goal

pub returns-then-is_below_interface : goal.returns-then-is_below_interface
returns-then-is_below_interface c = record { exact = (λ yes. kind_by_super c.args.headers.now c.args.header.now (c.is_below_interface.ensures.exact.0 yes), λ wrong. c.if-is_below_interface.true) }

pub returns-else-is_below_interface : goal.returns-else-is_below_interface
returns-else-is_below_interface c =
    let headers = c.args.headers.now in
    let header = c.args.header.now in
    record {
      exact = (
        λ yes. elim (c.has_wrong_interface.ensures.exact.0 yes) [
          | inl class ↦ kind_by_interface headers header c.requires.fresh class
          | inr wanted ↦ kind_by_lower headers header c.requires.fresh wanted
        ],
        λ wrong. elim (kind_found headers header c.requires.lawful c.requires.no_circle wrong) [
          | inl super ↦ absurd (both_ways c.is_below_interface.result c.if-is_below_interface.false (c.is_below_interface.ensures.exact.1 super))
          | inr other ↦ c.has_wrong_interface.ensures.exact.1 other
        ],
      );
    }
