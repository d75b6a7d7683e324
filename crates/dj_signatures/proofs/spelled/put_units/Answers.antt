use Rattle.std.proofs.Common.{◌++◌, List, ℕ, get_or, refl, sym, ap, ◌∙◌, arith}
use Rattle.std.proofs.lemmas.List.{drop_all}
use Rattle.dj_signatures.specs.Spelled.{spelled_units}
use Rattle.dj_signatures.proofs.PuttingLemmas.{units_more}
use Rattle.dj_signatures.proofs.spelled.put_units.Goals as goal

pub loop-unit-preserved : goal.loop-unit-preserved
loop-unit-preserved c =
    rw (c.in_ok-push-2.ensures.items, c.in_ok-push.ensures.items)
    (units_more c.loop-unit.text.items c.args.units.now c.loop-unit.unit-index (get_or c.args.units.now c.loop-unit.unit-index 0) (omega arith) refl ∙ c.loop-unit.invariant)

pub returns : goal.returns
returns c = record {
  put = rw c.in_ok-push-3.ensures.items
      (ap (λ (us : List ℕ). c.loop-unit.text.items ++ spelled_units us) (sym (drop_all c.loop-unit.unit-index c.args.units.now (omega arith))) ∙ c.loop-unit.invariant);
}
