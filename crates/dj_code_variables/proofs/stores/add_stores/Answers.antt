use Rattle.std.proofs.Common.{◌≤◌, length, refl, sym, ap, ◌∙◌, subst}
use Rattle.std.specs.Prelude.{slice_get}
use Rattle.std.proofs.lemmas.Option.{slice_get_read}
use Rattle.dj_numbers.specs.Numbers.{view_variables}
use Rattle.dj_code_variables.proofs.Storing.{next-store, all-seen}
use Rattle.dj_code_variables.proofs.stores.add_stores.Goals as goal

pub loop-place-preserved : goal.loop-place-preserved
loop-place-preserved c =
    let typed = c.args.typed.now in
    let old = c.loop-place.invariant in
    let at = c.index-instructions-place.result in
    let list = c.as_slice-instructions.result.now in
    let here = ap (λ found. slice_get found c.loop-place.place) (sym c.as_slice-instructions.ensures) ∙ slice_get_read list (length list) c.loop-place.place at refl c.loop-place-test.true c.index-instructions-place.is in
    let done = c.in_ok-add_store.ensures in
    record {
      chained = done.chained;
      room = done.step.noted.room ∙ old.room;
      stored = next-store typed c.requires.rising c.as_slice-marks.result.now c.in_ok-seen.seen c.as_slice-marks.ensures c.in_ok-seen.ensures.exact c.loop-place.place at here _ c.get.ensures.value
          (view_variables c.args.numbers.now.variables) (view_variables c.loop-place.numbers.variables) (view_variables c.add_store.new.numbers.variables) c.loop-place.after c.add_store.new.after
          old.room done.chained.distinct old.stored done.step;
    }

pub returns-clause-stored : goal.returns-clause-stored
returns-clause-stored c =
    all-seen c.args.typed.now c.loop-place.place (view_variables c.args.numbers.now.variables) (view_variables c.loop-place.numbers.variables) c.loop-place.after
    (subst (λ list. length list ≤ c.loop-place.place) c.as_slice-instructions.ensures c.loop-place-test.false) c.loop-place.invariant.stored
