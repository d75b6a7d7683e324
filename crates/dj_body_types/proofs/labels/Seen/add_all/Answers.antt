use Rattle.dj_body_types.specs.Seen.{has}
use Rattle.dj_body_types.proofs.SeenLemmas.{fresh_more, seen_more, item_is}
use Rattle.dj_body_types.proofs.labels.Seen.add_all.Goals as goal

pub loop-label-preserved : goal.loop-label-preserved
loop-label-preserved c = record {
  fresh =
      fresh_more (has c.loop-label.self) (has c.add.new.self) c.args.labels.now c.loop-label.label-index _ c.loop-label.fresh c.in_ok-first.first c.both-fresh.result _ c.loop-label-test.true (item_is c.args.labels.now c.loop-label.label-index _ c.loop-label-test.true)
      c.in_ok-first.ensures.fresh c.in_ok-first.ensures.added c.both-fresh.ensures.both c.loop-label.invariant.fresh;
  added = λ other. seen_more (has c.loop-label.self) (has c.add.new.self) c.args.labels.now c.loop-label.label-index _ other _ c.loop-label-test.true (item_is c.args.labels.now c.loop-label.label-index _ c.loop-label-test.true) (c.in_ok-first.ensures.added other) (c.loop-label.invariant.added other);
}
