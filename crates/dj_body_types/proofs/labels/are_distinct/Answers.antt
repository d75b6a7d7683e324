use Rattle.std.proofs.Common.{ℤ, ◌||◌, List, Option, ap, ◌∙◌}
use Rattle.dj_meaning.specs.Statements.{has_label}
use Rattle.dj_body_types.specs.Seen.{all_fresh, has}
use Rattle.dj_body_types.proofs.DistinctLemmas.{distinct_begins, distinct_more}
use Rattle.dj_body_types.proofs.labels.are_distinct.Goals as goal

pub loop-group-init : goal.loop-group-init
loop-group-init c = record { distinct = distinct_begins (has c.new-seen.result) c.args.groups.now c.new-seen.ensures.none }

pub loop-group-preserved : goal.loop-group-preserved
loop-group-preserved c = record {
  distinct =
      distinct_more (has c.loop-group.seen) (has c.add_all.new.self) c.args.groups.now c.loop-group.group-index c.group-item.result c.loop-group.distinct c.in_ok-fresh.fresh c.both-distinct.result _ c.loop-group-test.true c.group-item.is
      (c.in_ok-fresh.ensures.fresh ∙ ap (λ (labels : List (Option ℤ)). all_fresh (has c.loop-group.seen) labels) c.as_slice.ensures)
      (λ other. c.in_ok-fresh.ensures.added other ∙ ap (λ (labels : List (Option ℤ)). has_label other labels || has c.loop-group.seen other) c.as_slice.ensures)
      c.both-distinct.ensures.both c.loop-group.invariant.distinct;
}
