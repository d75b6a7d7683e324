use Rattle.std.proofs.Common.{sym, ◌∙◌, arith}
use Rattle.std.proofs.lemmas.Bool.{false≢true}
use Rattle.dj_well_formed.proofs.GroupTests.{groups_step}
use Rattle.dj_well_formed.proofs.statements.+statement.Goals as goal

pub are_well_formed_groups-returns-then-not-is_well_formed_group :
    goal.are_well_formed_groups-returns-then-not-is_well_formed_group
are_well_formed_groups-returns-then-not-is_well_formed_group t c =
    let step = groups_step c.args.helper c.args.list.now c.loop-index.index c.index-list-index.result _ (omega arith) c.index-list-index.is c.is_last-last.ensures.last in
    record {
      well_formed = (
        λ yes. absurd (false≢true yes),
        λ all. absurd (false≢true (sym c.if-not-is_well_formed_group.true ∙ c.is_well_formed_group.ensures.well_formed.1 (step.0 (c.loop-index.invariant.1 all)).0)),
      );
    }

pub are_well_formed_groups-loop-index-preserved : goal.are_well_formed_groups-loop-index-preserved
are_well_formed_groups-loop-index-preserved t c =
    let step = groups_step c.args.helper c.args.list.now c.loop-index.index c.index-list-index.result _ (omega arith) c.index-list-index.is c.is_last-last.ensures.last in (
      λ rest. c.loop-index.invariant.0 (step.1 (c.is_well_formed_group.ensures.well_formed.0 c.if-not-is_well_formed_group.false, rest)),
      λ all. (step.0 (c.loop-index.invariant.1 all)).1,
    )
