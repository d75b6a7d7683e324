use Rattle.std.proofs.Common.{sym, ◌∙◌}
use Rattle.dj_source.proofs.SwitchLemmas.{labelled_here, labelled_next, labelled_none}
use Rattle.dj_source.proofs.switches.is_labelled.Goals as goal

pub returns-then-has_label : goal.returns-then-has_label
returns-then-has_label c = record {
  labelled = sym (sym c.loop-group.invariant ∙ labelled_here c.args.wanted c.args.groups.now c.loop-group.group-index c.group-item.result c.loop-group-test.true c.group-item.is (sym (rw c.as_slice.ensures at c.has_label.ensures.has) ∙ c.if-has_label.true));
}

pub loop-group-preserved : goal.loop-group-preserved
loop-group-preserved c =
    sym (labelled_next c.args.wanted c.args.groups.now c.loop-group.group-index c.group-item.result c.loop-group-test.true c.group-item.is (sym (rw c.as_slice.ensures at c.has_label.ensures.has) ∙ c.if-has_label.false)) ∙ c.loop-group.invariant

pub returns : goal.returns
returns c = record { labelled = sym (sym c.loop-group.invariant ∙ labelled_none c.args.wanted c.args.groups.now c.loop-group.group-index c.loop-group-test.false) }
