use Rattle.std.proofs.Common.{sym, ◌∙◌}
use Rattle.dj_pending.proofs.BirthLemmas.{same-births, birth-here, birth-next, birth-nowhere}
use Rattle.dj_pending.proofs.stack.Stack.has_birth.Goals as goal

pub returns-then-is_unborn : goal.returns-then-is_unborn
returns-then-is_unborn c =
    let entries = c.args.self.now.entries.items in
    record {
      birth = sym (same-births entries ∙ sym c.loop-entry.invariant
          ∙ birth-here entries c.deref-entry-items.result.now c.loop-entry.entry-index c.entry-item.result c.deref-entry-items.ensures.value c.loop-entry-test.true c.entry-item.is (sym c.is_unborn.ensures.unborn ∙ c.if-is_unborn.true));
    }

pub loop-entry-preserved : goal.loop-entry-preserved
loop-entry-preserved c =
    let entries = c.args.self.now.entries.items in
    sym (birth-next entries c.deref-entry-items.result.now c.loop-entry.entry-index c.entry-item.result c.deref-entry-items.ensures.value c.loop-entry-test.true c.entry-item.is (sym c.is_unborn.ensures.unborn ∙ c.if-is_unborn.false)) ∙ c.loop-entry.invariant

pub returns : goal.returns
returns c =
    let entries = c.args.self.now.entries.items in
    record { birth = sym (same-births entries ∙ sym c.loop-entry.invariant ∙ birth-nowhere entries c.deref-entry-items.result.now c.loop-entry.entry-index c.deref-entry-items.ensures.value c.loop-entry-test.false) }
