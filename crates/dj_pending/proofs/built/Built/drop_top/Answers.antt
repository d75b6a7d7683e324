use Rattle.std.proofs.Common.{sym, ap, ◌∙◌}
use Rattle.dj_syntax.specs.Trees.{view_stms}
use Rattle.dj_pending.specs.Stacks.{stacked}
use Rattle.dj_pending.specs.Spilling.{behind}
use Rattle.dj_pending.proofs.DropLemmas.{quiet-stack, dropped-run, dropped-words}
use Rattle.dj_pending.proofs.built.Built.drop_top.Goals as goal

pub returns-then-has_call : goal.returns-then-has_call
returns-then-has_call c = record {
  dropped = c.in_ok-done.ensures.run
      ∙ ap (behind (view_stms c.args.self.now.emitted))
      (dropped-run c.args.two c.args.self.now.next (stacked c.args.self.now.stack) c.word_count.result c.word_count.ensures.words (quiet-stack c.args.self.now.stack.entries.items) (sym c.has_call.ensures.call ∙ c.if-has_call.true));
}

pub returns : goal.returns
returns c = record {
  dropped = c.in_ok-done-2.ensures.dropped
      ∙ ap (behind (view_stms c.args.self.now.emitted))
      (dropped-words c.args.two c.args.self.now.next (stacked c.args.self.now.stack) c.word_count.result c.word_count.ensures.words (sym c.has_call.ensures.call ∙ c.if-has_call.false));
}
