use Rattle.std.proofs.Common.{sym, ◌∙◌}
use Rattle.dj_syntax.specs.Trees.{view_stms}
use Rattle.dj_names.specs.Types.{view_type}
use Rattle.dj_rebuilt.specs.Nodes.{cut_node, long_convert_nodes}
use Rattle.dj_pending.specs.Stacks.{stacked}
use Rattle.dj_pending.proofs.NumberLemmas.{long-converts, long-stays, converted, unconverted}
use Rattle.dj_pending.proofs.built.Built.convert_longs.Goals as goal

pub returns-then-not-takes_ints : goal.returns-then-not-takes_ints
returns-then-not-takes_ints c = record {
  built = unconverted (view_stms c.args.self.now.emitted) c.args.self.now.next (stacked c.args.self.now.stack) (long_convert_nodes (view_type c.args.to.now)) (long-stays (view_type c.args.to.now) (sym c.takes_ints.ensures.takes ∙ c.if-not-takes_ints.true));
}

pub returns : goal.returns
returns c = record {
  built = c.in_ok-done.ensures.built
      ∙ converted (view_stms c.args.self.now.emitted) c.args.self.now.next (stacked c.args.self.now.stack) cut_node (long_convert_nodes (view_type c.args.to.now)) (long-converts (view_type c.args.to.now) (sym c.takes_ints.ensures.takes ∙ c.if-not-takes_ints.false));
}
