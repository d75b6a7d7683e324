use Rattle.std.proofs.Common.{sym, ap, ◌∙◌}
use Rattle.dj_syntax.specs.Trees.{view_stms}
use Rattle.dj_names.specs.declared.types.JType as code_type
use Rattle.dj_names.specs.Types.{view_type}
use Rattle.dj_rebuilt.specs.Nodes.{convert_node, int_convert_nodes}
use Rattle.dj_pending.specs.Stacks.{stacked}
use Rattle.dj_pending.proofs.NumberLemmas.{int-converts, int-stays, converted, unconverted}
use Rattle.dj_pending.proofs.built.Built.convert_ints.Goals as goal

pub returns-then-not-converts_int : goal.returns-then-not-converts_int
returns-then-not-converts_int c = record {
  built = unconverted (view_stms c.args.self.now.emitted) c.args.self.now.next (stacked c.args.self.now.stack) (int_convert_nodes (view_type c.args.to.now)) (int-stays (view_type c.args.to.now) (sym c.converts_int.ensures.converts ∙ c.if-not-converts_int.true));
}

pub returns : goal.returns
returns c = record {
  built = c.in_ok-done.ensures.built
      ∙ converted (view_stms c.args.self.now.emitted) c.args.self.now.next (stacked c.args.self.now.stack) (convert_node (view_type c.in_ok-kind.kind)) (int_convert_nodes (view_type c.args.to.now)) (ap (λ (one : code_type.JType). convert_node (view_type one)) c.in_ok-kind.ensures.equal ∙ int-converts (view_type c.args.to.now) (sym c.converts_int.ensures.converts ∙ c.if-not-converts_int.false));
}
