use Rattle.std.proofs.Common.{◌≡◌, ℕ, length, sym, ap, ◌∙◌}
use Rattle.std.proofs.lemmas.Bool.{false≢true}
use Rattle.dj_names.specs.Types.{view_type}
use Rattle.dj_syntax.specs.Trees.{view_exps}
use Rattle.dj_pending.specs.Trees.{view_tree}
use Rattle.dj_pending.specs.Operands.{operands_of}
use Rattle.dj_member_trees.specs.Fitting.{behind_sizes}
use Rattle.dj_member_trees.proofs.GivenLemmas.{some-operands, operand-count}
use Rattle.dj_member_trees.proofs.ArrayLemmas.{sizes-no-rest, sizes-made}
use Rattle.dj_member_trees.proofs.arrays.array_of_sizes.Goals as goal

pub returns-in_default : goal.returns-in_default
returns-in_default c =
    let type = view_type c.args.kind.now in
    let are = operands_of c.args.operands in
    let count : c.len.result ≡ length are = c.len.ensures ∙ sym (operand-count c.args.operands) in
    record {
      array = sizes-no-rest type are (λ none. some-operands c.args.operands (λ nil. false≢true (c.if-is_empty.ensures.1 nil)) (ap length none)) (c.in_default.ensures.behind ∙ ap (λ (n : ℕ). behind_sizes n type) count);
    }

pub returns : goal.returns
returns c =
    let type = view_type c.args.kind.now in
    let are = operands_of c.args.operands in
    let count : c.len.result ≡ length are = c.len.ensures ∙ sym (operand-count c.args.operands) in
    record {
      array = sizes-made type are (λ none. some-operands c.args.operands (λ nil. false≢true (c.if-is_empty.ensures.1 nil)) (ap length none)) (view_type c.in-Some.rest.now) (view_exps c.in-Some-2.sizes.exps) c.in_ok-more.more (view_type c.innermost.result.now)
          (view_tree c.in_ok-tree.tree) (c.in-Some.ensures.behind ∙ ap (λ (n : ℕ). behind_sizes n type) count) (rw c.in-Some-2.is at c.in_ok-sizes.ensures.sizes) c.in_ok-more.ensures.depth c.innermost.ensures.innermost c.in_ok-tree.ensures.tree;
    }
