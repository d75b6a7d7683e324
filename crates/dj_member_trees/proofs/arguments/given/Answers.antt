use Rattle.std.proofs.Common.{arith, refl}
use Rattle.std.proofs.lemmas.Bool.{false≢true}
use Rattle.dj_syntax.specs.Trees.{view_exps}
use Rattle.dj_pending.specs.Trees.{view_tree}
use Rattle.dj_member_trees.proofs.GivenLemmas.{given-next, given-stops, given-done, given-many}
use Rattle.dj_member_trees.proofs.arguments.given.Goals as goal

pub returns-in_default-2 : goal.returns-in_default-2
returns-in_default-2 c = record {
  given = given-stops c.args.headers.now c.args.alone c.args.parameters.now c.parameters.kind-index c.parameters.left (view_exps c.parameters.arguments.exps) _ c.parameters.invariant c.kind-item.result c.parameters-test.true c.kind-item.is
      c.pop.new.self c.in-Some.operand c.in-Some.ensures (rw c.in_default-2.is at c.in_ok-tree.ensures.argument);
}

pub parameters-preserved : goal.parameters-preserved
parameters-preserved c =
    given-next c.args.headers.now c.args.alone c.args.parameters.now c.parameters.kind-index c.parameters.left (view_exps c.parameters.arguments.exps) _ c.parameters.invariant c.kind-item.result c.parameters-test.true c.kind-item.is
    c.pop.new.self c.in-Some.operand c.in-Some.ensures (view_tree c.in-Some-2.tree) (rw c.in-Some-2.is at c.in_ok-tree.ensures.argument) (view_exps c.push.new.self.exps) c.in_ok-push.ensures.pushed

pub returns-then-is_empty : goal.returns-then-is_empty
returns-then-is_empty c = record {
  given = given-done c.args.headers.now c.args.alone c.args.parameters.now c.parameters.kind-index c.parameters.left (view_exps c.parameters.arguments.exps) _ c.parameters.invariant (omega arith) (c.if-is_empty.ensures.0 refl);
}

pub returns : goal.returns
returns c = record {
  given = given-many c.args.headers.now c.args.alone c.args.parameters.now c.parameters.kind-index c.parameters.left (view_exps c.parameters.arguments.exps) _ c.parameters.invariant (omega arith) (λ none. false≢true (c.if-is_empty.ensures.1 none));
}
