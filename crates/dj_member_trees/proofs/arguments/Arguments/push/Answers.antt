use Rattle.std.proofs.Common.{ap, ◌∙◌}
use Rattle.dj_syntax.specs.Trees.{view_exps}
use Rattle.dj_member_trees.proofs.GivenLemmas.{exps-last, levels-last, quiet-after}
use Rattle.dj_member_trees.proofs.arguments.Arguments.push.Goals as goal

pub invariant_of-self-2 : goal.invariant_of-self-2
invariant_of-self-2 c = record {
  levels_are = levels-last c.args.self.now.exps c.push.new.self c.args.tree.exp c.args.self.now.levels c.args.tree.levels c.max-levels.result c.in_ok-push.ensures.ok c.args.self.now.levels_are c.args.tree.levels_are c.max-levels.ensures;
  quiet = quiet-after c.args.self.now.exps c.push.new.self c.args.tree.exp c.in_ok-push.ensures.ok c.args.self.now.quiet c.args.tree.quiet;
}

pub returns : goal.returns
returns c = record { pushed = ap view_exps c.in_ok-push.ensures.ok ∙ exps-last c.args.self.now.exps c.args.tree.exp }
