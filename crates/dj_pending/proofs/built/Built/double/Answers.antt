use Rattle.std.proofs.Common.{ap, sym, ◌∙◌, ◌∷◌, Some}
use Rattle.dj_syntax.specs.Trees.{view_stms}
use Rattle.dj_rebuilding.specs.Pending.{Again}
use Rattle.dj_pending.specs.Stacks.{stacked}
use Rattle.dj_pending.specs.Spilling.{behind}
use Rattle.dj_pending.proofs.StepLemmas.{grown-behind, doubled-born, doubled-other}
use Rattle.dj_pending.proofs.built.Built.double.Goals as goal

pub returns-then-is_born : goal.returns-then-is_born
returns-then-is_born c =
    let stack = stacked c.args.self.now.stack in
    record {
      doubled = ap Some c.in_ok-push.ensures.pushed ∙ grown-behind (view_stms c.args.self.now.emitted) c.args.self.now.next (Again ∷ stack)
          ∙ ap (behind (view_stms c.args.self.now.emitted)) (doubled-born c.args.self.now.next stack (sym c.is_born.ensures.born ∙ c.if-is_born.true));
    }

pub returns : goal.returns
returns c =
    record {
      doubled = c.in_ok-done.ensures.moved
          ∙ ap (behind (view_stms c.args.self.now.emitted)) (doubled-other c.args.self.now.next (stacked c.args.self.now.stack) (sym c.is_born.ensures.born ∙ c.if-is_born.false));
    }
