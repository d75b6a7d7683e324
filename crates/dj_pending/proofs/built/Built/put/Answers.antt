use Rattle.std.proofs.Common.{[], ◌∷◌, ap, ◌∙◌}
use Rattle.dj_syntax.specs.Trees.{Stm, view_exp, view_stms}
use Rattle.dj_rebuilding.specs.Pending.{emit}
use Rattle.dj_pending.specs.Assigned.{is_among}
use Rattle.dj_pending.specs.Stacks.{stacked}
use Rattle.dj_pending.specs.Spilling.{behind}
use Rattle.dj_pending.proofs.Lists.{view_set}
use Rattle.dj_pending.proofs.StepLemmas.{set-one}
use Rattle.dj_pending.proofs.built.Built.put.Goals as goal

pub returns : goal.returns
returns c = record {
  put = c.in_ok-done.ensures.emitted
      ∙ ap (λ (one : Stm). behind (view_stms c.args.self.now.emitted) (emit (is_among (c.args.variable ∷ [])) c.args.self.now.next (stacked c.args.self.now.stack) one)) (view_set c.args.variable c.args.new.exp)
      ∙ ap (behind (view_stms c.args.self.now.emitted)) (set-one c.args.variable (view_exp c.args.new.exp) c.args.self.now.next (stacked c.args.self.now.stack) c.args.new.quiet);
}
