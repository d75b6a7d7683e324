use Rattle.std.proofs.Common.{Bool, ap, sym, ◌∙◌}
use Rattle.dj_syntax.specs.Trees.{view_stms}
use Rattle.dj_pending.specs.Assigned.{is_among}
use Rattle.dj_pending.specs.Stacks.{stacked}
use Rattle.dj_pending.specs.Building.{view_built, as_built}
use Rattle.dj_pending.proofs.Spills.{begun, one-settled, none-settled}
use Rattle.dj_pending.proofs.built.Built.spill.Goals as goal

pub loop-entry-init : goal.loop-entry-init
loop-entry-init c =
    begun (is_among c.args.assigned.now) c.in_ok-left.left _ _ _ (view_stms c.args.self.now.emitted) c.args.self.now.next c.in_ok-left.ensures.turned
    (ap stacked c.replace-stack.ensures.value) (ap stacked c.replace-stack.ensures.after ∙ c.new.ensures.empty)

pub returns-then-not-done : goal.returns-then-not-done
returns-then-not-done c = record {
  spilled = none-settled (is_among c.args.assigned.now) _ _ _ _ _ _ c.in-Some.ensures c.in_ok-done.ensures.settled (ap (λ (one : Bool). as_built one (view_built c.settle.new.self)) c.if-not-done.true) c.loop-entry.invariant;
}

pub loop-entry-preserved : goal.loop-entry-preserved
loop-entry-preserved c =
    one-settled (is_among c.args.assigned.now) _ _ _ _ _ _ c.in-Some.ensures
    (sym (ap (λ (one : Bool). as_built one (view_built c.settle.new.self)) c.if-not-done.false) ∙ c.in_ok-done.ensures.settled) c.loop-entry.invariant
