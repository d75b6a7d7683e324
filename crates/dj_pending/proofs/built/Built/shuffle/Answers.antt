use Rattle.std.proofs.Common.{Bool, ap, sym, ◌∙◌, map}
use Rattle.dj_syntax.specs.Trees.{view_stms}
use Rattle.dj_pending.specs.Forms.{view_form}
use Rattle.dj_pending.specs.Building.{view_built, as_built}
use Rattle.dj_pending.proofs.StepLemmas.{shuffled-behind, stopped-behind}
use Rattle.dj_pending.proofs.built.Built.shuffle.Goals as goal

pub returns-then-not-spilled : goal.returns-then-not-spilled
returns-then-not-spilled c = record {
  moved = stopped-behind (view_stms c.args.self.now.emitted) _ _ (sym (ap (λ (one : Bool). as_built one (view_built c.spill.new.self)) c.if-not-spilled.true) ∙ c.in_ok-spilled.ensures.spilled);
}

pub returns : goal.returns
returns c = record {
  moved = shuffled-behind (view_stms c.args.self.now.emitted) _ (view_built c.spill.new.self) (map view_form c.args.forms.now) c.in_ok-done.done _
      (sym (ap (λ (one : Bool). as_built one (view_built c.spill.new.self)) c.if-not-spilled.false) ∙ c.in_ok-spilled.ensures.spilled) c.in_ok-done.ensures.moved;
}
