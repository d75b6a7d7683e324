use Rattle.std.proofs.Common.{Bool, ap, sym, ◌∙◌}
use Rattle.dj_syntax.specs.Trees.{view_stms}
use Rattle.dj_pending.specs.Building.{view_built, as_built}
use Rattle.dj_pending.proofs.Spills.{emitted-behind}
use Rattle.dj_pending.proofs.built.Built.emit.Goals as goal

pub returns-in_ok-add : goal.returns-in_ok-add
returns-in_ok-add c = record {
  emitted = ap (λ (one : Bool). as_built one (view_built c.add.new.self)) c.if-spilled.true
      ∙ emitted-behind (view_stms c.args.self.now.emitted) _ _ _ _ (sym (ap (λ (one : Bool). as_built one (view_built c.spill.new.self)) c.if-spilled.true) ∙ c.in_ok-spilled.ensures.spilled) c.in_ok-add.ensures.added;
}
