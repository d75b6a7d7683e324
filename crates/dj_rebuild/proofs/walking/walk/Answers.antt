use Rattle.std.proofs.Common.{Bool, sym, ap, ◌∙◌, drop}
use Rattle.dj_syntax.specs.Trees.{view_stms}
use Rattle.dj_instructions.specs.Instructions.{view_instructions}
use Rattle.dj_places.specs.Surroundings.{surroundings_of}
use Rattle.dj_blocks_shown.specs.Leaving.{is_start}
use Rattle.dj_code_variables.specs.Views.{view_vars}
use Rattle.dj_pending.specs.Stacks.{stacked}
use Rattle.dj_pending.specs.Building.{view_built}
use Rattle.dj_rebuild.specs.Slots.{names_of}
use Rattle.dj_rebuild.specs.Stores.{as_step}
use Rattle.dj_rebuild.proofs.Items.{item-there}
use Rattle.dj_rebuild.proofs.Walked.{leaves-here, stops-here, falls-here, goes-here}
use Rattle.dj_rebuild.proofs.walking.walk.Goals as goal

pub returns-then-not-continues : goal.returns-then-not-continues
returns-then-not-continues c = record {
  walked = λ class ways served.
      leaves-here c.args.classes.now.headers.now class (surroundings_of c.args.classes.now) (view_vars c.args.vars.now) ways served (is_start c.args.starts.now) (names_of c.steps.names) c.steps.built.next (stacked c.steps.built.stack)
      (drop c.steps.at (view_instructions c.args.instructions.now)) _ _ _ (view_stms c.steps.built.emitted) _ (item-there c.args.instructions.now c.steps.at c.index-instructions-at.result c.index-instructions-at.is c.steps-test.true)
      (sym c.if-not-continues.true ∙ c.continues.ensures.continues c.args.classes.now.headers.now class) (c.steps.invariant class ways served);
}

pub returns-then-not-done : goal.returns-then-not-done
returns-then-not-done c = record {
  walked = λ class ways served.
      stops-here c.args.classes.now.headers.now class (surroundings_of c.args.classes.now) (view_vars c.args.vars.now) ways served (is_start c.args.starts.now) (names_of c.steps.names) c.steps.built.next (stacked c.steps.built.stack)
      (drop c.steps.at (view_instructions c.args.instructions.now)) _ _ _ (view_stms c.steps.built.emitted) _ (item-there c.args.instructions.now c.steps.at c.index-instructions-at.result c.index-instructions-at.is c.steps-test.true)
      (sym c.if-not-continues.false ∙ c.continues.ensures.continues c.args.classes.now.headers.now class)
      (sym (ap (λ (done : Bool). as_step done (view_built c.advance_at.new.built) (names_of c.advance_at.new.names)) c.if-not-done.true) ∙ c.in_ok-done.ensures.advanced)
      (c.steps.invariant class ways served);
}

pub returns-then-is_start : goal.returns-then-is_start
returns-then-is_start c = record {
  walked = λ class ways served.
      falls-here c.args.classes.now.headers.now class (surroundings_of c.args.classes.now) (view_vars c.args.vars.now) ways served (is_start c.args.starts.now) (names_of c.steps.names) c.steps.built.next (stacked c.steps.built.stack)
      (drop c.steps.at (view_instructions c.args.instructions.now)) _ _ _ (view_stms c.steps.built.emitted) _ (view_built c.advance_at.new.built) (names_of c.advance_at.new.names)
      (item-there c.args.instructions.now c.steps.at c.index-instructions-at.result c.index-instructions-at.is c.steps-test.true)
      (sym c.if-not-continues.false ∙ c.continues.ensures.continues c.args.classes.now.headers.now class)
      (sym (ap (λ (done : Bool). as_step done (view_built c.advance_at.new.built) (names_of c.advance_at.new.names)) c.if-not-done.false) ∙ c.in_ok-done.ensures.advanced)
      (sym (ap (is_start c.args.starts.now) c.pc_at.ensures.pc) ∙ sym c.is_start.ensures.start ∙ c.if-is_start.true)
      (c.steps.invariant class ways served);
}

pub steps-preserved : goal.steps-preserved
steps-preserved c = λ class ways served.
    goes-here c.args.classes.now.headers.now class (surroundings_of c.args.classes.now) (view_vars c.args.vars.now) ways served (is_start c.args.starts.now) (names_of c.steps.names) c.steps.built.next (stacked c.steps.built.stack)
    (drop c.steps.at (view_instructions c.args.instructions.now)) _ _ _ (view_stms c.steps.built.emitted) _ (view_built c.advance_at.new.built) (names_of c.advance_at.new.names)
    (item-there c.args.instructions.now c.steps.at c.index-instructions-at.result c.index-instructions-at.is c.steps-test.true)
    (sym c.if-not-continues.false ∙ c.continues.ensures.continues c.args.classes.now.headers.now class)
    (sym (ap (λ (done : Bool). as_step done (view_built c.advance_at.new.built) (names_of c.advance_at.new.names)) c.if-not-done.false) ∙ c.in_ok-done.ensures.advanced)
    (sym (ap (is_start c.args.starts.now) c.pc_at.ensures.pc) ∙ sym c.is_start.ensures.start ∙ c.if-is_start.false)
    (c.steps.invariant class ways served)
