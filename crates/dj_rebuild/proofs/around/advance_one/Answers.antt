use Rattle.std.proofs.Common.{Bool, sym, ap, ◌∙◌}
use Rattle.std.specs.Prelude.{option_map}
use Rattle.std.specs.Option.{option_copied}
use Rattle.dj_syntax.specs.Trees.{view_stms}
use Rattle.dj_instructions.specs.Instructions.{view_instruction}
use Rattle.dj_places.specs.Surroundings.{surroundings_of}
use Rattle.dj_pending.specs.Stacks.{stacked}
use Rattle.dj_pending.specs.Steps.{view_target}
use Rattle.dj_pending.specs.Building.{view_built, as_built}
use Rattle.dj_rebuild.specs.Slots.{names_of}
use Rattle.dj_rebuild.specs.Stores.{as_step}
use Rattle.dj_rebuild.proofs.Spilled.{one-stops, one-done}
use Rattle.dj_rebuild.proofs.around.advance_one.Goals as goal

pub returns-then-not-done : goal.returns-then-not-done
returns-then-not-done c = record {
  advanced = one-stops (surroundings_of c.args.classes.now) (names_of c.args.names.now) (option_map view_target (option_copied c.args.target)) (view_instruction c.args.instruction.now) c.args.built.now.next (stacked c.args.built.now.stack) (view_stms c.args.built.now.emitted)
      c.before-wanted.result c.before-wanted.ensures.before (view_built c.spill_if.new.built)
      (sym (ap (λ (done : Bool). as_built done (view_built c.spill_if.new.built)) c.if-not-before.false) ∙ c.in_ok-before.ensures.spilled)
      (sym (ap (λ (done : Bool). as_step done (view_built c.advance.new.built) (names_of c.advance.new.names)) c.if-not-done.true) ∙ c.in_ok-done.ensures.advanced);
}

pub returns : goal.returns
returns c = record {
  advanced = one-done (surroundings_of c.args.classes.now) (names_of c.args.names.now) (option_map view_target (option_copied c.args.target)) (view_instruction c.args.instruction.now) c.args.built.now.next (stacked c.args.built.now.stack) (view_stms c.args.built.now.emitted)
      c.before-wanted.result c.before-wanted.ensures.before (view_built c.spill_if.new.built) (view_built c.advance.new.built) (view_built c.spill_if-2.new.built) (names_of c.advance.new.names) c.after-wanted.result c.in_ok-behind.behind
      (sym (ap (λ (done : Bool). as_built done (view_built c.spill_if.new.built)) c.if-not-before.false) ∙ c.in_ok-before.ensures.spilled)
      (sym (ap (λ (done : Bool). as_step done (view_built c.advance.new.built) (names_of c.advance.new.names)) c.if-not-done.false) ∙ c.in_ok-done.ensures.advanced)
      c.after-wanted.ensures.after c.in_ok-behind.ensures.spilled;
}
