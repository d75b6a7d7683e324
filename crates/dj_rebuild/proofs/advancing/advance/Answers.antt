use Rattle.std.proofs.Common.{sym, ap, ◌∙◌}
use Rattle.std.specs.Prelude.{option_map}
use Rattle.std.specs.Option.{option_copied}
use Rattle.dj_syntax.specs.Trees.{view_stms}
use Rattle.dj_instructions.specs.Instructions.{view_instruction}
use Rattle.dj_places.specs.Surroundings.{surroundings_of}
use Rattle.dj_pending.specs.Stacks.{stacked}
use Rattle.dj_pending.specs.Building.{view_built}
use Rattle.dj_pending.specs.Steps.{view_target}
use Rattle.dj_rebuild.specs.Slots.{names_of}
use Rattle.dj_rebuild.specs.Stores.{behind_step}
use Rattle.dj_rebuild.specs.Advancing.{advanced_built, writing_step}
use Rattle.dj_rebuild.specs.declared.advancing.Write.{Write}
use Rattle.dj_rebuild.proofs.Linking.{step-of}
use Rattle.dj_rebuild.proofs.advancing.advance.Goals as goal

pub returns-in_ok-done-in-No : goal.returns-in_ok-done-in-No
returns-in_ok-done-in-No c =
    let known = surroundings_of c.args.classes.now in
    let instruction = view_instruction c.args.instruction.now in
    let stack = stacked c.args.built.now.stack in
    record {
      advanced = step-of (view_stms c.args.built.now.emitted) (advanced_built known (names_of c.args.names.now) instruction c.args.built.now.next stack) c.in_ok-done-in-No.done (view_built c.build.new.built) (names_of c.args.names.now) c.in_ok-done-in-No.ensures.built
          ∙ ap (λ (one : Write). behind_step (view_stms c.args.built.now.emitted) (writing_step known (names_of c.args.names.now) (option_map view_target (option_copied c.args.target)) one instruction c.args.built.now.next stack)) (sym c.in-No.is ∙ c.write_of.ensures.write);
    }
