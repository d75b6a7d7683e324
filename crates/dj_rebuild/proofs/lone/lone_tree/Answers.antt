use Rattle.std.proofs.Common.{length, sym, ap, ◌∙◌}
use Rattle.std.specs.Prelude.{option_map}
use Rattle.std.proofs.lemmas.List.{length-map}
use Rattle.dj_names.specs.Types.{view_type}
use Rattle.dj_syntax.specs.Trees.{view_stms}
use Rattle.dj_instructions.specs.Instructions.{view_instructions}
use Rattle.dj_code.specs.MethodCode.{view_typed}
use Rattle.dj_places.specs.Surroundings.{surroundings_of}
use Rattle.dj_code_variables.specs.Views.{view_vars}
use Rattle.dj_blocks_shown.specs.Leaving.{Parts}
use Rattle.dj_one_block.specs.OneBlock.{lone_ways}
use Rattle.dj_pending.specs.Building.{view_built}
use Rattle.dj_rebuild.specs.Slots.{names_of}
use Rattle.dj_rebuild.proofs.Closing.{lone-served, lone-way, run-is}
use Rattle.dj_rebuild.proofs.lone.lone_tree.Goals as goal

pub returns : goal.returns
returns c =
    let known = surroundings_of c.args.classes.now in
    let parts : Parts = record { typed = view_typed c.args.typed.now; starts = c.args.starts.now; vars = view_vars c.args.vars.now } in
    record {
      tree = run-is known parts (view_instructions c.as_slice-instructions.result.now) (view_built c.in_ok-built.built) (names_of c.in_ok-names.names) c.in_ok-exit.exit (view_built c.walk.new.built) (names_of c.walk.new.names) (length c.kinds.result.now) (option_map view_stms c.in_ok-found.found)
          (ap view_instructions c.as_slice-instructions.ensures) c.in_ok-built.ensures.nothing (sym (length-map c.kinds.result.now view_type) ∙ ap length c.kinds.ensures.kinds) c.in_ok-names.ensures.first
          (c.in_ok-exit.ensures.walked parts.typed.code.class (lone_ways known parts) (lone-served known parts))
          (c.in_ok-found.ensures.closed (lone_ways known parts) (names_of c.walk.new.names) (lone-way known parts));
    }
