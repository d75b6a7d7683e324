use Rattle.std.proofs.Common.{◌≡◌, ◌-◌, length, drop}
use Rattle.dj_names.specs.Headers.{Name}
use Rattle.dj_syntax.specs.Trees.{view_stms}
use Rattle.dj_places.specs.Surroundings.{surroundings_of}
use Rattle.dj_instructions.specs.Instructions.{view_instructions}
use Rattle.dj_blocks_shown.specs.Leaving.{is_start}
use Rattle.dj_code_variables.specs.Views.{view_vars}
use Rattle.dj_rebuilt.specs.Rebuilding.{Ways, rebuilt}
use Rattle.dj_pending.specs.Stacks.{stacked}
use Rattle.dj_rebuild.specs.Slots.{names_of}
use Rattle.dj_rebuild.specs.Walking.{IsServed, behind_stms}
use Rattle.dj_rebuild.proofs.walking.walk.Given as goal

abbrev pub decreases-steps : goal.decreases-steps
decreases-steps l = length l.instructions - l.at

abbrev pub invariant-steps : goal.invariant-steps
invariant-steps l =
    (class : Name) (ways : Ways) → IsServed (surroundings_of l.classes) (view_vars l.vars) ways
    → behind_stms (view_stms l.built.emitted) (rebuilt l.classes.headers.now class ways (is_start l.starts) (names_of l.names) l.built.next (stacked l.built.stack) (drop l.at (view_instructions l.instructions)))
    ≡ behind_stms (view_stms l.fn.built.emitted) (rebuilt l.classes.headers.now class ways (is_start l.starts) (names_of l.fn.names) l.fn.built.next (stacked l.fn.built.stack) (view_instructions l.instructions))
