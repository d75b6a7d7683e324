-- What rebuilding rests on in a world, and how a run over a block's instructions ends.
use Rattle.std.specs.Prelude.{◌≡◌, ℕ, List, [], ◌∷◌, drop, Option, Some, None}
use Rattle.dj_syntax.specs.Trees.{Stms}
use Rattle.dj_instructions.specs.Instructions.{Instruction, Instructions}
use Rattle.dj_meaning.specs.Declarations.{joined}
use Rattle.dj_places.specs.Constants.{Surroundings}
use Rattle.dj_vars.specs.Naming.{Vars}
use Rattle.dj_rebuilding.specs.Pending.{Pending, Built}
use Rattle.dj_rebuilt.specs.Rebuilding.{Names, Ways}
use Rattle.dj_member_nodes.specs.Together.{AreMemberWays}
use Rattle.dj_exits.specs.Ways.{before, after}
use Rattle.dj_one_block.specs.OneBlock.{variable_of}
use Rattle.dj_rebuild.specs.declared.walking.Exit.{Exit}
use Rattle.dj_rebuild.specs.declared.walking.Exit.TheVariants as exits

-- what stands for instructions is what is written for them in a world, variables are these, and all that is pending is spilled around instructions as it is for any method
pub record IsServed (known : Surroundings) (vars : Vars) (ways : Ways) : Type 0 where
  pub members : AreMemberWays known ways
  pub target : (pc : ℕ) → ways.target pc ≡ variable_of vars.kinds (vars.after pc)
  pub before : (instruction : Instruction) (stack : List Pending) → ways.before instruction stack ≡ before instruction stack
  pub after : (stack : List Pending) → ways.after stack ≡ after stack

-- statements, behind others
abbrev pub behind_stms : Stms → Option Stms → Option Stms
behind_stms first None = None
behind_stms first (Some statements) = Some (joined first statements)

-- the statements of a run over instructions: those that were emitted, and those by which control leaves the block, by its last instruction or into a block behind it
abbrev pub exit_built : Ways → Instructions → Exit → Built → Names → Option Stms
exit_built ways all exits.No built names = None
exit_built ways all (exits.Leaves at) built names = behind_stms built.emitted (ways.leave names built.next built.stack (drop at all))
exit_built ways all (exits.Falls at) built names = behind_stms built.emitted (ways.fall names built.next built.stack (drop at all))

-- the first of some instructions
abbrev pub first_of : Instructions → Option Instruction
first_of [] = None
first_of (first ∷ rest) = Some first.1
