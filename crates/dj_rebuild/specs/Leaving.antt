-- What instructions build by which control leaves a method of one block.
use Rattle.std.specs.Prelude.{◌≡◌, ℕ, true, List, Option, Some, None}
use Rattle.dj_names.specs.declared.header.Header.{Header}
use Rattle.dj_names.specs.Types.{JType}
use Rattle.dj_syntax.specs.Trees.{Return, Throw}
use Rattle.dj_instructions.specs.Instructions.{Instruction, Instructions}
use Rattle.dj_instructions.specs.Instructions as op
use Rattle.dj_rebuilding.specs.Pending.{Pending, Built, assigns, none, and_then, emit}
use Rattle.dj_rebuilt.specs.Rebuilding.{Names, Ways}
use Rattle.dj_exits.specs.Exits.{throwable, leave, fall}
use Rattle.dj_lone_exits.specs.Lone.{lone_edges}
use Rattle.dj_member_trees.specs.Fitting.{fitted, taken_by}

-- a value is returned
abbrev pub returned_built : List Header → ℕ → List Pending → Option JType → Option Built
returned_built world n stack None = None
returned_built world n stack (Some type) = and_then (taken_by (fitted world true type) stack) (λ found. emit (assigns found.0) n found.1 (Return (Some found.0)))

-- an exception is thrown
abbrev pub thrown_built : List Header → ℕ → List Pending → Option Built
thrown_built world n stack = and_then (taken_by (fitted world true throwable) stack) (λ found. emit (assigns found.0) n found.1 (Throw found.0))

-- by an instruction
abbrev pub left_built : List Header → Option JType → ℕ → List Pending → Instruction → Option Built
left_built world result n stack (op.Return None) = emit none n stack (Return None)
left_built world result n stack (op.Return (Some kind)) = returned_built world n stack result
left_built world result n stack op.Throw = thrown_built world n stack
left_built world result n stack other = None

-- control leaves a block as it leaves a method that is one block
pub record IsLoneWay (world : List Header) (result : Option JType) (ways : Ways) : Type 0 where
  pub leave : (names : Names) (n : ℕ) (stack : List Pending) (list : Instructions) → ways.leave names n stack list ≡ leave world result (lone_edges world) names n stack list
  pub fall : (names : Names) (n : ℕ) (stack : List Pending) (list : Instructions) → ways.fall names n stack list ≡ fall (lone_edges world) names n stack list
