-- What instructions build that take operands.
use Rattle.std.specs.Prelude.{ℕ, List, [], ◌∷◌, Option, Some, None}
use Rattle.dj_names.specs.Types.{StaticType}
use Rattle.dj_rebuilding.specs.Pending.{Atom, Pending, Kept, Whole, Built, Typed, and_then, grown}
use Rattle.dj_pending.specs.Operands.{taken_from}

-- a constant
abbrev pub constant_built : ℕ → List Pending → Option (StaticType × Atom) → Option Built
constant_built n stack None = None
constant_built n stack (Some constant) = grown n (Kept constant.0 constant.1 ∷ stack)

-- a constant as an entry
abbrev pub kept_constant : Option (StaticType × Atom) → Option Pending
kept_constant None = None
kept_constant (Some constant) = Some (Kept constant.0 constant.1)

-- an expression
abbrev pub put_built : ℕ → List Pending → Option Typed → Option Built
put_built n stack None = None
put_built n stack (Some found) = grown n (Whole found.0 found.1 ∷ stack)

-- an expression in the place of so many operands
abbrev pub node_built : ℕ → (List Typed → Option Typed) → ℕ → List Pending → Option Built
node_built count node n stack = and_then (taken_from count [] stack) (λ found. put_built n found.1 (node found.0))
