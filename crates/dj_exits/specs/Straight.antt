-- The laws, in full.
use Rattle.std.specs.Prelude.{◌≡◌, ℕ, Bool, List, [], ◌∷◌, Some}
use Rattle.dj_names.specs.declared.header.Header.{Header}
use Rattle.dj_names.specs.Headers.{Name}
use Rattle.dj_names.specs.Types as types
use Rattle.dj_syntax.specs.declared.variable.Var.{Var}
use Rattle.dj_syntax.specs.Trees.{Return, And, Empty}
use Rattle.dj_instructions.specs.declared.kinds.Kind.TheVariants as kind
use Rattle.dj_instructions.specs.Instructions.{Instructions}
use Rattle.dj_instructions.specs.Instructions as op
use Rattle.dj_straight.specs.Straight.{Formula}
use Rattle.dj_names.specs.Types.{Of}
use Rattle.std.specs.Prelude.{true}
use Rattle.dj_rebuilding.specs.Pending.{Pending}
use Rattle.dj_rebuilt.specs.Rebuilding.{Names, Ways, rebuilt}
use Rattle.dj_exits.specs.Exits.{Edges, leave}
use Rattle.dj_exits.specs.Formulas.{exp_by, pending_of, Spells, IsShallow, AreNamedBy, AreStraight}

-- instructions that spell a formula leave it pending
abbrev pub FormulasPend : Type 0
FormulasPend =
    (headers : List Header) (class : Name) (ways : Ways) (starts : ℕ → Bool) (variable : ℕ → Var) (names : Names) (n : ℕ) → AreStraight ways
    → (formula : Formula) (instructions rest : Instructions) → Spells starts formula instructions rest → IsShallow variable formula → AreNamedBy variable names formula
    → (stack : List Pending) → rebuilt headers class ways starts names n stack instructions ≡ rebuilt headers class ways starts names n (pending_of variable formula ∷ stack) rest

-- a straight method's statements are one return of its formula
abbrev pub StraightReturns : Type 0
StraightReturns =
    (headers : List Header) (class : Name) (ways : Ways) (starts : ℕ → Bool) (variable : ℕ → Var) (names : Names) (n : ℕ) → AreStraight ways
    → (world : List Header) (edges : Edges) → ways.leave ≡ leave world (Some types.Int) edges → edges.fits (Of types.Int) types.Int ≡ true
    → (formula : Formula) (instructions rest : Instructions) (pc : ℕ) → Spells starts formula instructions ((pc, op.Return (Some kind.Int)) ∷ rest) → IsShallow variable formula → AreNamedBy variable names formula
    → rebuilt headers class ways starts names n [] instructions ≡ Some (And (Return (Some (exp_by variable formula))) Empty)
