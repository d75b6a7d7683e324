-- An edge is made of moves.
use Rattle.std.specs.Prelude.{◌≡◌, ℕ, suc, length, Bool, false, ◌||◌, List, [], ◌∷◌, ◌++◌, Option, Some, None}
use Rattle.dj_names.specs.Types.{JType}
use Rattle.dj_syntax.specs.declared.variable.Var.{Var}
use Rattle.dj_syntax.specs.declared.variable.VarKind.{VarKind}
use Rattle.dj_syntax.specs.declared.variable.VarKind.TheVariants as kind
use Rattle.dj_meaning.specs.StaticTypes.{is_same_variable}
use Rattle.dj_rebuilding.specs.Pending.{Atom, Named, and_then}
use Rattle.dj_vars.specs.Agreeing.{local_variable}
use Rattle.dj_blocks_shown.specs.Copies.{Copy}
use Rattle.dj_blocks_shown.specs.Leaving.{Parts}
use Rattle.dj_edges.specs.Edges.{Source, Dress, keeps_this, wanted, puts_any, copy_from, copies}
use Rattle.dj_moves.specs.declared.going.Held.{Held}
use Rattle.dj_moves.specs.declared.going.Held.TheVariants.{Unknown, Local, Else}
use Rattle.dj_moves.specs.declared.going.Move.{Move}
use Rattle.dj_moves.specs.Moves.{wanted_by, moves_of}

-- ---- what slots are

abbrev pub held_variable : VarKind → ℕ → Held
held_variable kind.Local number = Local number
held_variable other number = Else

abbrev pub held_atom : Atom → Held
held_atom (Named variable) = held_variable variable.kind variable.number
held_atom other = Else

-- what a slot is, by its source
abbrev pub held_of : Option Source → Held
held_of None = Unknown
held_of (Some source) = held_atom source.1

-- so are slots, from one on
abbrev pub AreHeld : (ℕ → Option Source) → List Held → ℕ → Type 0
AreHeld sources [] slot = Unit {0}
AreHeld sources (first ∷ rest) slot = (first ≡ held_of (sources slot)) × AreHeld sources rest (suc slot)

-- ---- the laws

-- a variable is one of those of moves
abbrev pub puts_moves : List Move → Var → Bool
puts_moves [] variable = false
puts_moves (first ∷ rest) variable = is_same_variable variable (local_variable first.variable) || puts_moves rest variable

-- the copies of moves
abbrev pub copies_of : Dress → List JType → (ℕ → Option Source) → List Move → Option (List Copy)
copies_of dress kinds sources [] = Some []
copies_of dress kinds sources (first ∷ rest) =
    and_then (copy_from dress kinds first.variable (sources first.slot)) (λ one. and_then (copies_of dress kinds sources rest) (λ more. Some (one ++ more)))

-- what an edge wants is what is wanted by moves
abbrev pub WantedAreThose : Type 0
WantedAreThose = (parts : Parts) (number slot : ℕ) → wanted parts number slot ≡ wanted_by (keeps_this parts.typed.code) parts.vars number slot

-- what is put are the variables of moves
abbrev pub PutsAreMoves : Type 0
PutsAreMoves =
    (want : ℕ → Option ℕ) (sources : ℕ → Option Source) (slots : List Held) (slot : ℕ) → AreHeld sources slots slot → (variable : Var)
    → puts_any want sources slot (length slots) variable ≡ puts_moves (moves_of want slots slot) variable

-- and the copies are those of moves
abbrev pub CopiesAreMoves : Type 0
CopiesAreMoves =
    (dress : Dress) (kinds : List JType) (want : ℕ → Option ℕ) (sources : ℕ → Option Source) (slots : List Held) (slot : ℕ) → AreHeld sources slots slot
    → copies dress kinds want sources slot (length slots) ≡ copies_of dress kinds sources (moves_of want slots slot)
