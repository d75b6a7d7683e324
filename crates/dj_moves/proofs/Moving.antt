-- What an edge puts are its moves.
use Rattle.std.proofs.Common.{◌≡◌, ℕ, suc, ◌+◌, ◌<◌, Bool, true, false, List, [], ◌∷◌, ◌++◌, length, Option, Some, None, refl, sym, ap, ◌∙◌, append_assoc, drop, get_or, arith}
use Rattle.std.proofs.lemmas.List.{append-nil}
use Rattle.std.proofs.Math.Seq.{drop-cons}
use Rattle.std.specs.Prelude.{not, ◌&&◌, ◌||◌, if◌then◌else◌, slice_get}
use Rattle.dj_syntax.specs.declared.variable.VarKind.{VarKind}
use Rattle.dj_syntax.specs.declared.variable.VarKind.TheVariants as kind
use Rattle.dj_meaning.specs.StaticTypes.{is_same_variable}
use Rattle.dj_rebuilding.specs.Pending.{Atom, Named, and_then}
use Rattle.dj_vars.specs.Agreeing.{local_variable}
use Rattle.dj_blocks_shown.specs.Copies.{Copy}
use Rattle.dj_edges.specs.Edges.{Source, is_own_atom, is_own, puts_one, puts_any, copy_into, copy_from, copy_slot, copies}
use Rattle.dj_moves.specs.declared.going.Held.{Held}
use Rattle.dj_moves.specs.declared.going.Move.{Move}
use Rattle.dj_moves.specs.Moves.{is_held, with_move, moves_of}
use Rattle.dj_moves.specs.Laws.{held_variable, held_atom, held_of, puts_moves, copies_of, WantedAreThose, PutsAreMoves, CopiesAreMoves}

pub wanted_are_those : WantedAreThose
wanted_are_those parts number slot = refl

-- ---- what slots are

variable-held : (variable : ℕ) (of : VarKind) (number : ℕ) → is_held variable (held_variable of number) ≡ is_same_variable (record { kind = of; number = number }) (local_variable variable)
variable-held variable kind.Local number = refl
variable-held variable other number = refl

atom-held : (variable : ℕ) (atom : Atom) → is_held variable (held_atom atom) ≡ is_own_atom variable atom
atom-held variable (Named own) = variable-held variable own.kind own.number
atom-held variable other = refl

slot-held : (variable : ℕ) (source : Option Source) → is_held variable (held_of source) ≡ is_own variable source
slot-held variable None = refl
slot-held variable (Some source) = atom-held variable source.1

-- ---- slot by slot

pub puts_are_moves : PutsAreMoves
puts_are_moves want sources [] slot are variable = refl
puts_are_moves want sources (first ∷ rest) slot are variable = by (puts_are_moves want sources rest (suc slot) are.1 variable) (want slot)
  where
    chosen : (puts_any want sources (suc slot) (length rest) variable ≡ puts_moves (moves_of want rest (suc slot)) variable) → (own : ℕ) (test : Bool)
        → ((not test && is_same_variable variable (local_variable own)) || puts_any want sources (suc slot) (length rest) variable)
        ≡ puts_moves (if test then moves_of want rest (suc slot) else record { variable = own; slot = slot } ∷ moves_of want rest (suc slot)) variable
    chosen later own true = later
    chosen later own false = ap (λ (more : Bool). is_same_variable variable (local_variable own) || more) later

    by : (puts_any want sources (suc slot) (length rest) variable ≡ puts_moves (moves_of want rest (suc slot)) variable) → (wanted : Option ℕ) → (puts_one wanted (sources slot) variable || puts_any want sources (suc slot) (length rest) variable) ≡ puts_moves (with_move wanted first slot (moves_of want rest (suc slot))) variable
    by later None = later
    by later (Some own) =
        ap (λ (test : Bool). (not test && is_same_variable variable (local_variable own)) || puts_any want sources (suc slot) (length rest) variable) (sym (slot-held own (sources slot)) ∙ ap (is_held own) (sym are.0))
        ∙ chosen later own (is_held own first)

nothing-more : (rest : Option (List Copy)) → and_then rest (λ more. Some ([] ++ more)) ≡ rest
nothing-more None = refl
nothing-more (Some list) = refl

pub copies_are_moves : CopiesAreMoves
copies_are_moves dress kinds want sources [] slot are = refl
copies_are_moves dress kinds want sources (first ∷ rest) slot are = by (copies_are_moves dress kinds want sources rest (suc slot) are.1) (want slot)
  where
    with-later : (copies dress kinds want sources (suc slot) (length rest) ≡ copies_of dress kinds sources (moves_of want rest (suc slot))) → (one : Option (List Copy)) → and_then one (λ first. and_then (copies dress kinds want sources (suc slot) (length rest)) (λ more. Some (first ++ more)))
        ≡ and_then one (λ first. and_then (copies_of dress kinds sources (moves_of want rest (suc slot))) (λ more. Some (first ++ more)))
    with-later later one = ap (λ (found : Option (List Copy)). and_then one (λ first. and_then found (λ more. Some (first ++ more)))) later

    -- where the slot is what is wanted, nothing is copied
    kept : (own : ℕ) (source : Option Source) → is_own own source ≡ true → copy_from dress kinds own source ≡ Some []
    kept own None e = absurd (never e)
      where
        never : false ≡ true → ⊥
        never e = cc
    kept own (Some source) e = ap (λ (test : Bool). if test then Some [] else copy_into dress own source (slice_get kinds own)) e

    chosen : (copies dress kinds want sources (suc slot) (length rest) ≡ copies_of dress kinds sources (moves_of want rest (suc slot))) → (own : ℕ) (test : Bool) → is_own own (sources slot) ≡ test
        → and_then (copy_from dress kinds own (sources slot)) (λ first. and_then (copies dress kinds want sources (suc slot) (length rest)) (λ more. Some (first ++ more)))
        ≡ copies_of dress kinds sources (if test then moves_of want rest (suc slot) else record { variable = own; slot = slot } ∷ moves_of want rest (suc slot))
    chosen later own true e =
        ap (λ (one : Option (List Copy)). and_then one (λ first. and_then (copies dress kinds want sources (suc slot) (length rest)) (λ more. Some (first ++ more)))) (kept own (sources slot) e)
        ∙ nothing-more (copies dress kinds want sources (suc slot) (length rest))
        ∙ later
    chosen later own false e = with-later later (copy_from dress kinds own (sources slot))

    by : (copies dress kinds want sources (suc slot) (length rest) ≡ copies_of dress kinds sources (moves_of want rest (suc slot))) → (wanted : Option ℕ) → and_then (copy_slot dress kinds wanted (sources slot)) (λ first. and_then (copies dress kinds want sources (suc slot) (length rest)) (λ more. Some (first ++ more)))
        ≡ copies_of dress kinds sources (with_move wanted first slot (moves_of want rest (suc slot)))
    by later None = nothing-more (copies dress kinds want sources (suc slot) (length rest)) ∙ later
    by later (Some own) = chosen later own (is_held own first) (sym (slot-held own (sources slot)) ∙ ap (is_held own) (sym are.0))

-- ---- the loop over slots

drop-item : (all : List Held) (index : ℕ) (none : Held) → index < length all → drop index all ≡ get_or all index none ∷ drop (index + 1) all
drop-item all index none within = drop-cons all index none within ∙ ap (λ (n : ℕ). get_or all index none ∷ drop n all) next
  where
    next : suc index ≡ index + 1
    next = omega arith

behind : (want : Option ℕ) (held : Held) (slot : ℕ) (before rest : List Move) → (before ++ with_move want held slot []) ++ rest ≡ before ++ with_move want held slot rest
behind None held slot before rest = ap (λ (list : List Move). list ++ rest) (append-nil before)
behind (Some variable) held slot before rest = by (is_held variable held)
  where
    by : (test : Bool) → (before ++ (if test then [] else record { variable = variable; slot = slot } ∷ [])) ++ rest ≡ before ++ (if test then rest else record { variable = variable; slot = slot } ∷ rest)
    by true = ap (λ (list : List Move). list ++ rest) (append-nil before)
    by false = append_assoc before (record { variable = variable; slot = slot } ∷ []) rest

pub step-moves : (want : ℕ → Option ℕ) (all : List Held) (index : ℕ) (none : Held) → index < length all → (old new whole : List Move) → new ≡ old ++ with_move (want index) (get_or all index none) index []
    → old ++ moves_of want (drop index all) index ≡ whole → new ++ moves_of want (drop (index + 1) all) (index + 1) ≡ whole
step-moves want all index none within old new whole e f =
    ap (λ (list : List Move). list ++ moves_of want (drop (index + 1) all) (index + 1)) e
    ∙ ap (λ (n : ℕ). (old ++ with_move (want index) (get_or all index none) index []) ++ moves_of want (drop (index + 1) all) n) next
    ∙ behind (want index) (get_or all index none) index old (moves_of want (drop (index + 1) all) (suc index))
    ∙ ap (λ (list : List Held). old ++ moves_of want list index) (sym (drop-item all index none within))
    ∙ f
  where
    next : index + 1 ≡ suc index
    next = omega arith
