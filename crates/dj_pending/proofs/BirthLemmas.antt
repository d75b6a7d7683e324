-- A birth on the stack is one among the program's entries.
use Rattle.std.proofs.Common.{◌≡◌, ℕ, ◌+◌, ◌<◌, ◌≤◌, Bool, true, false, List, [], ◌∷◌, ◌++◌, length, drop, get_or, refl, sym, ap, ◌∙◌}
use Rattle.std.specs.Prelude.{◌||◌}
use Rattle.std.proofs.lemmas.List.{drop_more}
use Rattle.std.proofs.Math.ListN.{drop_of_length-le}
use Rattle.dj_rebuilding.specs.Pending.{Pending}
use Rattle.dj_pending.specs.declared.entry.Entry.{Entry}
use Rattle.dj_pending.specs.Births.{has_birth, is_unborn_entry}
use Rattle.dj_pending.specs.Entries.{view_entry}
use Rattle.dj_pending.specs.Stacks.{top_down}

-- a birth is among these entries
abbrev pub birth_in : List Entry → Bool
birth_in [] = false
birth_in (first ∷ rest) = is_unborn_entry (view_entry first) || birth_in rest

either-way : (first second : Bool) → first || second ≡ second || first
either-way true true = refl
either-way true false = refl
either-way false true = refl
either-way false false = refl

one-way : (first second third : Bool) → first || (second || third) ≡ (first || second) || third
one-way true second third = refl
one-way false second third = refl

none-more : (one : Bool) → one || false ≡ one
none-more true = refl
none-more false = refl

behind-birth : (stack : List Pending) (lowest : Pending) → has_birth (stack ++ lowest ∷ []) ≡ has_birth stack || is_unborn_entry lowest
behind-birth [] lowest = none-more (is_unborn_entry lowest)
behind-birth (top ∷ below) lowest =
    ap (λ (one : Bool). is_unborn_entry top || one) (behind-birth below lowest) ∙ one-way (is_unborn_entry top) (has_birth below) (is_unborn_entry lowest)

pub same-births : (entries : List Entry) → has_birth (top_down entries) ≡ birth_in entries
same-births [] = refl
same-births (first ∷ rest) =
    behind-birth (top_down rest) (view_entry first) ∙ ap (λ (one : Bool). one || is_unborn_entry (view_entry first)) (same-births rest) ∙ either-way (birth_in rest) (is_unborn_entry (view_entry first))

from-here : (entries : List Entry) (i : ℕ) (entry : Entry) → i < length entries → entry ≡ get_or entries i entry → birth_in (drop i entries) ≡ is_unborn_entry (view_entry entry) || birth_in (drop (i + 1) entries)
from-here entries i entry within is = ap birth_in (drop_more entries i entry within ∙ ap (λ (one : Entry). one ∷ drop (i + 1) entries) (sym is))

-- the entries are those that the program goes over
pub birth-here : (entries list : List Entry) (i : ℕ) (entry : Entry) → list ≡ entries → i < length list → entry ≡ get_or list i entry → is_unborn_entry (view_entry entry) ≡ true → birth_in (drop i entries) ≡ true
birth-here entries list i entry same within is born =
    ap (λ (one : List Entry). birth_in (drop i one)) (sym same) ∙ from-here list i entry within is ∙ ap (λ (one : Bool). one || birth_in (drop (i + 1) list)) born

pub birth-next : (entries list : List Entry) (i : ℕ) (entry : Entry) → list ≡ entries → i < length list → entry ≡ get_or list i entry → is_unborn_entry (view_entry entry) ≡ false → birth_in (drop i entries) ≡ birth_in (drop (i + 1) entries)
birth-next entries list i entry same within is other =
    ap (λ (one : List Entry). birth_in (drop i one)) (sym same) ∙ from-here list i entry within is ∙ ap (λ (one : Bool). one || birth_in (drop (i + 1) list)) other
    ∙ ap (λ (one : List Entry). birth_in (drop (i + 1) one)) same

pub birth-nowhere : (entries list : List Entry) (i : ℕ) → list ≡ entries → length list ≤ i → birth_in (drop i entries) ≡ false
birth-nowhere entries list i same past = ap (λ (one : List Entry). birth_in (drop i one)) (sym same) ∙ ap birth_in (drop_of_length-le list past)
