-- Which of two faults counts doesn't depend on which is looked at first.
use Rattle.std.proofs.Common.{◌≡◌, ◌<◌, ◌==◌, ◌⊎◌, ℕ, Bool, true, false, Decides, Option, Some, None, if◌then◌else◌, refl, sym, ap, ◌∙◌, arith, inl, inr}
use Rattle.std.proofs.lemmas.Bool.{cases_lt}
use Rattle.std.proofs.lemmas.Bool.Decides.{Decides-ltb, Decides-eqb, Decides-and, Decides-or, not_from_Decides}
use Rattle.dj_places.specs.declared.kind.TypeKind.{TypeKind}
use Rattle.dj_places.specs.declared.kind.TypeKind.TheVariants as kinds
use Rattle.dj_faults.specs.declared.fault.Fault.{Fault}
use Rattle.dj_faults.specs.Faults.{rank, is_before, lower}

abbrev IsLess : Fault → Fault → Type 0
IsLess first second = (first.place < second.place) ⊎ ((first.place ≡ second.place) × (rank first.kind < rank second.kind))

Decides-less : (first second : Fault) → Decides (is_before first second) (IsLess first second)
Decides-less first second =
    Decides-or _ _ (Decides-ltb first.place second.place) (Decides-and _ _ (Decides-eqb first.place second.place) (Decides-ltb (rank first.kind) (rank second.kind)))

-- the kind of a rank
abbrev kind_of : ℕ → TypeKind
kind_of rank =
    if rank == 1 then kinds.Name
    else if rank == 2 then kinds.WrongType
    else if rank == 3 then kinds.Call
    else if rank == 4 then kinds.Access
    else if rank == 5 then kinds.Reach
    else if rank == 6 then kinds.Assigned
    else if rank == 7 then kinds.Thrown
    else if rank == 8 then kinds.Catch
    else kinds.Label

kind_is : (kind : TypeKind) → kind_of (rank kind) ≡ kind
kind_is kinds.Name = refl
kind_is kinds.WrongType = refl
kind_is kinds.Call = refl
kind_is kinds.Access = refl
kind_is kinds.Reach = refl
kind_is kinds.Assigned = refl
kind_is kinds.Thrown = refl
kind_is kinds.Catch = refl
kind_is kinds.Label = refl

one_kind : (first second : TypeKind) → rank first ≡ rank second → first ≡ second
one_kind first second same = sym (kind_is first) ∙ ap kind_of same ∙ kind_is second

same_place : (a b : ℕ) → (a < b → ⊥) → (b < a → ⊥) → a ≡ b
same_place a b less more =
    elim (cases_lt a b) [ inl below ↦ absurd (less below) | inr from ↦ elim (cases_lt b a) [ inl above ↦ absurd (more above) | inr to ↦ omega (arith, from, to) ] ]

-- of two faults of which neither counts first there is one
one_fault : (first second : Fault) → is_before first second ≡ false → is_before second first ≡ false → first ≡ second
one_fault first second not_first not_second =
    let less : IsLess first second → ⊥ = not_from_Decides (is_before first second) (Decides-less first second) not_first in
    let more : IsLess second first → ⊥ = not_from_Decides (is_before second first) (Decides-less second first) not_second in
    let place : first.place ≡ second.place = same_place first.place second.place (λ below. less (inl below)) (λ above. more (inl above)) in
    let ranks : rank first.kind ≡ rank second.kind = same_place (rank first.kind) (rank second.kind) (λ below. less (inr (place, below))) (λ above. more (inr (sym place, above))) in
    let kind : first.kind ≡ second.kind = one_kind first.kind second.kind ranks in
    λ i. record { place = place i; kind = kind i }

not_both : (first second : Fault) → IsLess first second → IsLess second first → ⊥
not_both first second (inl below) (inl above) = absurd (omega (arith, below, above))
not_both first second (inl below) (inr above) = absurd (omega (arith, below, above.0))
not_both first second (inr below) (inl above) = absurd (omega (arith, below.0, above))
not_both first second (inr below) (inr above) = absurd (omega (arith, below.1, above.1))

pub lower_comm : (first second : Option Fault) → lower first second ≡ lower second first
lower_comm None None = refl
lower_comm None (Some second) = refl
lower_comm (Some first) None = refl
lower_comm (Some first) (Some second) = ap Some (by (is_before second first) (is_before first second) refl refl)
  where
    by : (x y : Bool) → is_before second first ≡ x → is_before first second ≡ y → (if is_before second first then second else first) ≡ (if is_before first second then first else second)
    by true true is so = absurd (not_both first second ((Decides-less first second).0 so) ((Decides-less second first).0 is))
    by true false is so = rw (is, so) refl
    by false true is so = rw (is, so) refl
    by false false is so = rw (is, so) (one_fault first second so is)
