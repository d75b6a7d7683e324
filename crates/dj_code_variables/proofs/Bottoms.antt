-- Frames from the bottom of their stacks up, and from the top down.
use Rattle.std.proofs.Common.{◌≡◌, inl, inr, ℕ, zero, suc, ◌-◌, ◌==◌, Bool, List, [], ◌∷◌, ◌++◌, length, Option, Some, None, refl, sym, ap, ◌∙◌, arith, ne_eqb}
use Rattle.std.specs.Prelude.{slice_get, nat_lt, if◌then◌else◌}
use Rattle.std.proofs.lemmas.Bool.{cases_eq, eq-eqb}
use Rattle.std.proofs.lemmas.List.{length_push}
use Rattle.std.proofs.lemmas.Option.{none-some}
use Rattle.dj_frames.specs.Frames.{Tag, Frame}
use Rattle.dj_code.specs.MethodCode.{Code}
use Rattle.dj_tags.specs.Goes.{reversed, top_down}
use Rattle.dj_tags.proofs.SlotLemmas.{length_reversed}
use Rattle.dj_numbers.specs.Frames.{frame_tag}
use Rattle.dj_vars.specs.Slots.{from_bottom, slot_tag}

same-behind : (one other : ℕ) → (suc one == suc other) ≡ (one == other)
same-behind one other = elim (cases_eq one other) [
  | inl same ↦ eq-eqb (suc one) (suc other) (ap suc same) ∙ sym (eq-eqb one other same)
  | inr differ ↦ ne_eqb (suc one) (suc other) (λ same. differ (omega (arith, same))) ∙ sym (ne_eqb one other differ)
]

module _ {A : Type 0} where
  long : (list : List A) (last : A) → length (list ++ last ∷ []) ≡ suc (length list)
  long list last = let more = length_push list last in omega (arith, more)

  -- the last from the top is the first from the bottom
  bottom-first : (list : List A) (last : A) → from_bottom (list ++ last ∷ []) 0 ≡ Some last
  bottom-first [] last = refl
  bottom-first (top ∷ below) last =
      ap (λ (test : Bool). if test then Some top else from_bottom (below ++ last ∷ []) 0) (ne_eqb 0 (length (below ++ last ∷ [])) (λ same. let more = long below last in omega (arith, same, more)))
      ∙ bottom-first below last

  bottom-next : (list : List A) (last : A) (place : ℕ) → from_bottom (list ++ last ∷ []) (suc place) ≡ from_bottom list place
  bottom-next [] last place = ap (λ (test : Bool). if test then Some last else None) (ne_eqb (suc place) 0 (λ same. omega (arith, same)))
  bottom-next (top ∷ below) last place =
      ap (λ (n : ℕ). if suc place == n then Some top else from_bottom (below ++ last ∷ []) (suc place)) (long below last)
      ∙ ap (λ (test : Bool). if test then Some top else from_bottom (below ++ last ∷ []) (suc place)) (same-behind place (length below))
      ∙ ap (λ (found : Option A). if place == length below then Some top else found) (bottom-next below last place)

  pub bottom-is : (list : List A) (place : ℕ) → from_bottom (reversed list) place ≡ slice_get list place
  bottom-is [] place = refl
  bottom-is (first ∷ more) zero = bottom-first (reversed more) first
  bottom-is (first ∷ more) (suc place) = bottom-next (reversed more) first place ∙ bottom-is more place

  -- what is on top stands last
  pub top-is : (list : List A) (top : A) (below : List A) → reversed list ≡ top ∷ below → slice_get list (length list - 1) ≡ Some top
  top-is list top below e =
      ap (slice_get list) height ∙ sym (bottom-is list (length below)) ∙ ap (λ (found : List A). from_bottom found (length below)) e
      ∙ ap (λ (test : Bool). if test then Some top else from_bottom below (length below)) (eq-eqb (length below) (length below) refl)
    where
      height : length list - 1 ≡ length below
      height = let many = length_reversed list in let same = ap length e in omega (arith, many, same)

  pub record IsTop (list : List A) (top : A) : Type 0 where
    pub below : List A
    pub is : reversed list ≡ top ∷ below

  pub top-of : (list : List A) (top : A) → slice_get list (length list - 1) ≡ Some top → IsTop list top
  top-of list top e = by (reversed list) refl
    where
      same : (one other : A) → Some one ≡ Some other → one ≡ other
      same one other e = cc

      by : (found : List A) → reversed list ≡ found → IsTop list top
      by [] f = absurd (none-some top (sym (ap (λ (found : List A). from_bottom found (length list - 1)) f) ∙ bottom-is list (length list - 1) ∙ e))
      by (one ∷ below) f = record { below = below; is = f ∙ ap (λ (first : A). first ∷ below) (same one top (sym (top-is list one below f) ∙ e)) }

pub slot-is : (code : Code) (frame : Frame) (slot : ℕ) → slot_tag code (top_down frame) slot ≡ frame_tag code.max_locals frame slot
slot-is code frame slot = ap (λ (found : Option Tag). if nat_lt slot code.max_locals then slice_get frame.locals slot else found) (bottom-is frame.stack (slot - code.max_locals))
