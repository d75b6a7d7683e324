-- Instructions and frames by their places: one place for each offset.
use Rattle.std.proofs.Common.{◌≡◌, ℕ, zero, suc, ◌+◌, ◌≤◌, List, [], ◌∷◌, drop, Option, Some, None, refl, sym, ap, ◌∙◌, subst, arith}
use Rattle.std.specs.Prelude.{slice_get, option_map}
use Rattle.std.proofs.lemmas.Option.{slice_get-map, none-some, same_Some}
use Rattle.dj_instructions.specs.Instructions.{Instruction, Instructions, IsRising, IsRisingFrom}
use Rattle.dj_frames.specs.Frames.{Frame}
use Rattle.dj_code.specs.MethodCode.{Typed}
use Rattle.dj_tags.specs.Goes.{Working, top_down}
use Rattle.dj_vars.specs.Naming.{IsAt}

-- ---- lists

nothing-is : {A P : Type 0} (first : A) (rest : List A) → [] ≡ first ∷ rest → P
nothing-is first rest e = absurd (no first rest e)
  where
    no : {A : Type 0} (first : A) (rest : List A) → [] ≡ first ∷ rest → ⊥
    no first rest e = cc

pub at-drop : {A : Type 0} (list : List A) (place : ℕ) (one : A) (rest : List A) → drop place list ≡ one ∷ rest → slice_get list place ≡ Some one
at-drop [] zero one rest e = nothing-is one rest e
at-drop [] (suc place) one rest e = nothing-is one rest e
at-drop (first ∷ more) zero one rest e = ap Some (head e)
  where
    head : first ∷ more ≡ one ∷ rest → first ≡ one
    head e = cc
at-drop (first ∷ more) (suc place) one rest e = at-drop more place one rest e

pub drop-at : {A : Type 0} (list : List A) (place : ℕ) (one : A) → slice_get list place ≡ Some one → drop place list ≡ one ∷ drop (suc place) list
drop-at [] place one e = absurd (none-some one e)
drop-at (first ∷ more) zero one e = ap (λ head. head ∷ more) (same_Some first one e)
drop-at (first ∷ more) (suc place) one e = drop-at more place one e

-- ---- offsets

at-least : (list : Instructions) (least place : ℕ) (at : ℕ × Instruction) → IsRisingFrom least list → slice_get list place ≡ Some at → least ≤ at.0
at-least [] least place at rising e = absurd (none-some at e)
at-least (first ∷ more) least zero at rising e = subst (λ (found : ℕ × Instruction). least ≤ found.0) (same_Some first at e) rising.0
at-least (first ∷ more) least (suc place) at rising e = let above = at-least more (first.0 + 1) place at rising.1 e in let here = rising.0 in omega arith

one-from : (list : Instructions) (least one other : ℕ) (at found : ℕ × Instruction) → IsRisingFrom least list → at.0 ≡ found.0 → slice_get list one ≡ Some at → slice_get list other ≡ Some found → one ≡ other
one-from [] least one other at found rising same e f = absurd (none-some at e)
one-from (first ∷ more) least zero zero at found rising same e f = refl
one-from (first ∷ more) least zero (suc other) at found rising same e f =
    let above = at-least more (first.0 + 1) other found rising.1 f in
    let here = ap (λ (found : ℕ × Instruction). found.0) (same_Some first at e) in
    absurd (omega (arith, above, here, same))
one-from (first ∷ more) least (suc one) zero at found rising same e f =
    let above = at-least more (first.0 + 1) one at rising.1 e in
    let here = ap (λ (found : ℕ × Instruction). found.0) (same_Some first found f) in
    absurd (omega (arith, above, here, same))
one-from (first ∷ more) least (suc one) (suc other) at found rising same e f = ap suc (one-from more (first.0 + 1) one other at found rising.1 same e f)

pub rising-from : (list : Instructions) → IsRising list → IsRisingFrom 0 list
rising-from [] rising = tt
rising-from (first ∷ more) rising = let here = rising.0 in let one : 1 ≡ first.0 + 1 = omega (arith, here) in (omega arith, subst (λ (least : ℕ). IsRisingFrom least more) one rising.1)

-- two places with one offset are one
pub one-place : (list : Instructions) (one other : ℕ) (at found : ℕ × Instruction) → IsRising list → at.0 ≡ found.0 → slice_get list one ≡ Some at → slice_get list other ≡ Some found → one ≡ other
one-place list one other at found rising same e f = one-from list 0 one other at found (rising-from list rising) same e f

-- ---- instructions with their frames

abbrev pub is-at : (typed : Typed) (place pc : ℕ) (instruction : Instruction) (frame : Frame) → slice_get typed.code.instructions place ≡ Some (pc, instruction) → slice_get typed.frames place ≡ Some frame → IsAt typed pc instruction (top_down frame)
is-at typed place pc instruction frame e f = record {
  place = place;
  rest = drop (suc place) typed.code.instructions;
  here = drop-at typed.code.instructions place (pc, instruction) e;
  there = slice_get-map top_down typed.frames place ∙ ap (option_map top_down) f;
}

pub here-at : (typed : Typed) (pc : ℕ) (instruction : Instruction) (frame : Working) → (at : IsAt typed pc instruction frame) → slice_get typed.code.instructions at.place ≡ Some (pc, instruction)
here-at typed pc instruction frame at = at-drop typed.code.instructions at.place (pc, instruction) at.rest at.here

-- a frame of the table, from the bottom of its stack up
pub record IsSeen (frames : List Frame) (place : ℕ) (frame : Working) : Type 0 where
  pub seen : Frame
  pub listed : slice_get frames place ≡ Some seen
  pub is : top_down seen ≡ frame

pub frame-at : (typed : Typed) (pc : ℕ) (instruction : Instruction) (frame : Working) → (at : IsAt typed pc instruction frame) → IsSeen typed.frames at.place frame
frame-at typed pc instruction frame at = by (slice_get typed.frames at.place) refl (sym (slice_get-map top_down typed.frames at.place) ∙ at.there)
  where
    by : (found : Option Frame) → slice_get typed.frames at.place ≡ found → option_map top_down found ≡ Some frame → IsSeen typed.frames at.place frame
    by None e f = absurd (none-some frame f)
    by (Some seen) e f = record { seen = seen; listed = e; is = same_Some (top_down seen) frame f }
