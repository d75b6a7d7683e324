-- How many entries the stack has before an instruction, by its place.
use Rattle.std.proofs.Common.{◌≡◌, ℕ, zero, suc, ◌+◌, ◌<◌, ◌≤◌, ◌==◌, Bool, true, List, [], ◌∷◌, length, drop, map, Some, None, refl, sym, ap, ◌∙◌, arith, ne_eqb}
use Rattle.std.specs.Prelude.{slice_get, slice_index_or}
use Rattle.std.proofs.lemmas.Bool.Decides.{nat_tests}
use Rattle.std.proofs.lemmas.List.{drop-drop, length-map}
use Rattle.dj_instructions.specs.declared.instruction.Instruction as declared
use Rattle.dj_instructions.specs.declared.instruction.Instruction.TheVariants as variant
use Rattle.dj_instructions.specs.Instructions.{Instruction, IsRising, IsRisingFrom, view_instruction, view_instructions}
use Rattle.dj_instructions.specs.Places.{IsPlaceOf, IsNoPlace}
use Rattle.dj_frames.specs.declared.frame.Frame as code_frame
use Rattle.dj_frames.specs.Frames.{Frame, view_tag, view_frame}
use Rattle.dj_starts.proofs.PcLemmas.{at_least, from_start}
use Rattle.dj_receivers.specs.Receivers.{height_by, height_at, marks_by, marks_at}
use Rattle.dj_receivers.specs.Walks.{tallest}

abbrev Listed : Type 0
Listed = List (ℕ × declared.Instruction)

pub same_pc : (m n : ℕ) → m ≡ n → (m == n) ≡ true
same_pc m n same = grind (arith, nat_tests)

abbrev pub view_of : ℕ × declared.Instruction → Instruction
view_of x = view_instruction x.1

behind_one : (place : ℕ) (frames : List Frame) → drop place (drop 1 frames) ≡ drop (suc place) frames
behind_one place frames = let one : 1 + place ≡ suc place = omega arith in drop-drop place 1 frames ∙ ap (λ (n : ℕ). drop n frames) one

height_here : (l : Listed) (frames : List Frame) (least place pc : ℕ) (d : ℕ × declared.Instruction) → IsRisingFrom least (view_instructions l) → place < length l → (slice_index_or l place d).0 ≡ pc
    → height_at (view_instructions l) frames pc ≡ height_by (drop place frames)
height_here [] frames least place pc d rising within here = absurd (omega arith)
height_here (x ∷ l) frames least zero pc d rising within here = rw (same_pc x.0 pc here) refl
height_here (x ∷ l) frames least (suc place) pc d rising within here =
    let above = at_least l (x.0 + 1) place d rising.1 (omega arith) in
    rw (ne_eqb x.0 pc (λ same. omega (arith, same, above, here))) (height_here l (drop 1 frames) (x.0 + 1) place pc d rising.1 (omega arith) here ∙ ap height_by (behind_one place frames))

pub height_place : (l : Listed) (frames : List Frame) (pc place : ℕ) → IsRising (view_instructions l) → IsPlaceOf l pc place → height_at (view_instructions l) frames pc ≡ height_by (drop place frames)
height_place l frames pc place rising is = let d : ℕ × declared.Instruction = (0, variant.Nop) in height_here l frames 0 place pc d (from_start l rising) is.within (is.here d)

pub height_none : (l : Listed) (frames : List Frame) (pc : ℕ) → IsNoPlace l pc → height_at (view_instructions l) frames pc ≡ 0
height_none [] frames pc is = refl
height_none (x ∷ l) frames pc is = rw (ne_eqb x.0 pc (is.none 0 x (omega arith))) (height_none l (drop 1 frames) pc record { none = λ place other within. is.none (suc place) other (omega arith) })

-- by the program's frames
pub height_get : (frames : List code_frame.Frame) (place : ℕ) (frame : code_frame.Frame) → Some frame ≡ slice_get frames place → length frame.stack ≡ height_by (drop place (map view_frame frames))
height_get [] place frame is = absurd cc
height_get (x ∷ frames) zero frame is = let same : frame ≡ x = cc in rw same (sym (length-map x.stack view_tag))
height_get (x ∷ frames) (suc place) frame is = height_get frames place frame is

pub height_past : (frames : List code_frame.Frame) (place : ℕ) → None ≡ slice_get frames place → height_by (drop place (map view_frame frames)) ≡ 0
height_past [] zero is = refl
height_past [] (suc place) is = refl
height_past (x ∷ frames) zero is = absurd cc
height_past (x ∷ frames) (suc place) is = height_past frames place is

pub height_low : (frames : List Frame) (place : ℕ) → height_by (drop place frames) ≤ tallest frames
height_low [] zero = omega arith
height_low [] (suc place) = omega arith
height_low (frame ∷ frames) zero = omega arith
height_low (frame ∷ frames) (suc place) = let more = height_low frames place in omega (arith, more)

-- the marks behind the instruction at a place
marks_here : (l : Listed) (frames : List Frame) (least place pc : ℕ) (d : ℕ × declared.Instruction) (marks : List Bool) → IsRisingFrom least (view_instructions l) → place < length l → (slice_index_or l place d).0 ≡ pc
    → marks_at (view_instructions l) frames pc marks ≡ marks_by (view_of (slice_index_or l place d)) (drop place frames) marks
marks_here [] frames least place pc d marks rising within here = absurd (omega arith)
marks_here (x ∷ l) frames least zero pc d marks rising within here = rw (same_pc x.0 pc here) refl
marks_here (x ∷ l) frames least (suc place) pc d marks rising within here =
    let above = at_least l (x.0 + 1) place d rising.1 (omega arith) in
    rw (ne_eqb x.0 pc (λ same. omega (arith, same, above, here)))
    (marks_here l (drop 1 frames) (x.0 + 1) place pc d marks rising.1 (omega arith) here ∙ ap (λ (list : List Frame). marks_by (view_of (slice_index_or l place d)) list marks) (behind_one place frames))

pub marks_place : (l : Listed) (frames : List Frame) (place : ℕ) (x : ℕ × declared.Instruction) (marks : List Bool) → IsRising (view_instructions l) → place < length l → x ≡ slice_index_or l place x
    → marks_at (view_instructions l) frames x.0 marks ≡ marks_by (view_of x) (drop place frames) marks
marks_place l frames place x marks rising within is =
    marks_here l frames 0 place x.0 x marks (from_start l rising) within (ap (λ (y : ℕ × declared.Instruction). y.0) (sym is)) ∙ ap (λ (y : ℕ × declared.Instruction). marks_by (view_of y) (drop place frames) marks) (sym is)
