-- Whether a constructor is called on the entry below all others, found by going through instructions.
use Rattle.std.proofs.Common.{◌≡◌, ◌&&◌, ℕ, ◌≤◌, Bool, true, false, List, ◌∷◌, length, drop, get_or, map, subst}
use Rattle.std.specs.Prelude.{if◌then◌else◌}
use Rattle.dj_instructions.specs.declared.instruction.Instruction as declared
use Rattle.dj_instructions.specs.Instructions.{view_instruction, view_instructions}
use Rattle.dj_frames.specs.declared.frame.Frame as code_frame
use Rattle.dj_frames.specs.Frames.{view_frame}
use Rattle.dj_receivers.specs.OwnCalls.{calls_own}
use Rattle.dj_birth_causes.specs.Beginning.{is_on_first, spares_first, calls_on_first}
use Rattle.dj_birth_causes.proofs.Standing.{starts}

module _ (whole : Bool) (left : List (ℕ × declared.Instruction)) (at : ℕ × declared.Instruction) (long : 1 ≤ length left) (is : at ≡ get_or left 0 at)
    (before : List code_frame.Frame) (frame : code_frame.Frame) (some : 1 ≤ length before) (first : frame ≡ get_or before 0 frame)
    (same : calls_on_first (view_instructions left) (map view_frame before) ≡ whole) where
  begun : (if calls_own (view_instruction at.1) (view_frame frame) then is_on_first (view_instruction at.1) (view_frame frame)
      else spares_first (view_instruction at.1) (view_frame frame) && calls_on_first (view_instructions (drop 1 left)) (map view_frame (drop 1 before))) ≡ whole
  begun =
      subst (λ (list : List (ℕ × declared.Instruction)). calls_on_first (view_instructions list) (view_frame frame ∷ map view_frame (drop 1 before)) ≡ whole) (starts left at long is)
      (subst (λ (list : List code_frame.Frame). calls_on_first (view_instructions left) (map view_frame list) ≡ whole) (starts before frame some first) same)

  pub called_here : calls_own (view_instruction at.1) (view_frame frame) ≡ true → is_on_first (view_instruction at.1) (view_frame frame) ≡ whole
  called_here calls = rw calls at begun

  pub called_lost : calls_own (view_instruction at.1) (view_frame frame) ≡ false → spares_first (view_instruction at.1) (view_frame frame) ≡ false → false ≡ whole
  called_lost none lost = rw (none, lost) at begun

  pub called_next : calls_own (view_instruction at.1) (view_frame frame) ≡ false → spares_first (view_instruction at.1) (view_frame frame) ≡ true → calls_on_first (view_instructions (drop 1 left)) (map view_frame (drop 1 before)) ≡ whole
  called_next none spared = rw (none, spared) at begun
