-- The calls that are met, one instruction after another.
use Rattle.std.proofs.Common.{◌≡◌, ℕ, zero, suc, ◌+◌, ◌<◌, ◌≤◌, List, [], ◌∷◌, length, drop, get_or, map, sym, subst}
use Rattle.std.specs.Prelude.{slice_index_or}
use Rattle.std.proofs.lemmas.List.{drop_all}
use Rattle.dj_instructions.specs.declared.instruction.Instruction as declared
use Rattle.dj_instructions.specs.Instructions.{view_instruction, view_instructions, IsRising, IsRisingFrom}
use Rattle.dj_frames.specs.declared.frame.Frame as code_frame
use Rattle.dj_frames.specs.Frames.{view_frame}
use Rattle.dj_starts.specs.declared.calls.Met.{Met}
use Rattle.dj_starts.specs.declared.calls.Met.TheVariants as met
use Rattle.dj_starts.specs.Births.{Meets}
use Rattle.dj_starts.specs.Walking.{IsNoted, Tells}
use Rattle.dj_starts.proofs.Asking.{from_item, frames_step}
use Rattle.dj_starts.proofs.PcLemmas.{from_start}
use Rattle.dj_starts.proofs.Constructing.{Extends, extends_noted, extends_all}

abbrev Listed : Type 0
Listed = List (ℕ × declared.Instruction)

-- instructions from a place on rise too
rises_from : (l : Listed) (least i : ℕ) → IsRisingFrom least (view_instructions l) → (n : ℕ) × IsRisingFrom n (view_instructions (drop i l))
rises_from l least zero rising = (least, rising)
rises_from [] least (suc i) rising = (0, tt)
rises_from (x ∷ l) least (suc i) rising = rises_from l (x.0 + 1) i rising.1

-- and from behind the instruction there
pub rises_at : (l : Listed) (i : ℕ) (x : ℕ × declared.Instruction) → IsRising (view_instructions l) → i < length l → x ≡ get_or l i x → IsRisingFrom (x.0 + 1) (view_instructions (drop (i + 1) l))
rises_at l i x rising within is =
    let r = rises_from l 0 i (from_start l rising) in
    (subst (λ tail. IsRisingFrom r.0 (view_instructions tail)) (from_item l i x within is) r.1).1

module _ (all : Listed) (frames : List code_frame.Frame) where
  pub calls_none : (calls : List Met) (start : ℕ) → slice_index_or calls start met.No ≡ met.No → Extends (slice_index_or calls start met.No) (view_instructions all) (Meets (view_instructions all) (map view_frame frames) start) (Meets (view_instructions all) (map view_frame frames) start)
  calls_none calls start none = rw none (λ call. (λ h. h, λ h. h))

  pub calls_step : (i : ℕ) (x : ℕ × declared.Instruction) → IsRising (view_instructions all) → i < length all → x ≡ get_or all i x → (old new : List Met) → IsNoted x.0 (view_instruction x.1) (map view_frame (drop i frames)) old new → (start : ℕ) → start < length old
      → Extends (slice_index_or old start met.No) (view_instructions (drop i all)) (Meets (view_instructions (drop i all)) (map view_frame (drop i frames)) start) (Meets (view_instructions all) (map view_frame frames) start)
      → Extends (slice_index_or new start met.No) (view_instructions (drop (i + 1) all)) (Meets (view_instructions (drop (i + 1) all)) (map view_frame (drop (i + 1) frames)) start) (Meets (view_instructions all) (map view_frame frames) start)
  calls_step i x rising within is old new noted start short known =
      let All = Meets (view_instructions all) (map view_frame frames) start in
      subst (λ fs. Extends (slice_index_or new start met.No) (view_instructions (drop (i + 1) all)) (Meets (view_instructions (drop (i + 1) all)) fs start) All) (sym (frames_step frames i))
      (extends_noted (x.0, view_instruction x.1) (view_instructions (drop (i + 1) all)) (map view_frame (drop i frames)) start (rises_at all i x rising within is) All old new noted short
      (subst (λ tail. Extends (slice_index_or old start met.No) (view_instructions tail) (Meets (view_instructions tail) (map view_frame (drop i frames)) start) All) (from_item all i x within is) known))

  pub calls_all : (i : ℕ) (calls : List Met) (start : ℕ) → length all ≤ i
      → Extends (slice_index_or calls start met.No) (view_instructions (drop i all)) (Meets (view_instructions (drop i all)) (map view_frame (drop i frames)) start) (Meets (view_instructions all) (map view_frame frames) start)
      → Tells (slice_index_or calls start met.No) (Meets (view_instructions all) (map view_frame frames) start)
  calls_all i calls start past known =
      extends_all (slice_index_or calls start met.No) (Meets (view_instructions all) (map view_frame frames) start)
      (subst (λ tail. Extends (slice_index_or calls start met.No) (view_instructions tail) (Meets (view_instructions tail) (map view_frame (drop i frames)) start) (Meets (view_instructions all) (map view_frame frames) start)) (drop_all i all past) known)
