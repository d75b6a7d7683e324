use Rattle.std.proofs.Common.{◌≡◌, ℕ, List, map, drop, sym, ap, refl, subst, reverse, ◌∙◌}
use Rattle.std.proofs.lemmas.List.{drop-map}
use Rattle.dj_instructions.specs.declared.instruction.Instruction as declared
use Rattle.dj_instructions.specs.Instructions.{view_instruction}
use Rattle.dj_frames.specs.declared.frame.Frame as code_frame
use Rattle.dj_frames.specs.Frames.{Frame, view_frame}
use Rattle.dj_code.specs.MethodCode.{view_typed}
use Rattle.dj_receivers.specs.declared.marking.Marking.{Marking}
use Rattle.dj_receivers.specs.OwnCalls.{special_of}
use Rattle.dj_receivers.specs.Receivers.{marks_by}
use Rattle.dj_receivers.specs.Walks.{Visits}
use Rattle.dj_receivers.proofs.Heights.{marks_place}
use Rattle.dj_receivers.proofs.Visiting.{visits_made, called_at, any_default}
use Rattle.dj_receivers.proofs.walking.visit.Goals as goal

pub returns : goal.returns
returns c = record {
  visits = λ x is.
      let typed = view_typed c.args.typed.now in
      let l = c.args.typed.now.code.instructions in
      let fs = c.args.typed.now.frames in
      let place = c.args.place in
      let y = c.index-as_slice-place.result in
      let y_is = rw c.as_slice.ensures at c.index-as_slice-place.is in
      let same : y ≡ x = y_is ∙ any_default l place y x c.requires.within ∙ sym is in
      let noted = c.note.new.marking in
      let passed : Marking = record { table = noted.table; waiting = noted.waiting; calls = noted.calls; now = c.pass_by.new.marks } in
      let frames : map view_frame c.frames_from-frames.result.now ≡ drop place (map view_frame fs) =
      ap (λ (list : List code_frame.Frame). map view_frame list) (c.frames_from-frames.ensures.from ∙ ap (λ (list : List code_frame.Frame). drop place list) c.as_slice-2.ensures) ∙ sym (drop-map view_frame place fs) in
      let passes = c.in_ok-pass_by.ensures.passed ∙ ap (λ (list : List Frame). marks_by (view_instruction y.1) list (reverse noted.now)) frames
      ∙ sym (marks_place l (map view_frame fs) place y (reverse noted.now) c.requires.rising c.requires.within y_is) in
      let made = visits_made typed c.args.marking.now noted y.0 (special_of (view_instruction y.1)) c.note.ensures.notes (λ method here. called_at l place y method c.requires.rising c.requires.within y_is here) c.args.joins.now passed c.send_all.new.marking
      refl refl refl passes (rw (c.as_slice-3.ensures, c.in_ok-ways.ensures.edges) at c.in_ok-send_all.ensures.sends) in
      subst (λ (z : ℕ × declared.Instruction). Visits typed c.args.joins.now c.args.marking.now c.send_all.new.marking z.0) same made;
}
