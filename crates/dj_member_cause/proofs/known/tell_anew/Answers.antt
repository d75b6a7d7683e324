use Rattle.std.proofs.Common.{◌<◌, length, List, ℕ, sym, subst}
use Rattle.dj_instructions.specs.declared.instruction.Instruction as declared
use Rattle.dj_frames.specs.declared.frame.Frame as code_frame
use Rattle.dj_member_cause.proofs.LackingLemmas.{item_at}
use Rattle.dj_member_cause.proofs.TellingLemmas.{judged_at}
use Rattle.dj_member_cause.proofs.known.tell_anew.Goals as goal

pub returns : goal.returns
returns c = record {
  judged =
      judged_at c.args.classes.now c.args.typed.now c.args.place c.index-as_slice-place.result c.index-as_slice-place-2.result
      (item_at c.as_slice.result.now c.args.typed.now.code.instructions c.args.place c.index-as_slice-place.result c.as_slice.ensures
      (subst (λ (list : List (ℕ × declared.Instruction)). c.args.place < length list) (sym c.as_slice.ensures) c.requires.within) c.index-as_slice-place.is)
      (item_at c.as_slice-2.result.now c.args.typed.now.frames c.args.place c.index-as_slice-place-2.result c.as_slice-2.ensures
      (subst (λ (list : List code_frame.Frame). c.args.place < length list) (sym c.as_slice-2.ensures) c.requires.framed) c.index-as_slice-place-2.is)
      c.in_ok-told.told c.in_ok-told.ensures.judged;
}
