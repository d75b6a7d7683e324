use Rattle.std.proofs.Common.{◌≡◌, ◌↔◌, ◌<◌, ℕ, IsTrue, List, length, Some, refl, sym, ap, subst, ◌∙◌}
use Rattle.std.proofs.lemmas.Bool.{false≢true}
use Rattle.std.proofs.lemmas.Option.{same_Some}
use Rattle.dj_frames.specs.Frames.{view_frame}
use Rattle.dj_instructions.specs.declared.instruction.Instruction as declared
use Rattle.dj_instructions.specs.Instructions.{view_instruction, view_instructions, instruction_at, InvokeSpecial}
use Rattle.dj_code.specs.MethodCode.{view_typed}
use Rattle.dj_receivers.specs.Receivers.{IsOnThis}
use Rattle.dj_member_cause.specs.Deciding.{IsJudged}
use Rattle.dj_member_cause.proofs.LackingLemmas.{item_at}
use Rattle.dj_member_cause.proofs.JudgingLemmas.{has_it, lacks_it, lacks_by_this}
use Rattle.dj_member_cause.proofs.lacking.lacks.Goals as goal

pub returns-in-Has-clause-lacks : goal.returns-in-Has-clause-lacks
returns-in-Has-clause-lacks c = λ at frame at_is frame_is. (
  λ never. absurd (false≢true never),
  λ lacks. absurd (lacks (has_it c.args.classes.now (view_frame frame) (IsOnThis (view_typed c.args.typed.now) at.0) (view_instruction at.1)
      (subst (IsJudged c.args.classes.now (view_frame frame) (view_instruction at.1)) c.in-Has.is (c.in_ok-told.ensures.judged at frame at_is frame_is)))),
)

pub returns-in-Lacks-clause-lacks : goal.returns-in-Lacks-clause-lacks
returns-in-Lacks-clause-lacks c = λ at frame at_is frame_is. (
  λ yes. lacks_it c.args.classes.now (view_frame frame) (IsOnThis (view_typed c.args.typed.now) at.0) (view_instruction at.1)
      (subst (IsJudged c.args.classes.now (view_frame frame) (view_instruction at.1)) c.in-Lacks.is (c.in_ok-told.ensures.judged at frame at_is frame_is)),
  λ lacks. refl,
)

pub returns-in_ok-is-in-OnThis-clause-lacks : goal.returns-in_ok-is-in-OnThis-clause-lacks
returns-in_ok-is-in-OnThis-clause-lacks c = λ at frame at_is frame_is.
    (let here : c.index-as_slice-place.result ≡ at =
    same_Some c.index-as_slice-place.result at
    (sym (item_at c.as_slice.result.now c.args.typed.now.code.instructions c.args.place c.index-as_slice-place.result c.as_slice.ensures
    (subst (λ (list : List (ℕ × declared.Instruction)). c.args.place < length list) (sym c.as_slice.ensures) c.requires.within) c.index-as_slice-place.is) ∙ at_is) in
    lacks_by_this c.args.classes.now (view_frame frame) (IsOnThis (view_typed c.args.typed.now) at.0) (view_instruction at.1)
    (subst (IsJudged c.args.classes.now (view_frame frame) (view_instruction at.1)) c.in-OnThis.is (c.in_ok-told.ensures.judged at frame at_is frame_is)) c.in_ok-is-in-OnThis.is'
    (λ method same.
    subst (λ (one : ℕ × declared.Instruction). IsTrue c.in_ok-is-in-OnThis.is' ↔ IsOnThis (view_typed c.args.typed.now) one.0 method) here
    (c.in_ok-is-in-OnThis.ensures.on_this method (subst (λ (one : ℕ × declared.Instruction). instruction_at (view_instructions c.args.typed.now.code.instructions) one.0 ≡ Some (InvokeSpecial method)) (sym here)
    (c.requires.there at at_is ∙ ap Some same)))))
