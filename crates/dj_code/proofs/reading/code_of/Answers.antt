use Rattle.std.proofs.Common.{ℕ, List, Err, subst}
use Rattle.std.proofs.lemmas.Result.{err_from_is_err_and}
use Rattle.dj_class.specs.Views.{view_class, view_method}
use Rattle.dj_instructions.specs.Instructions.{view_instructions}
use Rattle.dj_instructions.specs.declared.instruction.Instruction as declared
use Rattle.dj_frames.specs.Frames.{entry_values}
use Rattle.dj_code.specs.ReadCode.{HasContent, tables_of}
use Rattle.dj_code.specs.Checks.{ReadsGiven}
use Rattle.dj_code.proofs.CodeReading.{content_stops, checked_stops, frames_stop}
use Rattle.dj_code.proofs.reading.code_of.Goals as goal

pub returns-in_err-content : goal.returns-in_err-content
returns-in_err-content c =
    let p = err_from_is_err_and c.from_residual.result c.from_residual.ensures.1 in
    rw (p.1, p.2) record { reads = content_stops (view_class c.args.class.now) (view_method c.args.method.now) c.args.bytes.now _ c.requires.body c.in_err-content.ensures.content }

pub returns-in_err-instructions : goal.returns-in_err-instructions
returns-in_err-instructions c =
    let p = err_from_is_err_and c.from_residual-in_err-instructions.result c.from_residual-in_err-instructions.ensures.1 in
    let has : HasContent (view_method c.args.method.now) c.in_ok-content.content = record { bytes = c.args.bytes.now; body = c.requires.body; laid_out = c.in_ok-content.ensures.content } in
    rw (p.1, p.2) record { reads = checked_stops (view_class c.args.class.now) (view_method c.args.method.now) c.in_ok-content.content _ has c.in_err-instructions.ensures.checked }

pub returns-in_err-frames : goal.returns-in_err-frames
returns-in_err-frames c =
    let p = err_from_is_err_and c.from_residual-in_err-frames.result c.from_residual-in_err-frames.ensures.1 in
    let has : HasContent (view_method c.args.method.now) c.in_ok-content.content = record { bytes = c.args.bytes.now; body = c.requires.body; laid_out = c.in_ok-content.ensures.content } in
    let checked = c.in_ok-instructions.ensures.checked in
    rw (p.1, p.2) record {
      reads = frames_stop (view_class c.args.class.now) (view_method c.args.method.now) c.in_ok-content.content (view_instructions c.in_ok-instructions.instructions) _ has checked.0 checked.1 (subst (λ (i : List (ℕ × declared.Instruction)). ReadsGiven c.args.class.now.pool (view_instructions i) (entry_values c.args.class.now.this_class (view_method c.args.method.now)) (tables_of c.args.class.now.pool c.in_ok-content.content) (Err c.in_err-frames.field-0.0)) c.as_slice.ensures c.in_err-frames.ensures.given);
    }
