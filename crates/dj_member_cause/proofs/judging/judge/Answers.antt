use Rattle.dj_frames.specs.Frames.{view_frame}
use Rattle.dj_instructions.specs.Instructions.{view_instruction, view_field_ref, view_method_ref, GetStatic, PutStatic, GetField, PutField, InvokeVirtual, InvokeInterface, InvokeStatic}
use Rattle.dj_member_cause.proofs.JudgingLemmas.{judged_so, judged_read, judged_write, judged_get, judged_put, judged_virtual, judged_interface, judged_class, judged_nothing}
use Rattle.dj_member_cause.proofs.judging.judge.Goals as goal

pub returns-in_ok-has-in-ReadStatic : goal.returns-in_ok-has-in-ReadStatic
returns-in_ok-has-in-ReadStatic c =
    let classes = c.args.classes.now in
    let frame = view_frame c.args.frame.now in
    let field = view_field_ref c.in-ReadStatic.field.now in
    record {
      judged = judged_so classes frame (view_instruction c.args.instruction.now) (GetStatic field) c.judged.result c.in_ok-has-in-ReadStatic.has c.in-ReadStatic.ensures.named c.judged.ensures.judged
          (judged_read classes frame field c.in_ok-has-in-ReadStatic.has c.in_ok-has-in-ReadStatic.ensures.reads);
    }

pub returns-in_ok-has-in-WriteStatic : goal.returns-in_ok-has-in-WriteStatic
returns-in_ok-has-in-WriteStatic c =
    let classes = c.args.classes.now in
    let frame = view_frame c.args.frame.now in
    let field = view_field_ref c.in-WriteStatic.field.now in
    record {
      judged = judged_so classes frame (view_instruction c.args.instruction.now) (PutStatic field) c.judged-in-WriteStatic.result c.in_ok-has-in-WriteStatic.has c.in-WriteStatic.ensures.named c.judged-in-WriteStatic.ensures.judged
          (judged_write classes frame field c.in_ok-has-in-WriteStatic.has c.in_ok-has-in-WriteStatic.ensures.writes);
    }

pub returns-in_ok-has-in-Read : goal.returns-in_ok-has-in-Read
returns-in_ok-has-in-Read c =
    let classes = c.args.classes.now in
    let frame = view_frame c.args.frame.now in
    let field = view_field_ref c.in-Read.field.now in
    record {
      judged = judged_so classes frame (view_instruction c.args.instruction.now) (GetField field) c.judged-in-Read.result c.in_ok-has-in-Read.has c.in-Read.ensures.named c.judged-in-Read.ensures.judged
          (judged_get classes frame field c.in_ok-has-in-Read.has c.in_ok-has-in-Read.ensures.names);
    }

pub returns-in_ok-has-in-Write : goal.returns-in_ok-has-in-Write
returns-in_ok-has-in-Write c =
    let classes = c.args.classes.now in
    let frame = view_frame c.args.frame.now in
    let field = view_field_ref c.in-Write.field.now in
    record {
      judged = judged_so classes frame (view_instruction c.args.instruction.now) (PutField field) c.judged-in-Write.result c.in_ok-has-in-Write.has c.in-Write.ensures.named c.judged-in-Write.ensures.judged
          (judged_put classes frame field c.in_ok-has-in-Write.has c.in_ok-has-in-Write.ensures.writes);
    }

pub returns-in_ok-has-in-Virtual : goal.returns-in_ok-has-in-Virtual
returns-in_ok-has-in-Virtual c =
    let classes = c.args.classes.now in
    let frame = view_frame c.args.frame.now in
    let method = view_method_ref c.in-Virtual.method.now in
    record {
      judged = judged_so classes frame (view_instruction c.args.instruction.now) (InvokeVirtual method) c.judged-in-Virtual.result c.in_ok-has-in-Virtual.has c.in-Virtual.ensures.named c.judged-in-Virtual.ensures.judged
          (judged_virtual classes frame method c.in_ok-has-in-Virtual.has c.in_ok-has-in-Virtual.ensures.calls);
    }

pub returns-in_ok-has-in-Interface : goal.returns-in_ok-has-in-Interface
returns-in_ok-has-in-Interface c =
    let classes = c.args.classes.now in
    let frame = view_frame c.args.frame.now in
    let method = view_method_ref c.in-Interface.method.now in
    record {
      judged = judged_so classes frame (view_instruction c.args.instruction.now) (InvokeInterface method) c.judged-in-Interface.result c.in_ok-has-in-Interface.has c.in-Interface.ensures.named c.judged-in-Interface.ensures.judged
          (judged_interface classes frame method c.in_ok-has-in-Interface.has c.in_ok-has-in-Interface.ensures.calls);
    }

pub returns-in_ok-has-in-Static : goal.returns-in_ok-has-in-Static
returns-in_ok-has-in-Static c =
    let classes = c.args.classes.now in
    let frame = view_frame c.args.frame.now in
    let method = view_method_ref c.in-Static.method.now in
    record {
      judged = judged_so classes frame (view_instruction c.args.instruction.now) (InvokeStatic method) c.judged-in-Static.result c.in_ok-has-in-Static.has c.in-Static.ensures.named c.judged-in-Static.ensures.judged
          (judged_class classes frame method c.in_ok-has-in-Static.has c.in_ok-has-in-Static.ensures.calls);
    }

pub returns-in-Nothing : goal.returns-in-Nothing
returns-in-Nothing c = record { judged = judged_nothing c.args.classes.now (view_frame c.args.frame.now) (view_instruction c.args.instruction.now) c.in-Nothing.ensures.named }
