use Rattle.std.proofs.Common.{Some, None, refl}
use Rattle.std.proofs.lemmas.Result.{err_from_is_err_and}
use Rattle.dj_code.specs.MethodCode.{view_code}
use Rattle.dj_bytecode.specs.Machine.{Before}
use Rattle.dj_operands.specs.Replies.{view_reply, operation_of}
use Rattle.dj_operands.specs.Stacks.{stacked}
use Rattle.dj_outside.specs.Runs.{world_of}
use Rattle.dj_machine.specs.Runs.{located, run_state}
use Rattle.dj_machine.proofs.StepLemmas.{strict_short, strict_gives, strict_stops, operation_seen}
use Rattle.dj_machine.proofs.families.give.Goals as goal

pub returns-in_default : goal.returns-in_default
returns-in_default c = record {
  done = λ meaning count stack is taken rest.
      strict_short c.args.method.now.headers.now (view_code c.args.method.now.code.now) count (operation_of meaning) stack rest (run_state c.args.run.now) (rw c.in_default.is at taken);
}

pub returns-in_err-given : goal.returns-in_err-given
returns-in_err-given c =
    let p = err_from_is_err_and c.from_residual-in_err-given.result c.from_residual-in_err-given.ensures.1 in
    rw (p.1, p.2) record {
      done = λ meaning count stack is taken rest.
          let operands = c.in-Some.operands.items in
          let there = rw c.in-Some.is at taken in
          strict_stops c.args.method.now.headers.now (view_code c.args.method.now.code.now) count (operation_of meaning) (view_reply c.in_ok-reply.reply) operands stack (stacked c.args.run.now.stack) rest there.0 there.1
          (operation_seen meaning _ (view_reply c.in_ok-reply.reply) c.as_slice.result.now operands is c.in_ok-reply.ensures.replied c.as_slice.ensures.value)
          (λ (done : Unit {0}). Before rest (stacked c.args.run.now.stack)) (located c.args.run.now.locals) (world_of c.args.run.now.outside) (world_of c.settle.new.outside) c.in_err-given.field-0.0 c.in_err-given.ensures.settled;
    }

pub returns-in-Some-given : goal.returns-in-Some-given
returns-in-Some-given c = record {
  done = λ meaning count stack is taken rest.
      let operands = c.in-Some.operands.items in
      let there = rw c.in-Some.is at taken in
      strict_gives c.args.method.now.headers.now (view_code c.args.method.now.code.now) count (operation_of meaning) (view_reply c.in_ok-reply.reply) operands stack (stacked c.args.run.now.stack) rest there.0 there.1
      (operation_seen meaning _ (view_reply c.in_ok-reply.reply) c.as_slice.result.now operands is c.in_ok-reply.ensures.replied c.as_slice.ensures.value)
      (located c.args.run.now.locals) (world_of c.args.run.now.outside) (world_of c.settle.new.outside) (Some c.in-Some-given.value) (stacked c.push.new.self) (rw c.in-Some-given.is at c.in_ok-given.ensures.settled) c.in_ok-push-in-Some-given.ensures.pushed;
}

pub returns : goal.returns
returns c = record {
  done = λ meaning count stack is taken rest.
      let operands = c.in-Some.operands.items in
      let there = rw c.in-Some.is at taken in
      strict_gives c.args.method.now.headers.now (view_code c.args.method.now.code.now) count (operation_of meaning) (view_reply c.in_ok-reply.reply) operands stack (stacked c.args.run.now.stack) rest there.0 there.1
      (operation_seen meaning _ (view_reply c.in_ok-reply.reply) c.as_slice.result.now operands is c.in_ok-reply.ensures.replied c.as_slice.ensures.value)
      (located c.args.run.now.locals) (world_of c.args.run.now.outside) (world_of c.settle.new.outside) None (stacked c.args.run.now.stack) (rw c.in-None.is at c.in_ok-given.ensures.settled) refl;
}
