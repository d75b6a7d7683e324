use Rattle.std.proofs.lemmas.Result.{err_from_is_err_and}
use Rattle.dj_instructions.specs.Instructions.{view_instructions}
use Rattle.dj_code.specs.MethodCode.{view_code}
use Rattle.dj_operands.specs.Stacks.{stacked}
use Rattle.dj_machine.specs.Runs.{run_state}
use Rattle.dj_machine.proofs.RunLemmas.{go_on, go_ends, go_stops, go_done}
use Rattle.dj_machine.proofs.running.go.Goals as goal

pub loop-left-preserved : goal.loop-left-preserved
loop-left-preserved c =
    go_on c.args.method.now.headers.now (view_code c.args.method.now.code.now) _ c.loop-left.left (view_instructions c.loop-left.instructions.now) (stacked c.loop-left.run.stack) (run_state c.loop-left.run) c.advance.new.run c.in-Before.next c.loop-left-test.true c.loop-left.invariant (rw c.in-Before.is at c.in_ok-next.ensures.come)

pub returns-in-Returned : goal.returns-in-Returned
returns-in-Returned c =
    record { gone = go_ends c.args.method.now.headers.now (view_code c.args.method.now.code.now) _ c.loop-left.left (view_instructions c.loop-left.instructions.now) (stacked c.loop-left.run.stack) (run_state c.loop-left.run) c.advance.new.run _ c.loop-left-test.true c.loop-left.invariant (rw c.in-Returned.is at c.in_ok-next.ensures.come) }

pub returns-in_err-next : goal.returns-in_err-next
returns-in_err-next c =
    let p = err_from_is_err_and c.from_residual.result c.from_residual.ensures.1 in
    rw (p.1, p.2) record {
      gone = go_stops c.args.method.now.headers.now (view_code c.args.method.now.code.now) _ c.loop-left.left (view_instructions c.loop-left.instructions.now) (stacked c.loop-left.run.stack) (run_state c.loop-left.run) c.advance.new.run c.in_err-next.field-0.0 c.loop-left-test.true c.loop-left.invariant
          c.in_err-next.ensures.come;
    }

pub returns : goal.returns
returns c =
    record { gone = go_done c.args.method.now.headers.now (view_code c.args.method.now.code.now) _ c.loop-left.left (view_instructions c.loop-left.instructions.now) (stacked c.loop-left.run.stack) (run_state c.loop-left.run) c.loop-left-test.false c.loop-left.invariant }
