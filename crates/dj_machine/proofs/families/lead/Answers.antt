use Rattle.std.proofs.Common.{Some, None}
use Rattle.dj_values.specs.Outcomes.{Stuck, Gives, Halts}
use Rattle.dj_instructions.specs.Instructions.{view_instructions}
use Rattle.dj_code.specs.MethodCode.{view_code}
use Rattle.dj_operands.specs.Replies.{choice_of}
use Rattle.dj_operands.specs.Stacks.{stacked}
use Rattle.dj_machine.specs.Runs.{run_state}
use Rattle.dj_machine.proofs.StepLemmas.{leads_short, leads_is, leads_to, choice_seen}
use Rattle.dj_machine.proofs.families.lead.Goals as goal

pub returns-in_default : goal.returns-in_default
returns-in_default c = record {
  come = λ meaning is.
      leads_short c.args.method.now.headers.now (view_code c.args.method.now.code.now) c.args.count (choice_of meaning) (stacked c.args.run.now.stack) (view_instructions c.args.rest.now) (run_state c.args.run.now)
      (rw c.in_default.is at c.in_ok-operands.ensures.taken);
}

pub returns-in-On : goal.returns-in-On
returns-in-On c =
    let headers = c.args.method.now.headers.now in
    let code = c.args.method.now.code.now in
    let taken = rw c.in-Some.is at c.in_ok-operands.ensures.taken in
    record {
      come = λ meaning is.
          leads_is headers (view_code code) c.args.count (choice_of meaning) (Gives None) c.in-Some.operands.items (stacked c.args.run.now.stack) (stacked c.take.new.self) (view_instructions c.args.rest.now) (run_state c.args.run.now) taken.0 taken.1
          (choice_seen meaning _ (Gives None) c.as_slice.result.now c.in-Some.operands.items is (c.in-On.ensures.leads headers code.class) c.as_slice.ensures.value);
    }

pub returns-in-To : goal.returns-in-To
returns-in-To c =
    let headers = c.args.method.now.headers.now in
    let code = c.args.method.now.code.now in
    let taken = rw c.in-Some.is at c.in_ok-operands.ensures.taken in
    record {
      come = λ meaning is.
          leads_to headers (view_code code) c.args.count (choice_of meaning) c.in-To.pc c.in-Some.operands.items (stacked c.args.run.now.stack) (stacked c.take.new.self) (view_instructions c.args.rest.now) (view_instructions c.code_from.result.now)
          (run_state c.args.run.now) taken.0 taken.1 (choice_seen meaning _ (Gives (Some c.in-To.pc)) c.as_slice.result.now c.in-Some.operands.items is (c.in-To.ensures.leads headers code.class) c.as_slice.ensures.value) c.code_from.ensures.from;
    }

pub returns : goal.returns
returns c =
    let headers = c.args.method.now.headers.now in
    let code = c.args.method.now.code.now in
    let taken = rw c.in-Some.is at c.in_ok-operands.ensures.taken in
    record {
      come = λ meaning is.
          leads_is headers (view_code code) c.args.count (choice_of meaning) (Halts Stuck) c.in-Some.operands.items (stacked c.args.run.now.stack) (stacked c.take.new.self) (view_instructions c.args.rest.now) (run_state c.args.run.now) taken.0 taken.1
          (choice_seen meaning _ (Halts Stuck) c.as_slice.result.now c.in-Some.operands.items is (c.in-Stuck.ensures.leads headers code.class) c.as_slice.ensures.value);
    }
