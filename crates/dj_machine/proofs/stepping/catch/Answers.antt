use Rattle.std.proofs.Common.{◌∙◌, sym, ap, rules}
use Rattle.dj_values.specs.Views.{view_reference}
use Rattle.dj_instructions.specs.Instructions.{view_instructions}
use Rattle.dj_code.specs.MethodCode.{view_code}
use Rattle.dj_bytecode.specs.Machine.{handler_for}
use Rattle.dj_operands.specs.Stacks.{stacked}
use Rattle.dj_machine.specs.Runs.{run_state}
use Rattle.dj_machine.proofs.StepLemmas.{caught_by, uncaught}
use Rattle.dj_machine.proofs.stepping.catch.Goals as goal

pub returns-in_ok-push-in-Some : goal.returns-in_ok-push-in-Some
returns-in_ok-push-in-Some c =
    let headers = c.args.method.now.headers.now in
    let reference = view_reference c.args.reference in
    record {
      caught = caught_by headers (view_code c.args.method.now.code.now) c.args.pc c.in-Some.target reference (run_state c.args.run.now) (view_instructions c.code_from.result.now) (stacked c.push.new.self)
          (sym (c.in-Some.ensures.target ∙ ap (handler_for headers c.args.pc reference) c.as_slice-handlers.ensures)) c.code_from.ensures.from (search rules);
    }

pub returns-in-None : goal.returns-in-None
returns-in-None c =
    let headers = c.args.method.now.headers.now in
    let reference = view_reference c.args.reference in
    record { caught = uncaught headers (view_code c.args.method.now.code.now) c.args.pc reference (run_state c.args.run.now) (sym (c.in-None.ensures.target ∙ ap (handler_for headers c.args.pc reference) c.as_slice-handlers.ensures)) }
