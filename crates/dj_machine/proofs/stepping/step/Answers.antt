use Rattle.std.proofs.Common.{refl, rules}
use Rattle.std.specs.Int.{w16}
use Rattle.std.proofs.lemmas.Int.{to_z-of_z}
use mir.Val.{SFits}
use Rattle.dj_instructions.specs.Instructions.{view_instruction, view_instructions}
use Rattle.dj_code.specs.MethodCode.{view_code}
use Rattle.dj_bytecode.specs.Meanings.{meaning_of}
use Rattle.dj_operands.specs.Stacks.{stacked}
use Rattle.dj_machine.specs.Runs.{run_state}
use Rattle.dj_machine.proofs.StepLemmas.{come_by}
use Rattle.dj_machine.proofs.stepping.step.Goals as goal

pub returns-in-Strict : goal.returns-in-Strict
returns-in-Strict c =
    let headers = c.args.method.now.headers.now in
    let class = c.args.method.now.code.now.class in
    let code = view_code c.args.method.now.code.now in
    let meaning = meaning_of headers class (view_instruction c.args.instruction.now) in
    let rest = view_instructions c.args.rest.now in
    record {
      come = come_by headers code c.before-in-Strict.result c.strict.new.run _ meaning rest (stacked c.args.run.now.stack) (run_state c.args.run.now) (c.in-Strict.ensures.family headers class)
          (c.before-in-Strict.ensures.before c.strict.new.run _ (c.strict.ensures.done meaning refl rest));
    }

pub returns-in-Calls : goal.returns-in-Calls
returns-in-Calls c =
    let headers = c.args.method.now.headers.now in
    let class = c.args.method.now.code.now.class in
    let code = view_code c.args.method.now.code.now in
    let meaning = meaning_of headers class (view_instruction c.args.instruction.now) in
    let rest = view_instructions c.args.rest.now in
    record {
      come = come_by headers code c.before-in-Calls.result c.called.new.run _ meaning rest (stacked c.args.run.now.stack) (run_state c.args.run.now) (c.in-Calls.ensures.family headers class)
          (c.before-in-Calls.ensures.before c.called.new.run _ (c.called.ensures.done meaning refl rest));
    }

pub returns-in-Moves : goal.returns-in-Moves
returns-in-Moves c =
    let headers = c.args.method.now.headers.now in
    let class = c.args.method.now.code.now.class in
    let code = view_code c.args.method.now.code.now in
    let meaning = meaning_of headers class (view_instruction c.args.instruction.now) in
    let rest = view_instructions c.args.rest.now in
    record {
      come = come_by headers code c.before-in-Moves.result c.moved.new.run _ meaning rest (stacked c.args.run.now.stack) (run_state c.args.run.now) (c.in-Moves.ensures.family headers class)
          (c.before-in-Moves.ensures.before c.moved.new.run _ (c.moved.ensures.done meaning refl rest));
    }

pub returns-in-Loads : goal.returns-in-Loads
returns-in-Loads c =
    let headers = c.args.method.now.headers.now in
    let class = c.args.method.now.code.now.class in
    let code = view_code c.args.method.now.code.now in
    let meaning = meaning_of headers class (view_instruction c.args.instruction.now) in
    let rest = view_instructions c.args.rest.now in
    record {
      come = come_by headers code c.before-in-Loads.result c.load.new.run _ meaning rest (stacked c.args.run.now.stack) (run_state c.args.run.now) (c.in-Loads.ensures.family headers class)
          (c.before-in-Loads.ensures.before c.load.new.run _ (c.load.ensures.done headers code rest));
    }

pub returns-in-Stores : goal.returns-in-Stores
returns-in-Stores c =
    let headers = c.args.method.now.headers.now in
    let class = c.args.method.now.code.now.class in
    let code = view_code c.args.method.now.code.now in
    let meaning = meaning_of headers class (view_instruction c.args.instruction.now) in
    let rest = view_instructions c.args.rest.now in
    record {
      come = come_by headers code c.before-in-Stores.result c.store.new.run _ meaning rest (stacked c.args.run.now.stack) (run_state c.args.run.now) (c.in-Stores.ensures.family headers class)
          (c.before-in-Stores.ensures.before c.store.new.run _ (c.store.ensures.done headers code rest));
    }

pub returns-in-Counts : goal.returns-in-Counts
returns-in-Counts c =
    let headers = c.args.method.now.headers.now in
    let class = c.args.method.now.code.now.class in
    let code = view_code c.args.method.now.code.now in
    let meaning = meaning_of headers class (view_instruction c.args.instruction.now) in
    let rest = view_instructions c.args.rest.now in
    let by : SFits w16 c.in-Counts.by = search rules in
    record {
      come = come_by headers code c.before-in-Counts.result c.count.new.run _ meaning rest (stacked c.args.run.now.stack) (run_state c.args.run.now) (c.in-Counts.ensures.family headers class)
          (c.before-in-Counts.ensures.before c.count.new.run _ (simp to_z-of_z at (c.count.ensures.done headers code rest)));
    }

pub returns-in-Leads : goal.returns-in-Leads
returns-in-Leads c =
    let headers = c.args.method.now.headers.now in
    let class = c.args.method.now.code.now.class in
    let code = view_code c.args.method.now.code.now in
    let meaning = meaning_of headers class (view_instruction c.args.instruction.now) in
    let rest = view_instructions c.args.rest.now in
    record { come = come_by headers code c.lead.result c.lead.new.run _ meaning rest (stacked c.args.run.now.stack) (run_state c.args.run.now) (c.in-Leads.ensures.family headers class) (c.lead.ensures.come meaning refl) }

pub returns-in-Returns : goal.returns-in-Returns
returns-in-Returns c =
    let headers = c.args.method.now.headers.now in
    let class = c.args.method.now.code.now.class in
    let code = view_code c.args.method.now.code.now in
    let meaning = meaning_of headers class (view_instruction c.args.instruction.now) in
    let rest = view_instructions c.args.rest.now in
    record { come = come_by headers code c.returned.result c.returned.new.run _ meaning rest (stacked c.args.run.now.stack) (run_state c.args.run.now) (c.in-Returns.ensures.family headers class) (c.returned.ensures.come headers rest) }
