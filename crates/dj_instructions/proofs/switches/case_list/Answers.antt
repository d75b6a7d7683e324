use Rattle.dj_instructions.specs.RawInstructions.{pair}
use Rattle.dj_instructions.specs.Reads.{case_of}
use Rattle.dj_instructions.proofs.SwitchReading.{made_more}
use Rattle.dj_instructions.proofs.switches.case_list.Goals as goal

pub loop-preserved : goal.loop-preserved
loop-preserved c = made_more pair (case_of c.args.pc) c.loop.counter c.args.bytes.now c.loop.rest.now c.in_ok-case.after.now c.loop.found c.push.new.self c.in_ok-case.case c.loop.invariant c.in_ok-case.ensures.reads c.in_ok-push.ensures.ok
