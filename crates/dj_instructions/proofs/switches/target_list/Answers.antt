use Rattle.dj_instructions.specs.RawInstructions.{u4}
use Rattle.dj_instructions.specs.Reads.{target_of}
use Rattle.dj_instructions.proofs.SwitchReading.{made_more}
use Rattle.dj_instructions.proofs.switches.target_list.Goals as goal

pub loop-preserved : goal.loop-preserved
loop-preserved c = made_more u4 (target_of c.args.pc) c.loop.counter c.args.bytes.now c.loop.rest.now c.in_ok-to.after.now c.loop.found c.push.new.self c.in_ok-to.to c.loop.invariant c.in_ok-to.ensures.reads c.in_ok-push.ensures.ok
