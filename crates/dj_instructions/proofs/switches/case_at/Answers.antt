use Rattle.dj_instructions.proofs.SwitchReading.{case_read}
use Rattle.dj_instructions.proofs.switches.case_at.Goals as goal

pub returns : goal.returns
returns c =
    record { reads = case_read c.args.pc c.in_ok-key.key c.in_ok-offset.offset c.target.result c.cast_signed.result c.cast_signed-2.result c.args.bytes.now c.in_ok-key.rest.now c.in_ok-offset.rest.now c.in_ok-key.ensures.reads c.in_ok-offset.ensures.reads c.cast_signed.ensures c.cast_signed-2.ensures c.target.ensures.target }
