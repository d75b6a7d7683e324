use Rattle.std.proofs.Common.{length, arith, sym}
use Rattle.std.proofs.lemmas.List.{take_rest, drop_all}
use Rattle.dj_instructions.specs.declared.instruction.Instruction.TheVariants as instruction
use Rattle.dj_starts.proofs.PcLemmas.{from_place, from_no_place}
use Rattle.dj_starts.proofs.ways.from_pc.Goals as goal

pub returns-in-Ok : goal.returns-in-Ok
returns-in-Ok c = record { from = rw (take_rest c.args.instructions.now c.in-Ok.place) (from_place c.args.instructions.now c.args.pc c.in-Ok.place (0, instruction.Nop) c.requires.rising c.in-Ok.ensures.found) }

pub returns-in-Err : goal.returns-in-Err
returns-in-Err c = record { from = rw (take_rest c.args.instructions.now (length c.args.instructions.now), drop_all (length c.args.instructions.now) c.args.instructions.now (omega arith)) (sym (from_no_place c.args.instructions.now c.args.pc c.in-Err.ensures.absent)) }
