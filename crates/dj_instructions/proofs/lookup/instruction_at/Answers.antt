use Rattle.dj_instructions.proofs.PlaceLemmas.{at_place, at_no_place}
use Rattle.dj_instructions.proofs.lookup.instruction_at.Goals as goal

pub returns-in-Ok : goal.returns-in-Ok
returns-in-Ok c = record { found = at_place c.args.instructions.now c.args.pc c.in-Ok.place c.index-instructions-place.result c.requires.rising c.in-Ok.ensures.found }

pub returns-in-Err : goal.returns-in-Err
returns-in-Err c = record { found = at_no_place c.args.instructions.now c.args.pc c.in-Err.ensures.absent }
