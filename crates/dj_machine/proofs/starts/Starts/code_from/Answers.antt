use Rattle.std.proofs.Common.{sym}
use Rattle.dj_machine.proofs.StartLemmas.{from_some}
use Rattle.dj_machine.proofs.starts.Starts.code_from.Goals as goal

pub returns-in-Some : goal.returns-in-Some
returns-in-Some c = record {
  from = from_some c.args.instructions.now c.args.self.now.places c.args.pc c.in-Some.place.now c.instructions_from.result.now c.requires.starts (sym c.in-Some.ensures.value) c.instructions_from.ensures.from;
}
