use Rattle.dj_member_cause.specs.declared.judging.Judgement.TheVariants.{Has}
use Rattle.dj_member_cause.proofs.TellingLemmas.{recalled}
use Rattle.dj_member_cause.proofs.known.recall.Goals as goal

pub returns-in-Some : goal.returns-in-Some
returns-in-Some c = record {
  judged = recalled c.args.classes.now c.args.typed.now c.args.known.now.told c.args.place c.requires.known c.as_slice.result.now c.as_slice.ensures c.args.found c.in-Some.earlier c.in-Some.is c.requires.same c.requires.framed Has;
}
