use Rattle.dj_causes.proofs.FieldCauseLemmas.{repeated_some, repeated_none}
use Rattle.dj_causes.proofs.tables.is_repeated.Goals as goal

pub returns-in-Some : goal.returns-in-Some
returns-in-Some c = record { repeated = repeated_some c.args.names.now c.args.at _ c.requires.within c.in-Some.ensures.last }

pub returns-in-None : goal.returns-in-None
returns-in-None c = record { repeated = repeated_none c.args.names.now c.args.at c.requires.within c.in-None.ensures.last }
