use Rattle.dj_checked.proofs.WholeLemmas.{has_none, has_one}
use Rattle.dj_known_world.proofs.known.has_header.Goals as goal

pub returns-in-None : goal.returns-in-None
returns-in-None c = record { header = has_none c.args.headers.now c.args.name.now c.in-None.ensures.place }

pub returns-in-Some : goal.returns-in-Some
returns-in-Some c = record { header = has_one c.args.headers.now c.args.name.now _ c.in-Some.ensures.place }
