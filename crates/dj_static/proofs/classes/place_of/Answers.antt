use Rattle.dj_static.proofs.WalkLemmas.{place_is}
use Rattle.dj_static.proofs.classes.place_of.Goals as goal

pub returns : goal.returns
returns c = record { place = place_is c.args.headers.now c.args.class.now c.place.result c.as_slice.ensures.distinct c.place.ensures.place }
