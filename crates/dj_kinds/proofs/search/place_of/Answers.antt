use Rattle.dj_kinds.proofs.OwnLemmas.{one_place}
use Rattle.dj_kinds.proofs.search.place_of.Goals as goal

pub returns-clause-one : goal.returns-clause-one
returns-clause-one c = one_place c.args.headers.now c.args.class.now c.as_slice.ensures.distinct
