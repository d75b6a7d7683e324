use Rattle.std.proofs.Common.{rules}
use Rattle.dj_static.proofs.ExpLemmas.{count_is}
use Rattle.dj_static.proofs.types.array_type.Goals as goal

pub returns : goal.returns
returns c = record { typed = rw (count_is c.args.sizes.now) (search rules) }
