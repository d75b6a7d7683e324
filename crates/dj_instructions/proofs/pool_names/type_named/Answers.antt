use Rattle.std.specs.Option.{option_map}
use Rattle.dj_names.specs.Types.{view_type}
use Rattle.dj_instructions.proofs.PoolLookups.{array_or_nothing}
use Rattle.dj_instructions.proofs.pool_names.type_named.Goals as goal

pub returns-in_ok-array-in-None : goal.returns-in_ok-array-in-None
returns-in_ok-array-in-None c = record { named = array_or_nothing c.args.pool.now c.args.index (option_map view_type c.in_ok-array-in-None.array) (rw c.in-None.is at c.in_ok-class.ensures.class) c.in_ok-array-in-None.ensures.array }
