use Rattle.dj_instructions.proofs.PoolLookups.{unread_array, method_array, flat_array}
use Rattle.dj_instructions.proofs.pool_names.array_at.Goals as goal

pub returns-else-has_dimensions : goal.returns-else-has_dimensions
returns-else-has_dimensions c =
    record { array = flat_array c.args.pool.now c.args.index c.in-Some-Field.field-0.now c.in-Some-Field.kind c.has_dimensions.result c.in-Some-Field.field-0-is c.in-Some-Field.ensures.read c.has_dimensions.ensures.dimensions c.if-has_dimensions.false }

pub returns-in-Some-Method : goal.returns-in-Some-Method
returns-in-Some-Method c = record { array = method_array c.args.pool.now c.args.index c.in-Some-Method.field-0.now c.in-Some-Method.field-0-0 c.in-Some-Method.field-0-1 c.in-Some-Method.field-0-is c.in-Some-Method.ensures.read }

pub returns-in-None : goal.returns-in-None
returns-in-None c = record { array = unread_array c.args.pool.now c.args.index c.in-None.ensures.read }
