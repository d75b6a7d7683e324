use Rattle.dj_pool.specs.PoolFormat.{text_at}
use Rattle.dj_pool.proofs.PoolTexts.{no_array, method_no_array, field_array}
use Rattle.dj_pool.proofs.texts.is_array_text.Goals as goal

pub returns-in-None : goal.returns-in-None
returns-in-None c = record { exact = no_array (text_at c.args.pool.now c.args.index) c.in-None.ensures.read }

pub returns-in-Some-Method : goal.returns-in-Some-Method
returns-in-Some-Method c =
    record { exact = method_no_array (text_at c.args.pool.now c.args.index) c.in-Some-Method.field-0.now c.in-Some-Method.field-0-0 c.in-Some-Method.field-0-1 c.in-Some-Method.field-0-is c.in-Some-Method.ensures.read }

pub returns-in-Some-Field : goal.returns-in-Some-Field
returns-in-Some-Field c =
    record { exact = field_array (text_at c.args.pool.now c.args.index) c.in-Some-Field.field-0.now c.in-Some-Field.kind c.is_array.result c.in-Some-Field.field-0-is c.in-Some-Field.ensures.read c.is_array.ensures.array }
