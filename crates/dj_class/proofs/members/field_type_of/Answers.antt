use Rattle.dj_names.specs.Types.{Field}
use Rattle.dj_pool.specs.PoolFormat.{text_at, IsFieldText}
use Rattle.dj_pool.proofs.PoolTexts.{no_text, method_is_no_field}
use Rattle.dj_class.proofs.members.field_type_of.Goals as goal

pub returns-in-Some-Method-clause-none : goal.returns-in-Some-Method-clause-none
returns-in-Some-Method-clause-none c =
    method_is_no_field (text_at c.args.pool.now c.args.index) c.in-Some-Method.field-0.now c.in-Some-Method.field-0-0 c.in-Some-Method.field-0-1 c.in-Some-Method.field-0-is c.in-Some-Method.ensures.read

pub returns-in-None-clause-none : goal.returns-in-None-clause-none
returns-in-None-clause-none c = no_text (text_at c.args.pool.now c.args.index) IsFieldText (λ these h. (Field h.type, h.spelled)) c.in-None.ensures.read
