use Rattle.std.proofs.Common.{refl}
use Rattle.dj_pool.specs.PoolFormat.{text_at}
use Rattle.dj_pool.proofs.PoolTexts.{some_method}
use Rattle.dj_class.proofs.members.method_descriptor_of.Goals as goal

pub returns-clause-none : goal.returns-clause-none
returns-clause-none c = some_method (text_at c.args.pool.now c.args.index) c.descriptor_at.result c.descriptor_at.ensures.read (c.if-not-is_method_text.ensures.exact.0 refl)
