use Rattle.dj_pool.specs.PoolFormat.{text_at}
use Rattle.dj_pool.proofs.PoolTexts.{no_method}
use Rattle.dj_pool.proofs.texts.is_method_text.Goals as goal

pub returns-in-None : goal.returns-in-None
returns-in-None c = record { exact = no_method (text_at c.args.pool.now c.args.index) c.in-None.ensures.read }
