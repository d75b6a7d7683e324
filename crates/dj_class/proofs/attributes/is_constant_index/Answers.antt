use Rattle.dj_class.proofs.ConstantTexts.{unread_constant}
use Rattle.dj_class.proofs.attributes.is_constant_index.Goals as goal

pub returns-in-None : goal.returns-in-None
returns-in-None c = record { exact = unread_constant c.args.pool.now c.args.descriptor c.args.index c.in-None.ensures.read }
