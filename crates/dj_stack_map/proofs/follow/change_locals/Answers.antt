use Rattle.dj_stack_map.proofs.TableReading.{chopped_tags}
use Rattle.dj_stack_map.proofs.follow.change_locals.Goals as goal

pub returns-in-Chops-clause-changed : goal.returns-in-Chops-clause-changed
returns-in-Chops-clause-changed c = rw c.in-Chops.is (chopped_tags c.args.locals.now c.chop.new.self c.in-Chops.count c.chop.result c.chop.ensures.fewer)
