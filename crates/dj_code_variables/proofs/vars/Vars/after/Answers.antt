use Rattle.dj_code_variables.proofs.Finding.{absent}
use Rattle.dj_code_variables.proofs.vars.Vars.after.Goals as goal

pub returns-in-None : goal.returns-in-None
returns-in-None c = record { variable = absent c.args.self.now.after c.args.pc c.in-None.ensures.value }
