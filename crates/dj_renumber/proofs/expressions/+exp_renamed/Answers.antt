use Rattle.dj_renumber.specs.Views.{names_of}
use Rattle.dj_renumber.proofs.Lists.{exps_made}
use Rattle.dj_renumber.proofs.expressions.+exp_renamed.Goals as goal

pub exps_renamed-returns : goal.exps_renamed-returns
exps_renamed-returns t c = record { renamed = exps_made (names_of c.args.names.now) c.loop-exp.made c.args.list.now c.loop-exp.exp-index c.loop-exp-test.false c.loop-exp.invariant }
