use Rattle.dj_expressions.specs.declared.frames.Joint.TheVariants as joints
use Rattle.dj_expressions.specs.declared.frames.Pending.TheVariants as pendings
use Rattle.dj_expressions.proofs.OpenLemmas.{seen_more}
use Rattle.dj_expressions.proofs.steps.begin_name_behind_minus.Goals as goal

pub returns-in-Ok : goal.returns-in-Ok
returns-in-Ok c =
    let pushed = seen_more c.args.pending c.push.new.self (pendings.Joins joints.Negated) c.in-Ok.ensures.ok in
    record { begun = rw pushed at c.begin_name.ensures.begun }
