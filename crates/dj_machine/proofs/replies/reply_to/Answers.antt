use Rattle.dj_machine.proofs.replies.reply_to.Goals as goal

pub returns-in-CheckCast : goal.returns-in-CheckCast
returns-in-CheckCast c = record { replied = rw c.in-CheckCast.is (c.cast.ensures.cast c.args.class.now) }

pub returns-in-InstanceOf : goal.returns-in-InstanceOf
returns-in-InstanceOf c = record { replied = rw c.in-InstanceOf.is (c.instance_of.ensures.of c.args.class.now) }
