use Rattle.dj_expressions.proofs.MadeLemmas.{called-above, called-class, called-creation, called-object}
use Rattle.dj_expressions.proofs.frames.called_with_all.Goals as goal

pub returns-in-OfObject : goal.returns-in-OfObject
returns-in-OfObject c = record { called = called-object c.args.callee c.args.arguments c.in-OfObject.object c.in-OfObject.name c.in-OfObject.is }

pub returns-in-OfClass : goal.returns-in-OfClass
returns-in-OfClass c = record { called = called-class c.args.callee c.args.arguments c.in-OfClass.class c.in-OfClass.name c.in-OfClass.is }

pub returns-in-Above : goal.returns-in-Above
returns-in-Above c = record { called = called-above c.args.callee c.args.arguments c.in-Above.above c.in-Above.name c.in-Above.is }

pub returns-in-Creation : goal.returns-in-Creation
returns-in-Creation c = record { called = called-creation c.args.callee c.args.arguments c.in-Creation.class c.in-Creation.is }
