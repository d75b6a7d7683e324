use Rattle.dj_expressions.proofs.ValueLemmas.{called_by-field, called_by-other, called_by-this}
use Rattle.std.proofs.Common.{sym}
use Rattle.dj_expressions.proofs.brackets.called_by.Goals as goal

pub returns-in-Field : goal.returns-in-Field
returns-in-Field c = record { called = called_by-field c.args.value c.in-Field.object c.in-Field.name c.in-Field.is }

pub returns-in-This : goal.returns-in-This
returns-in-This c = record { called = called_by-this c.args.value c.in-This.is }

pub returns-in_default : goal.returns-in_default
returns-in_default c = record { called = sym (called_by-other c.args.value c.in_default.not-This c.in_default.not-Field) }
