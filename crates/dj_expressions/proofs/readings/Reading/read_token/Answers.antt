use Rattle.std.proofs.Common.{true, false, sym}
use Rattle.dj_expressions.proofs.MadeLemmas.{view_null, view_this, view_truth}
use Rattle.dj_expressions.proofs.readings.Reading.read_token.Goals as goal

pub returns-in-Open : goal.returns-in-Open
returns-in-Open c = record { read = rw c.in-Open.is c.open.ensures.opened }

pub returns-in-Close : goal.returns-in-Close
returns-in-Close c = record { read = rw c.in-Close.is c.close.ensures.closed }

pub returns-in-OpenBracket : goal.returns-in-OpenBracket
returns-in-OpenBracket c = record { read = rw c.in-OpenBracket.is c.open_bracket.ensures.opened }

pub returns-in-CloseBracket : goal.returns-in-CloseBracket
returns-in-CloseBracket c = record { read = rw c.in-CloseBracket.is c.close_bracket.ensures.closed }

pub returns-in-Comma : goal.returns-in-Comma
returns-in-Comma c = record { read = rw c.in-Comma.is c.next.ensures.next }

pub returns-in-Dot : goal.returns-in-Dot
returns-in-Dot c = record { read = rw c.in-Dot.is c.dot.ensures.dot }

pub returns-in-Colon : goal.returns-in-Colon
returns-in-Colon c = record { read = rw c.in-Colon.is c.colon.ensures.colon }

pub returns-in-Question : goal.returns-in-Question
returns-in-Question c = record { read = rw c.in-Question.is c.ask.ensures.asks }

pub returns-in-Assigns : goal.returns-in-Assigns
returns-in-Assigns c = record { read = rw c.in-Assigns.is c.assigns.ensures.assigns }

pub returns-in-Bang : goal.returns-in-Bang
returns-in-Bang c = record { read = rw c.in-Bang.is c.wait.ensures.waits }

pub returns-in-Operator : goal.returns-in-Operator
returns-in-Operator c = record { read = rw c.in-Operator.is c.operate.ensures.operates }

pub returns-in-New : goal.returns-in-New
returns-in-New c = record { read = rw c.in-New.is c.wait-in-New.ensures.waits }

pub returns-in-Text : goal.returns-in-Text
returns-in-Text c = record { read = rw c.in-Text.is c.text.ensures.text }

pub returns-in-InstanceOf : goal.returns-in-InstanceOf
returns-in-InstanceOf c = record { read = rw c.in-InstanceOf.is c.test_type.ensures.tests }

pub returns-in-Class : goal.returns-in-Class
returns-in-Class c = record { read = rw c.in-Class.is c.class_literal.ensures.literal }

pub returns-in-Name : goal.returns-in-Name
returns-in-Name c = record { read = rw c.in-Name.is c.name.ensures.named }

pub returns-in-Number : goal.returns-in-Number
returns-in-Number c = record { read = rw (c.in-Number.is, sym c.literal_of.ensures.literal) c.stand.ensures.stands }

pub returns-in-True : goal.returns-in-True
returns-in-True c = record { read = rw c.in-True.is (rw (view_truth true) at c.stand-in-True.ensures.stands) }

pub returns-in-False : goal.returns-in-False
returns-in-False c = record { read = rw c.in-False.is (rw (view_truth false) at c.stand-in-False.ensures.stands) }

pub returns-in-Null : goal.returns-in-Null
returns-in-Null c = record { read = rw c.in-Null.is (rw view_null at c.stand-in-Null.ensures.stands) }

pub returns-in-This : goal.returns-in-This
returns-in-This c = record { read = rw c.in-This.is (rw view_this at c.stand-in-This.ensures.stands) }
