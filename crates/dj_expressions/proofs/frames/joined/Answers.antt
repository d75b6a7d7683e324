use Rattle.dj_expressions.proofs.frames.joined.Goals as goal

pub returns-in-Sign : goal.returns-in-Sign
returns-in-Sign c = record { joined = rw c.in-Sign.is c.signed.ensures.signed }

pub returns-in-Negated : goal.returns-in-Negated
returns-in-Negated c = record { joined = rw c.in-Negated.is c.minus_before.ensures.minus }

pub returns-in-Inverted : goal.returns-in-Inverted
returns-in-Inverted c = record { joined = rw c.in-Inverted.is c.not_before.ensures.inverted }

pub returns-in-Enclosed : goal.returns-in-Enclosed
returns-in-Enclosed c = record { joined = rw c.in-Enclosed.is c.converted_by.ensures.converted }

pub returns-in-Converted : goal.returns-in-Converted
returns-in-Converted c = record { joined = rw c.in-Converted.is c.converted.ensures.converted }

pub returns-in-LeftOf : goal.returns-in-LeftOf
returns-in-LeftOf c = record { joined = rw c.in-LeftOf.is c.between.ensures.between }

pub returns-in-Answered : goal.returns-in-Answered
returns-in-Answered c = record { joined = rw c.in-Answered.is c.choice.ensures.choice }

pub returns-in-Assigned : goal.returns-in-Assigned
returns-in-Assigned c = record { joined = rw c.in-Assigned.is c.assigned_to.ensures.assigned }
