use Rattle.dj_expressions.proofs.readings.Reading.open_bracket.Goals as goal

pub returns-in-Named : goal.returns-in-Named
returns-in-Named c = record { opened = rw c.in-Named.is c.bracket_name.ensures.opened }

pub returns-in-Typed : goal.returns-in-Typed
returns-in-Typed c = record { opened = rw c.in-Typed.is c.open_more.ensures.opened }

pub returns-in-Sized : goal.returns-in-Sized
returns-in-Sized c = record { opened = rw c.in-Sized.is c.open_more-in-Sized.ensures.opened }

pub returns-in-Called : goal.returns-in-Called
returns-in-Called c = record { opened = rw c.in-Called.is c.bracket_call.ensures.opened }

pub returns-in-Stands : goal.returns-in-Stands
returns-in-Stands c = record { opened = rw c.in-Stands.is c.open_more-in-Stands.ensures.opened }
