use Rattle.std.proofs.Common.{Some, ap}
use Rattle.dj_expressions.specs.Views.{view_open}
use Rattle.dj_expressions.proofs.readings.Reading.standing.Goals as goal

pub returns-in_ok-named_value-in-Named : goal.returns-in_ok-named_value-in-Named
returns-in_ok-named_value-in-Named c = record { standing = rw c.in-Named.is (ap Some c.in_ok-named_value-in-Named.ensures.value) }

pub returns-in-Typed : goal.returns-in-Typed
returns-in-Typed c = record { standing = rw c.in-Typed.is c.typed_value.ensures.value }

pub returns-in_ok-value-in-Sized : goal.returns-in_ok-value-in-Sized
returns-in_ok-value-in-Sized c = record { standing = rw c.in-Sized.is (ap (λ value. Some (value, view_open c.in-Sized.pending)) c.in_ok-value-in-Sized.ensures.made) }

pub returns-in_ok-value-in-Called : goal.returns-in_ok-value-in-Called
returns-in_ok-value-in-Called c = record { standing = rw c.in-Called.is (ap (λ value. Some (value, view_open c.in-Called.pending)) c.in_ok-value-in-Called.ensures.called) }
