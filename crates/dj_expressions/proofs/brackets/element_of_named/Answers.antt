use Rattle.std.proofs.Common.{sym}
use Rattle.dj_expressions.proofs.brackets.element_of_named.Goals as goal

pub returns-in-Ok : goal.returns-in-Ok
returns-in-Ok c = record { element = rw (sym c.in-Ok.ensures.value) c.element_of.ensures.element }
