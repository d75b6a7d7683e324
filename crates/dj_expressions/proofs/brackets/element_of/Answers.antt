use Rattle.std.proofs.Common.{ap}
use Rattle.dj_grammar.specs.Readings.{Stands}
use Rattle.dj_expressions.specs.Views.{view_open}
use Rattle.dj_expressions.proofs.brackets.element_of.Goals as goal

pub returns-in-Ok : goal.returns-in-Ok
returns-in-Ok c = record { element = ap (λ value. Stands value (view_open c.args.outer)) c.in-Ok.ensures.element }
