use Rattle.std.proofs.Common.{ap}
use Rattle.dj_names.specs.Types.{view_type}
use Rattle.dj_grammar.specs.Readings.{Sized}
use Rattle.dj_expressions.specs.Views.{view_open}
use Rattle.dj_expressions.proofs.brackets.sized_with.Goals as goal

pub returns-in-Ok : goal.returns-in-Ok
returns-in-Ok c = record { sized = ap (λ list. Sized (view_type c.args.kind) list c.args.more (view_open c.args.outer)) c.in-Ok.ensures.more }
