use Rattle.std.proofs.Common.{ap}
use Rattle.dj_grammar.specs.Readings.{Called}
use Rattle.dj_expressions.specs.Views.{view_callee, view_open}
use Rattle.dj_expressions.proofs.brackets.called_with.Goals as goal

pub returns-in-Ok : goal.returns-in-Ok
returns-in-Ok c = record { called = ap (λ list. Called (view_callee c.args.callee) list (view_open c.args.outer)) c.in-Ok.ensures.more }
