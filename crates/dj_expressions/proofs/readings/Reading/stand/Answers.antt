use Rattle.std.proofs.Common.{ap, ◌∙◌}
use Rattle.dj_syntax.specs.Trees.{view_exp}
use Rattle.dj_grammar.specs.Steps.{stand}
use Rattle.dj_expressions.proofs.readings.Reading.stand.Goals as goal

pub returns-in-Ok : goal.returns-in-Ok
returns-in-Ok c = record { stands = c.stand_in.ensures.stands ∙ ap (stand (view_exp c.args.value)) c.in-Ok.ensures.wanted }
