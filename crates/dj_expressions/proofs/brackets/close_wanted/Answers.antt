use Rattle.std.proofs.Common.{ap, ◌∙◌}
use Rattle.dj_grammar.specs.Brackets.{at_opener, no_arguments}
use Rattle.dj_expressions.proofs.brackets.close_wanted.Goals as goal

pub returns-in-Some : goal.returns-in-Some
returns-in-Some c = record { closed = c.no_arguments.ensures.closed ∙ ap (at_opener no_arguments) c.in-Some.ensures.opened }

pub returns-in-None : goal.returns-in-None
returns-in-None c = record { closed = ap (at_opener no_arguments) c.in-None.ensures.opened }
