use Rattle.std.proofs.Common.{ap, sym}
use Rattle.dj_syntax.specs.Trees.{view_exp}
use Rattle.dj_grammar.specs.Brackets.{at_opener, index_opener}
use Rattle.dj_expressions.proofs.brackets.index_value.Goals as goal

pub returns-in-None : goal.returns-in-None
returns-in-None c = record { closed = ap (at_opener (index_opener (view_exp c.args.value))) c.in-None.ensures.opened }

pub returns-in-Some : goal.returns-in-Some
returns-in-Some c = record { closed = rw (sym c.in-Some.ensures.opened) c.index_opener.ensures.closed }
