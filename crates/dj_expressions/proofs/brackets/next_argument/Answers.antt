use Rattle.std.proofs.Common.{ap, sym}
use Rattle.dj_syntax.specs.Trees.{view_exp}
use Rattle.dj_grammar.specs.Brackets.{at_opener, next_opener}
use Rattle.dj_expressions.proofs.brackets.next_argument.Goals as goal

pub returns-in-None : goal.returns-in-None
returns-in-None c = record { next = ap (at_opener (next_opener (view_exp c.args.end.value))) c.in-None.ensures.opened }

pub returns-in-Some : goal.returns-in-Some
returns-in-Some c = record { next = rw (sym c.in-Some.ensures.opened) c.next_opener.ensures.next }
