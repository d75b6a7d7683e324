use Rattle.std.proofs.Common.{ap, sym}
use Rattle.dj_grammar.specs.Brackets.{at_opener, pair_opener}
use Rattle.dj_expressions.proofs.brackets.pair.Goals as goal

pub returns-in-Some : goal.returns-in-Some
returns-in-Some c = record { pair = rw (sym c.in-Some.ensures.opened) c.pair_opener.ensures.pair }

pub returns-in-None : goal.returns-in-None
returns-in-None c = record { pair = ap (at_opener pair_opener) c.in-None.ensures.opened }
