use Rattle.std.proofs.Common.{List, ap}
use Rattle.dj_syntax.specs.Trees.{Exp}
use Rattle.dj_grammar.specs.Frames.{Pending}
use Rattle.dj_grammar.specs.Readings.{Stands}
use Rattle.dj_expressions.proofs.brackets.stored.Goals as goal

pub returns : goal.returns
returns c = record { stored = ap (λ (stands : Exp × List Pending). Stands stands.0 stands.1) c.in_ok-value.ensures.opened }
