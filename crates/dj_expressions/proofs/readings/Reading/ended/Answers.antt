use Rattle.std.proofs.Common.{List, ap, ◌∙◌}
use Rattle.std.specs.Prelude.{option_map}
use Rattle.dj_syntax.specs.Trees.{Exp}
use Rattle.dj_grammar.specs.Frames.{Pending, collapsed}
use Rattle.dj_expressions.proofs.readings.Reading.ended.Goals as goal

pub returns : goal.returns
returns c = record { ended = c.in_ok-end.ensures.collapsed ∙ ap (option_map (λ (stands : Exp × List Pending). collapsed stands.0 stands.1)) c.in_ok-stands.ensures.standing }
