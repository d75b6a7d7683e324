use Rattle.dj_tags.specs.Laxly.{Laxly}
use Rattle.dj_typed_states.proofs.Shaped.{shapes_kept}
use Rattle.dj_typed_states.proofs.Classed.{classes_kept}
use Rattle.dj_typed_states.proofs.Holding.{lax_shape}
use Rattle.dj_typed_states.proofs.laws.facts_are_kept.Goals as goal

pub returns : goal.returns
returns c = record { shapes = λ world headers code. shapes_kept (Laxly world) headers code (lax_shape world); classes = classes_kept }
