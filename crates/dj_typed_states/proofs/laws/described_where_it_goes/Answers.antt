use Rattle.dj_tags.specs.Laxly.{Laxly}
use Rattle.dj_typed_states.proofs.Shaped.{shapes_kept}
use Rattle.dj_typed_states.proofs.Classed.{classes_kept}
use Rattle.dj_typed_states.proofs.Holding.{lax_shape, frame_goes}
use Rattle.dj_typed_states.proofs.laws.described_where_it_goes.Goals as goal

pub returns : goal.returns
returns c = record {
  goes = λ world code from to stack locals goes describes. frame_goes (shapes_kept (Laxly world) world code (lax_shape world)) code from to stack locals goes describes;
  classes = λ world headers code may rising from to stack locals goes describes. frame_goes (classes_kept world headers code may rising) code from to stack locals goes describes;
}
