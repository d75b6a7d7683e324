use Rattle.std.proofs.Common.{◌≡◌, [], take, codes}
use Rattle.dj_pool.specs.Attributes.{contents}
use Rattle.dj_stack_map.proofs.frames.first_table.Given as goal

abbrev pub invariant-loop-place : goal.invariant-loop-place
invariant-loop-place l = contents l.pool (codes "StackMapTable") (take l.place l.attributes) ≡ []
