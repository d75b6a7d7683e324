use Rattle.std.proofs.Common.{◌≡◌, [], take}
use Rattle.dj_pool.specs.Attributes.{contents}
use Rattle.dj_pool.proofs.attributes.has_attribute.Given as goal

abbrev pub invariant-loop-attribute : goal.invariant-loop-attribute
invariant-loop-attribute l = contents l.pool l.name (take l.attribute-index l.attributes) ≡ []
