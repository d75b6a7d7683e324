use Rattle.std.proofs.Common.{◌≡◌, ◌++◌, flat_map, take}
use Rattle.dj_pool.specs.SharedParts.{attribute}
use Rattle.dj_write.proofs.members.put_attributes.Given as goal

abbrev pub invariant-loop-attribute : goal.invariant-loop-attribute
invariant-loop-attribute l = l.out.items ≡ l.initial.out.items ++ flat_map attribute.spell (take l.attribute-index l.attributes)
