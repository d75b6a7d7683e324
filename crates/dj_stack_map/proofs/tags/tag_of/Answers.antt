use Rattle.std.proofs.Common.{refl}
use Rattle.dj_names.specs.Types.{view_type}
use Rattle.dj_stack_map.specs.StackMap.{object}
use Rattle.dj_stack_map.proofs.tags.tag_of.Goals as goal

pub returns-in-Some : goal.returns-in-Some
returns-in-Some c = record { found = object (view_type c.in-Some.class) c.in-7.is (rw c.in-Some.is at c.in_ok-class-in-7.ensures.named) refl }
