use Rattle.std.specs.List.{AllZip}
use Rattle.dj_layout.specs.Layout.{SpellsSome}
use Rattle.dj_layout.specs.Parts.{times}
use Rattle.dj_instructions.specs.Instructions.{view_instructions}
use Rattle.dj_frames.specs.Frames.{view_tags}
use Rattle.dj_stack_map.specs.StackMap.{IsTagOf, tag}
use Rattle.dj_stack_map.proofs.tags.tag_list.Given as goal

abbrev pub invariant-loop : goal.invariant-loop
invariant-loop l = SpellsSome (times l.counter (tag l.pool (view_instructions l.instructions))) (AllZip (IsTagOf l.pool (view_instructions l.instructions))) l.bytes (view_tags l.found) l.rest
