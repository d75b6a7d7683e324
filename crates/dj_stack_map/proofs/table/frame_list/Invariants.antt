use Rattle.std.proofs.Common.{length}
use Rattle.dj_instructions.specs.Instructions.{view_instructions}
use Rattle.dj_frames.specs.Frames.{view_tags}
use Rattle.dj_stack_map.specs.StackMap.{frame_behind, spell_frame}
use Rattle.dj_stack_map.specs.Reading.{IsListedTo}
use Rattle.dj_stack_map.proofs.Turns.{IsInTurn}
use Rattle.dj_stack_map.proofs.table.frame_list.Given as goal

abbrev pub invariant-loop : goal.invariant-loop
invariant-loop l = IsInTurn spell_frame (frame_behind l.pool (view_instructions l.instructions) (length (view_tags l.fn.entry))) (IsListedTo l.pool (view_instructions l.instructions) (view_tags l.fn.entry)) l.count l.bytes l.listed l.rest l.counter
