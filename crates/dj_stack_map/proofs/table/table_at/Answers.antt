use Rattle.dj_instructions.specs.Instructions.{view_instructions}
use Rattle.dj_frames.specs.Frames.{view_tags}
use Rattle.dj_stack_map.proofs.TableReading.{table_read}
use Rattle.dj_stack_map.proofs.table.table_at.Goals as goal

pub returns : goal.returns
returns c =
    record { reads = table_read c.args.pool.now (view_instructions c.args.instructions.now) (view_tags c.args.entry) c.in_ok-count.count c.args.bytes.now c.in_ok-count.rest.now c.in_ok-listed.rest.now c.in_ok-listed.listed c.in_ok-count.ensures.reads c.in_ok-listed.ensures.reads }
