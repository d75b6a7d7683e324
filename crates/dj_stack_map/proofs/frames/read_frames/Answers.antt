use Rattle.std.proofs.Common.{codes}
use Rattle.dj_pool.specs.Attributes.{contents}
use Rattle.dj_class.specs.Views.{view_method}
use Rattle.dj_instructions.specs.Instructions.{view_instructions}
use Rattle.dj_frames.specs.Frames.{entry_values}
use Rattle.dj_stack_map.proofs.TableIsExact.{gives_frames, gives_fault}
use Rattle.dj_stack_map.proofs.frames.read_frames.Goals as goal

pub returns-clause-value : goal.returns-clause-value
returns-clause-value c =
    gives_frames c.args.class.now.pool (view_instructions c.args.instructions.now) (entry_values c.args.class.now.this_class (view_method c.args.method.now)) (contents c.args.class.now.pool (codes "StackMapTable") c.args.attributes.now) c.frames_of.result c.frames_of.ensures.reads

pub returns-clause-fault : goal.returns-clause-fault
returns-clause-fault c =
    gives_fault c.args.class.now.pool (view_instructions c.args.instructions.now) (entry_values c.args.class.now.this_class (view_method c.args.method.now)) (contents c.args.class.now.pool (codes "StackMapTable") c.args.attributes.now) c.frames_of.result c.frames_of.ensures.reads
