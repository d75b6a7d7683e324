use Rattle.std.proofs.Common.{drop}
use Rattle.dj_names.specs.Types.{view_descriptor, result_of}
use Rattle.dj_syntax.specs.Trees.{view_stms}
use Rattle.dj_instructions.specs.Instructions.{view_instruction, view_instructions}
use Rattle.dj_pending.specs.Stacks.{stacked}
use Rattle.dj_pending.specs.Building.{view_built}
use Rattle.dj_rebuild.proofs.Leaves.{left-at}
use Rattle.dj_rebuild.proofs.leaving.leave_at.Goals as goal

pub returns : goal.returns
returns c = record {
  left = λ names. left-at c.args.headers.now (result_of (view_descriptor c.args.descriptor.now)) names c.args.built.now.next (stacked c.args.built.now.stack) (drop c.args.at (view_instructions c.args.instructions.now))
      (view_instruction c.in-Some.instruction.now) (view_stms c.args.built.now.emitted) c.in_ok-done.done (view_built c.leave.new.built) c.in-Some.ensures.found c.in_ok-done.ensures.left;
}
