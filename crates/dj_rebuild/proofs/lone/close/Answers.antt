use Rattle.std.proofs.Common.{Bool, sym, ap, ◌∙◌}
use Rattle.dj_names.specs.Types.{view_descriptor, result_of}
use Rattle.dj_instructions.specs.Instructions.{view_instructions}
use Rattle.dj_exits.specs.Exits.{emitted_by}
use Rattle.dj_pending.specs.Building.{view_built, as_built}
use Rattle.dj_rebuild.specs.Walking.{exit_built}
use Rattle.dj_rebuild.specs.declared.walking.Exit.{Exit}
use Rattle.dj_rebuild.proofs.Closing.{leaves-there}
use Rattle.dj_rebuild.proofs.lone.close.Goals as goal

pub returns-then-left : goal.returns-then-left
returns-then-left c = record {
  closed = λ ways names lone.
      leaves-there c.args.headers.now (result_of (view_descriptor c.args.descriptor.now)) ways lone (view_instructions c.args.instructions.now) c.in-Leaves.at (view_built c.args.built) names _
      (ap (λ (done : Bool). emitted_by (as_built done (view_built c.leave_at.new.built))) (sym c.if-left.true) ∙ c.in_ok-left-in-Leaves.ensures.left names)
      ∙ ap (λ (exit : Exit). exit_built ways (view_instructions c.args.instructions.now) exit (view_built c.args.built) names) (sym c.in-Leaves.is);
}

pub returns-else-left : goal.returns-else-left
returns-else-left c = record {
  closed = λ ways names lone.
      leaves-there c.args.headers.now (result_of (view_descriptor c.args.descriptor.now)) ways lone (view_instructions c.args.instructions.now) c.in-Leaves.at (view_built c.args.built) names _
      (ap (λ (done : Bool). emitted_by (as_built done (view_built c.leave_at.new.built))) (sym c.if-left.false) ∙ c.in_ok-left-in-Leaves.ensures.left names)
      ∙ ap (λ (exit : Exit). exit_built ways (view_instructions c.args.instructions.now) exit (view_built c.args.built) names) (sym c.in-Leaves.is);
}
