use Rattle.std.proofs.Common.{Some, ◌∷◌, ap, ◌∙◌}
use Rattle.dj_names.specs.Types.{Null}
use Rattle.dj_syntax.specs.Trees.{view_stms}
use Rattle.dj_rebuilding.specs.Pending.{Kept, Nothing}
use Rattle.dj_pending.specs.Stacks.{stacked}
use Rattle.dj_pending.proofs.StepLemmas.{grown-behind}
use Rattle.dj_rebuild.proofs.advancing.push_null.Goals as goal

pub returns : goal.returns
returns c = record { pushed = ap Some c.in_ok-push.ensures.pushed ∙ grown-behind (view_stms c.args.built.now.emitted) c.args.built.now.next (Kept Null Nothing ∷ stacked c.args.built.now.stack) }
