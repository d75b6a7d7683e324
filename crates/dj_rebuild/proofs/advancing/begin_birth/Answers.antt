use Rattle.std.proofs.Common.{Option, Some, ◌∷◌, ap, ◌∙◌}
use Rattle.dj_names.specs.Headers.{Name}
use Rattle.dj_syntax.specs.Trees.{view_stms}
use Rattle.dj_rebuilding.specs.Pending.{Built, Born}
use Rattle.dj_pending.specs.Stacks.{stacked}
use Rattle.dj_pending.proofs.StepLemmas.{grown-behind}
use Rattle.dj_rebuild.proofs.advancing.begin_birth.Goals as goal

pub returns : goal.returns
returns c =
    let with_class : Name → Option Built = λ class. Some (record { emitted = view_stms c.args.built.now.emitted; stack = Born class ∷ stacked c.args.built.now.stack; next = c.args.built.now.next }) in
    record {
      begun = ap Some c.in_ok-push.ensures.pushed ∙ ap with_class c.in_ok-class.ensures.equal
          ∙ grown-behind (view_stms c.args.built.now.emitted) c.args.built.now.next (Born c.args.class.now ∷ stacked c.args.built.now.stack);
    }
