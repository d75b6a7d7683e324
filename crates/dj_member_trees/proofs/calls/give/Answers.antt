use Rattle.std.proofs.Common.{[], refl, ap, ◌∙◌}
use Rattle.dj_names.specs.declared.types.JType as code
use Rattle.dj_names.specs.Types.{Of, view_type}
use Rattle.dj_syntax.specs.Trees.{Stm, view_exp, view_stms}
use Rattle.dj_rebuilding.specs.Pending.{emit}
use Rattle.dj_pending.specs.Trees.{view_tree}
use Rattle.dj_pending.specs.Assigned.{is_among}
use Rattle.dj_pending.specs.Stacks.{stacked}
use Rattle.dj_pending.specs.Building.{view_built}
use Rattle.dj_pending.specs.Spilling.{behind}
use Rattle.dj_pending.proofs.NumberLemmas.{pushed-as}
use Rattle.dj_member_trees.proofs.EffectLemmas.{view_run, run-put}
use Rattle.dj_member_trees.proofs.calls.give.Goals as goal

pub returns-in_ok-push-in-Some : goal.returns-in_ok-push-in-Some
returns-in_ok-push-in-Some c = record {
  built = rw c.in-Some.is (pushed-as (view_stms c.args.built.now.emitted) c.args.built.now.next (stacked c.args.built.now.stack) (Of (view_type c.in_ok-copy-in-Some.field-0)) (Of (view_type c.in-Some.kind.now)) (view_tree c.args.tree) (view_tree c.args.tree) (view_built c.push.new.self)
      (ap (λ (one : code.JType). Of (view_type one)) c.in_ok-copy-in-Some.ensures.equal) refl c.in_ok-push-in-Some.ensures.pushed);
}

pub returns-in_ok-done-in-None : goal.returns-in_ok-done-in-None
returns-in_ok-done-in-None c =
    let emitted = view_stms c.args.built.now.emitted in
    let n = c.args.built.now.next in
    let below = stacked c.args.built.now.stack in
    record {
      built = rw c.in-None.is (c.in_ok-done-in-None.ensures.emitted ∙ ap (λ (one : Stm). behind emitted (emit (is_among []) n below one)) (view_run c.args.tree.exp)
          ∙ ap (behind emitted) (run-put n below (view_exp c.args.tree.exp) c.requires.call c.args.tree.quiet));
    }
