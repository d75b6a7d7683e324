use Rattle.std.proofs.Common.{[], ap, ◌∙◌}
use Rattle.dj_syntax.specs.Trees.{Stm, view_exp, view_stms}
use Rattle.dj_rebuilding.specs.Pending.{emit}
use Rattle.dj_pending.specs.Assigned.{is_among}
use Rattle.dj_pending.specs.Stacks.{stacked}
use Rattle.dj_pending.specs.Spilling.{behind}
use Rattle.dj_member_trees.proofs.EffectLemmas.{view_set_element, element-put}
use Rattle.dj_member_trees.proofs.elements.put_element.Goals as goal

pub returns : goal.returns
returns c =
    let emitted = view_stms c.args.built.now.emitted in
    let n = c.args.built.now.next in
    let below = stacked c.args.built.now.stack in
    record {
      built = c.in_ok-done.ensures.emitted
          ∙ ap (λ (one : Stm). behind emitted (emit (is_among []) n below one)) (view_set_element c.args.put.array.exp c.args.put.index.exp c.args.put.new.exp)
          ∙ ap (behind emitted) (element-put n below (view_exp c.args.put.array.exp) (view_exp c.args.put.index.exp) (view_exp c.args.put.new.exp) c.args.put.array.quiet c.args.put.index.quiet c.args.put.new.quiet);
    }
