use Rattle.std.proofs.Common.{ℕ, List, [], ap, ◌∙◌}
use Rattle.dj_syntax.specs.Trees.{Stm, SetStatic, view_exp, view_stms}
use Rattle.dj_rebuilding.specs.Pending.{emit}
use Rattle.dj_pending.specs.Assigned.{is_among}
use Rattle.dj_pending.specs.Stacks.{stacked}
use Rattle.dj_pending.specs.Spilling.{behind}
use Rattle.dj_member_trees.proofs.EffectLemmas.{view_set_static, static-put}
use Rattle.dj_member_trees.proofs.fields.put_static.Goals as goal

pub returns : goal.returns
returns c =
    let emitted = view_stms c.args.built.now.emitted in
    let n = c.args.built.now.next in
    let below = stacked c.args.built.now.stack in
    record {
      built = c.in_ok-done.ensures.emitted
          ∙ ap (λ (one : Stm). behind emitted (emit (is_among []) n below one)) (view_set_static c.in_ok-class.class c.in_ok-name.name c.args.new.exp)
          ∙ ap (λ (one : List ℕ). behind emitted (emit (is_among []) n below (SetStatic one c.in_ok-name.name (view_exp c.args.new.exp)))) c.in_ok-class.ensures.equal
          ∙ ap (λ (one : List ℕ). behind emitted (emit (is_among []) n below (SetStatic c.args.class.now one (view_exp c.args.new.exp)))) c.in_ok-name.ensures.equal
          ∙ ap (behind emitted) (static-put n below c.args.class.now c.args.name.now (view_exp c.args.new.exp) c.args.new.quiet);
    }
