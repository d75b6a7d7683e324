use Rattle.std.proofs.Common.{◌∷◌, Some, ap}
use Rattle.dj_names.specs.Types.{JType, Of, Boolean, view_type}
use Rattle.dj_syntax.specs.Trees.{InstanceOf, view_stms}
use Rattle.dj_rebuilding.specs.Pending.{Whole, grown}
use Rattle.dj_pending.specs.Trees.{view_tree}
use Rattle.dj_pending.specs.Stacks.{stacked}
use Rattle.dj_pending.specs.Building.{view_built}
use Rattle.dj_pending.proofs.NumberLemmas.{goes-on, pushed-as}
use Rattle.dj_member_trees.specs.Fitting.{taken_by, test_operand}
use Rattle.dj_member_trees.proofs.classes.test_instance.Goals as goal

pub returns : goal.returns
returns c =
    let emitted = view_stms c.args.built.now.emitted in
    let n = c.args.built.now.next in
    let type = view_type c.args.to.now in
    let below = stacked c.take_tested.new.stack in
    let object = view_tree c.in-Some.object in
    record {
      built = goes-on emitted (taken_by (test_operand c.args.headers.now type) (stacked c.args.built.now.stack)) (λ found. grown n (Whole (Of Boolean) (InstanceOf found.0 type) ∷ found.1)) (object, below) (Some (view_built c.push.new.self))
          (rw c.in-Some.is at c.in_ok-object.ensures.taken)
          (pushed-as emitted n below (Of (view_type c.boolean_type-kind.result)) (Of Boolean) (view_tree c.in_ok-tree.tree) (InstanceOf object type) (view_built c.push.new.self) (ap (λ (one : JType). Of one) c.boolean_type-kind.ensures.kind) c.in_ok-tree.ensures.tree c.in_ok-push.ensures.pushed);
    }
