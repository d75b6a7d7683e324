use Rattle.std.proofs.Common.{◌∷◌, Some, ap, ◌∙◌}
use Rattle.dj_names.specs.declared.types.JType as code
use Rattle.dj_names.specs.Types.{Of, view_type}
use Rattle.dj_syntax.specs.Trees.{Cast, view_stms}
use Rattle.dj_rebuilding.specs.Pending.{Whole, grown}
use Rattle.dj_pending.specs.Trees.{view_tree}
use Rattle.dj_pending.specs.Stacks.{stacked}
use Rattle.dj_pending.specs.Building.{view_built}
use Rattle.dj_pending.proofs.NumberLemmas.{goes-on, pushed-as}
use Rattle.dj_member_trees.specs.Fitting.{taken_by, cast_operand}
use Rattle.dj_member_trees.proofs.classes.check_cast.Goals as goal

pub returns : goal.returns
returns c =
    let emitted = view_stms c.args.built.now.emitted in
    let n = c.args.built.now.next in
    let type = view_type c.args.to.now in
    let below = stacked c.take_cast.new.stack in
    let object = view_tree c.in-Some.object in
    record {
      built = goes-on emitted (taken_by (cast_operand c.args.headers.now type) (stacked c.args.built.now.stack)) (λ found. grown n (Whole (Of type) (Cast type found.0) ∷ found.1)) (object, below) (Some (view_built c.push.new.self))
          (rw c.in-Some.is at c.in_ok-object.ensures.taken)
          (pushed-as emitted n below (Of (view_type c.in_ok-copy.field-0)) (Of type) (view_tree c.in_ok-tree.tree) (Cast type object) (view_built c.push.new.self) (ap (λ (one : code.JType). Of (view_type one)) c.in_ok-copy.ensures.equal) (c.in_ok-tree.ensures.tree ∙ ap (λ (one : code.JType). Cast (view_type one) object) c.in_ok-kind.ensures.equal) c.in_ok-push.ensures.pushed);
    }
