use Rattle.std.proofs.Common.{false, ◌∷◌, Some, ap}
use Rattle.dj_names.specs.declared.types.JType as code
use Rattle.dj_names.specs.Types.{Of, view_type}
use Rattle.dj_syntax.specs.Trees.{Field, view_stms}
use Rattle.dj_rebuilding.specs.Pending.{Whole, grown}
use Rattle.dj_pending.specs.Trees.{view_tree}
use Rattle.dj_pending.specs.Stacks.{stacked}
use Rattle.dj_pending.specs.Building.{view_built}
use Rattle.dj_pending.proofs.NumberLemmas.{goes-on, pushed-as}
use Rattle.dj_member_trees.specs.Fitting.{taken_by, fitted}
use Rattle.dj_member_trees.proofs.fields.read_field.Goals as goal

pub returns : goal.returns
returns c =
    let emitted = view_stms c.args.built.now.emitted in
    let n = c.args.built.now.next in
    let field = c.args.field.now in
    let below = stacked c.take_fitted.new.stack in
    let object = view_tree c.in-Some.object in
    record {
      built = goes-on emitted (taken_by (fitted c.args.headers.now false (view_type field.owner)) (stacked c.args.built.now.stack))
          (λ found. grown n (Whole (Of (view_type field.kind)) (Field found.0 field.name) ∷ found.1)) (object, below) (Some (view_built c.push.new.self)) (rw c.in-Some.is at c.in_ok-object.ensures.taken)
          (pushed-as emitted n below (Of (view_type c.in_ok-copy.field-0)) (Of (view_type field.kind)) (view_tree c.in_ok-tree.tree) (Field object field.name) (view_built c.push.new.self)
          (ap (λ (one : code.JType). Of (view_type one)) c.in_ok-copy.ensures.equal) c.in_ok-tree.ensures.tree c.in_ok-push.ensures.pushed);
    }
