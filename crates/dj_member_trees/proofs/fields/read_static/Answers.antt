use Rattle.std.proofs.Common.{◌∷◌, Some, ap}
use Rattle.dj_names.specs.declared.types.JType as code
use Rattle.dj_names.specs.Types.{Of, view_type}
use Rattle.dj_syntax.specs.Trees.{Static, view_stms}
use Rattle.dj_values.specs.Fits.{class_of}
use Rattle.dj_rebuilding.specs.Pending.{Whole, grown}
use Rattle.dj_pending.specs.Trees.{view_tree}
use Rattle.dj_pending.specs.Stacks.{stacked}
use Rattle.dj_pending.specs.Building.{view_built}
use Rattle.dj_pending.proofs.NumberLemmas.{goes-on, pushed-as}
use Rattle.dj_member_trees.proofs.fields.read_static.Goals as goal

pub returns : goal.returns
returns c =
    let emitted = view_stms c.args.built.now.emitted in
    let n = c.args.built.now.next in
    let field = c.args.field.now in
    let below = stacked c.args.built.now.stack in
    let class = c.in-Some.class.now in
    record {
      built = goes-on emitted (class_of (view_type field.owner)) (λ found. grown n (Whole (Of (view_type field.kind)) (Static found field.name) ∷ below)) class (Some (view_built c.push.new.self)) c.in-Some.ensures.class
          (pushed-as emitted n below (Of (view_type c.in_ok-copy.field-0)) (Of (view_type field.kind)) (view_tree c.in_ok-tree.tree) (Static class field.name) (view_built c.push.new.self)
          (ap (λ (one : code.JType). Of (view_type one)) c.in_ok-copy.ensures.equal) c.in_ok-tree.ensures.tree c.in_ok-push.ensures.pushed);
    }
