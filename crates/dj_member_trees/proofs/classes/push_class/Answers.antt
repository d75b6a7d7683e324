use Rattle.std.proofs.Common.{◌≡◌, ◌∷◌, Bool, true, None, sym, ap, ◌∙◌}
use Rattle.std.specs.Prelude.{codes, if◌then◌else◌}
use Rattle.dj_names.specs.Types.{Of, Class, view_type, view_static}
use Rattle.dj_syntax.specs.Trees.{ClassOf, view_stms}
use Rattle.dj_values.specs.Deciding.{is_reference}
use Rattle.dj_rebuilding.specs.Pending.{Whole, grown}
use Rattle.dj_pending.specs.Trees.{view_tree}
use Rattle.dj_pending.specs.Stacks.{stacked}
use Rattle.dj_pending.specs.Building.{view_built}
use Rattle.dj_pending.specs.Spilling.{behind}
use Rattle.dj_pending.proofs.NumberLemmas.{pushed-as}
use Rattle.dj_member_trees.proofs.classes.push_class.Goals as goal

pub returns : goal.returns
returns c =
    let emitted = view_stms c.args.built.now.emitted in
    let n = c.args.built.now.next in
    let below = stacked c.args.built.now.stack in
    let type = view_type c.args.kind.now in
    let is : true ≡ is_reference type = sym (sym c.is_reference.ensures.reference ∙ c.if-not-is_reference.false) in
    record {
      built = pushed-as emitted n below (view_static c.in_ok-kind.kind) (Of (Class (codes "java/lang/Class"))) (view_tree c.in_ok-tree.tree) (ClassOf type) (view_built c.push.new.self)
          c.in_ok-kind.ensures.class c.in_ok-tree.ensures.tree c.in_ok-push.ensures.pushed
          ∙ ap (λ (test : Bool). behind emitted (if test then grown n (Whole (Of (Class (codes "java/lang/Class"))) (ClassOf type) ∷ below) else None)) is;
    }
