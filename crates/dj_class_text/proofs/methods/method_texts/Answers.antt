use Rattle.std.proofs.Common.{◌≡◌, ℕ, ◌+◌, ◌∷◌, [], ◌++◌, length, map, sym, subst, ◌∙◌, arith}
use Rattle.std.specs.Prelude.{reverse}
use Rattle.std.proofs.lemmas.List.{take_all, length_push}
use Rattle.dj_syntax.specs.Trees as trees
use Rattle.dj_syntax.specs.UnitText.{is_interface}
use Rattle.dj_class.specs.Views.{view_class}
use Rattle.dj_class_text.proofs.ShowingLemmas.{ShowsFrom, same_length, popped_front, methods_end, method_told}
use Rattle.dj_class_text.proofs.methods.method_texts.Goals as goal

pub loop-body-init : goal.loop-body-init
loop-body-init c = record {
  front = sym (take_all (length c.args.bodies) c.args.bodies (omega arith));
  within = omega arith;
  shows = rw c.new-texts.ensures (methods_end c.args.world.now (view_class c.args.class.now) (is_interface c.args.class.now.flags) c.args.class.now.methods c.args.bodies (length c.args.bodies) (omega (arith, c.requires.paired)) (omega arith));
}

pub loop-body-preserved : goal.loop-body-preserved
loop-body-preserved c =
    let rest = c.pop.new.self in
    let body = c.in-Some.body in
    let at : ℕ = length rest in
    let popped : c.loop-body.bodies ≡ rest ++ body ∷ [] = rw c.in-Some.is at c.pop.ensures in
    let front = popped_front c.args.bodies rest body (length c.loop-body.bodies) (sym popped ∙ c.loop-body.invariant.front) in
    let longer : length c.loop-body.bodies ≡ at + 1 = same_length popped ∙ length_push rest body in
    let among = front.2 in
    record {
      front = front.0;
      within = omega (arith, among);
      shows = rw c.in_ok-push_shown.ensures.pushed
          (method_told c.args.world.now (view_class c.args.class.now) (is_interface c.args.class.now.flags) c.args.class.now.methods c.args.bodies at c.index-methods-at.result body (omega (arith, among, c.requires.paired)) (rw (c.as_slice-methods.ensures, c.len-at.ensures) at c.index-methods-at.is) among front.1
          c.loop-body.texts c.in_ok-text.text (rw c.len-at.ensures at c.in_ok-text.ensures.shown)
          (subst (λ (n : ℕ). ShowsFrom c.args.world.now (view_class c.args.class.now) (is_interface c.args.class.now.flags) c.args.class.now.methods c.args.bodies n (map trees.view_method (reverse c.loop-body.texts))) longer c.loop-body.invariant.shows));
    }
