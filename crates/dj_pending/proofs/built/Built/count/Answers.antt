use Rattle.std.proofs.Common.{ℤ, sym, ap, ◌∙◌}
use Rattle.std.specs.Int.{w16}
use Rattle.std.proofs.lemmas.Int.{to_z-of_z}
use Rattle.dj_syntax.specs.Trees.{view_stms}
use Rattle.dj_rebuilt.specs.Locals.{counted}
use Rattle.dj_pending.specs.Trees.{view_tree}
use Rattle.dj_pending.specs.Stacks.{stacked}
use Rattle.dj_pending.specs.Steps.{view_local, view_target}
use Rattle.dj_pending.proofs.StepLemmas.{counted-behind}
use Rattle.dj_pending.proofs.built.Built.count.Goals as goal

pub returns : goal.returns
returns c =
    let new = c.in_ok-new.ensures.counted ∙ ap (λ (one : ℤ). counted (view_local c.in-Some.local.now).1 one) (to_z-of_z w16 c.args.by c.ranges.by) in
    record {
      counted = rw (c.in-Some.is, c.in-Some-target.is) (c.in_ok-done.ensures.put
          ∙ counted-behind (view_stms c.args.self.now.emitted) c.args.by c.args.self.now.next (stacked c.args.self.now.stack) (view_local c.in-Some.local.now) (view_target c.in-Some-target.target.now) (view_tree c.in_ok-new.new)
          (sym c.is_counted.ensures.counted ∙ c.if-not-is_counted.false) (sym c.takes_ints.ensures.takes ∙ c.if-not-takes_ints.false) new);
    }
