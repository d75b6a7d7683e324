use Rattle.std.proofs.Common.{List, ℕ, [], ◌∷◌, refl, rules, arith}
use Rattle.dj_print.proofs.ListTexts.{all_done, step}
use Rattle.dj_print.proofs.print.text.ascii.Goals as goal

pub loop-unit-init : goal.loop-unit-init
loop-unit-init g c = g.met.O.Out.nothing _

pub loop-unit-preserved : goal.loop-unit-preserved
loop-unit-preserved g c =
    step g.O.Out.prints g.met.O.Out.then (λ units. units) (λ unit. unit ∷ []) (λ units unit. refl) c.args.name.now c.loop-unit.unit-index _ (omega arith) (search rules) c.loop-unit.invariant c.put.ensures.prints

pub returns : goal.returns
returns g c =
    record { prints = all_done g.O.Out.prints (λ units. units) c.args.name.now c.loop-unit.unit-index (omega arith) c.loop-unit.invariant }
