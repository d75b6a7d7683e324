use Rattle.std.proofs.Common.{[], ◌∷◌, map, get_or, rules, arith}
use Rattle.std.proofs.lemmas.List.{map-append}
use Rattle.dj_print.proofs.Composing.{same}
use Rattle.dj_print.proofs.ListTexts.{all_done, step}
use Rattle.dj_print.specs.Spelled.{dot}
use Rattle.dj_print.proofs.PrintLemmas.{dotted_text}
use Rattle.dj_print.proofs.print.text.with_dots.Goals as goal

pub loop-unit-init : goal.loop-unit-init
loop-unit-init g c = g.met.O.Out.nothing _

pub loop-unit-preserved : goal.loop-unit-preserved
loop-unit-preserved g c =
    step g.O.Out.prints g.met.O.Out.then (map dot) (λ unit. dot unit ∷ []) (λ units unit. map-append dot units (unit ∷ [])) c.args.name.now c.loop-unit.unit-index (get_or c.args.name.now c.loop-unit.unit-index 0) (omega arith) (search rules) c.loop-unit.invariant c.dotted.ensures.prints

pub returns : goal.returns
returns g c =
    record { prints = same g.O.Out.prints (all_done g.O.Out.prints (map dot) c.args.name.now c.loop-unit.unit-index (omega arith) c.loop-unit.invariant) (dotted_text c.args.name.now) }
