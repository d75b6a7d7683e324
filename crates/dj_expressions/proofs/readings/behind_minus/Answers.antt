use Rattle.std.proofs.Common.{Some, ◌∷◌, ap, ◌∙◌}
use Rattle.dj_grammar.specs.Frames.{Joins}
use Rattle.dj_expressions.specs.declared.frames.Pending.TheVariants as pendings
use Rattle.dj_expressions.specs.Views.{view_open}
use Rattle.dj_expressions.proofs.OpenLemmas.{seen_more}
use Rattle.dj_expressions.proofs.readings.behind_minus.Goals as goal

pub returns-in-Ok : goal.returns-in-Ok
returns-in-Ok c =
    let pushed = seen_more c.args.pending c.push.new.self (pendings.Joins c.minus_of.result) c.in-Ok.ensures.ok in
    record { waits = ap Some (pushed ∙ ap (λ minus. Joins minus ∷ view_open c.args.pending) c.minus_of.ensures.minus) }
