use Rattle.std.proofs.Common.{◌≡◌, ◌-◌, Bool, List, drop, reverse, length, sym, subst, ◌∙◌}
use Rattle.std.proofs.lemmas.List.{take_rest}
use Rattle.dj_receivers.specs.Steps.{IsCut}
use Rattle.dj_receivers.proofs.Turned.{cut_is}
use Rattle.dj_receivers.proofs.bits.cut.Goals as goal

pub returns-in_ok-found-clause-cut : goal.returns-in_ok-found-clause-cut
returns-in_ok-found-clause-cut c =
    let marks = c.args.marks.now in
    let same : c.in_ok-found.found ≡ drop (length marks - c.args.height) marks = c.in_ok-found.ensures ∙ take_rest marks (length marks - c.args.height) in
    subst (λ (list : List Bool). IsCut (reverse marks) c.args.height (reverse list)) (sym same) (cut_is marks c.args.height c.if-height-marks.true)
