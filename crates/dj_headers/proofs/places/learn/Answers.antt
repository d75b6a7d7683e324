use Rattle.std.proofs.Common.{ℕ, List, sym, subst}
use Rattle.dj_headers.specs.Table.{Gains}
use Rattle.dj_headers.proofs.PlaceLemmas.{Extends-gains, Extends-keeps, IsIndex-gains, IsIndex-keeps}
use Rattle.dj_headers.proofs.places.learn.Goals as goal

pub returns-in_ok-put-in-None-clause-place : goal.returns-in_ok-put-in-None-clause-place
returns-in_ok-put-in-None-clause-place c = rw (← c.in_ok-copy-in-None.ensures.equal) c.in_ok-put-in-None.ensures.gains.here

pub returns-in_ok-put-in-None-clause-extends : goal.returns-in_ok-put-in-None-clause-extends
returns-in_ok-put-in-None-clause-extends c =
    Extends-gains c.args.places.now c.put.new.places c.args.name.now c.count-at.result (sym c.in-None.ensures.place)
    (subst (λ (name : List ℕ). Gains c.args.places.now c.put.new.places name c.count-at.result) c.in_ok-copy-in-None.ensures.equal c.in_ok-put-in-None.ensures.gains)

pub returns-in_ok-put-in-None-clause-index : goal.returns-in_ok-put-in-None-clause-index
returns-in_ok-put-in-None-clause-index c =
    IsIndex-gains c.args.places.now c.put.new.places c.args.name.now (sym c.in-None.ensures.place)
    (rw (← c.count-at.ensures.count) (subst (λ (name : List ℕ). Gains c.args.places.now c.put.new.places name c.count-at.result) c.in_ok-copy-in-None.ensures.equal c.in_ok-put-in-None.ensures.gains))

pub returns-in_err-put-in-None-clause-extends : goal.returns-in_err-put-in-None-clause-extends
returns-in_err-put-in-None-clause-extends c = Extends-keeps c.args.places.now c.put.new.places c.in_err-put-in-None.ensures.kept

pub returns-in_err-put-in-None-clause-index : goal.returns-in_err-put-in-None-clause-index
returns-in_err-put-in-None-clause-index c = IsIndex-keeps c.args.places.now c.put.new.places c.in_err-put-in-None.ensures.kept
