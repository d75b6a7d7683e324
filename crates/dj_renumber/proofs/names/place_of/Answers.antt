use Rattle.std.proofs.Common.{◌≡◌, ◌+◌, sym, ap, ◌∙◌, subst, IfOk}
use Rattle.dj_renumber.proofs.Numbers.{place_found, place_not_found}
use Rattle.dj_renumber.proofs.names.place_of.Goals as goal

pub returns-in-Some : goal.returns-in-Some
returns-in-Some c = record {
  place = subst (λ at. IfOk c.number_of.result (λ place. place ≡ at)) (place_found c.args.numbers.now.keys c.args.number c.in-Some.place c.in-Some.ensures.index) c.number_of.ensures.number;
}

pub returns-in_ok-count-in-None : goal.returns-in_ok-count-in-None
returns-in_ok-count-in-None c = record {
  place = subst (λ at. IfOk c.behind.result (λ place. place ≡ at))
      (ap (λ more. c.args.number + more) (c.in_ok-count-in-None.ensures.number ∙ c.len.ensures.len) ∙ sym (place_not_found c.args.numbers.now.keys c.args.number c.in-None.ensures.index)) c.behind.ensures.sum;
}
