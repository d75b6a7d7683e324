use Rattle.std.proofs.Common.{sym, subst}
use Rattle.dj_instructions.specs.Places.{IsPlaceOf, IsNoPlace}
use Rattle.dj_code_variables.proofs.Finding.{first-found, first-none, no-first}
use Rattle.dj_code_variables.proofs.firsts.first_frame.Goals as goal

pub returns-in_ok-copy-in-Some : goal.returns-in_ok-copy-in-Some
returns-in_ok-copy-in-Some c = record {
  first = rw c.in_ok-copy-in-Some.ensures.equal (first-found c.args.typed.now c.requires.rising c.args.start c.in-Ok.place (subst (λ list. IsPlaceOf list c.args.start c.in-Ok.place) c.as_slice.ensures c.in-Ok.ensures.found) c.in-Some.frame.now (sym c.in-Some.ensures.value));
}

pub returns-in-None : goal.returns-in-None
returns-in-None c = record {
  first = first-none c.args.typed.now c.requires.rising c.args.start c.in-Ok.place (subst (λ list. IsPlaceOf list c.args.start c.in-Ok.place) c.as_slice.ensures c.in-Ok.ensures.found) (sym c.in-None.ensures.value);
}

pub returns-in-Err : goal.returns-in-Err
returns-in-Err c = record { first = no-first c.args.typed.now c.args.start (subst (λ list. IsNoPlace list c.args.start) c.as_slice.ensures c.in-Err.ensures.absent) }
