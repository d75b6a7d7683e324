use Rattle.std.proofs.Common.{List, ℕ, Contains, subst, sym, arith}
use Rattle.std.proofs.lemmas.List.{take_all}
use Rattle.dj_headers.proofs.PlaceLemmas.{HasPlace-more}
use Rattle.dj_headers.proofs.places.learn_all.Goals as goal

pub loop-name-preserved : goal.loop-name-preserved
loop-name-preserved c = record {
  known =
      HasPlace-more c.loop-name.places c.learn.new.places c.args.names.now c.loop-name.name-index c.name-item.result c.in_ok-learn.field-0 (omega arith) c.name-item.is c.learn.ensures.extends
      c.in_ok-learn.ensures.place c.loop-name.invariant.known;
  extends = λ name at is. c.learn.ensures.extends name at (c.loop-name.invariant.extends name at is);
  index = λ index. c.learn.ensures.index (c.loop-name.invariant.index index);
}

pub returns-clause-known : goal.returns-clause-known
returns-clause-known c = λ name there.
    c.loop-name.invariant.known name (subst (λ (names : List (List ℕ)). Contains names name) (sym (take_all c.loop-name.name-index c.args.names.now (omega arith))) there)
