use Rattle.std.proofs.Common.{◌≡◌, [], ◌∷◌, ◌++◌, sym, ap, ◌∙◌}
use Rattle.dj_meaning.specs.Runs.{with_store}
use Rattle.dj_objects.specs.Runs.{run_state}
use Rattle.dj_source.specs.Keeping.{store_back}
use Rattle.dj_source.proofs.KeepingLemmas.{value_put_back}
use Rattle.dj_source.proofs.scopes.put_values.Goals as goal

pub loop-one-preserved : goal.loop-one-preserved
loop-one-preserved c =
    let taken : c.loop-one.left ≡ c.pop.new.self ++ c.in-Some.one ∷ [] = rw c.in-Some.is at c.pop.ensures in
    value_put_back c.loop-one.left c.pop.new.self c.in-Some.one (run_state c.loop-one.run) (run_state c.put_value.new.run) _ taken c.in_ok-put_value.ensures.put c.loop-one.invariant

pub returns : goal.returns
returns c =
    let none : c.loop-one.left ≡ [] = (rw c.in_default.is at c.pop.ensures).0 in
    record { put = ap (λ list. with_store (store_back list) (run_state c.loop-one.run)) (sym none) ∙ c.loop-one.invariant }
