use Rattle.std.proofs.Common.{ℕ, ◌<◌, false, get_or, length, List, take, sym, subst, arith}
use Rattle.std.proofs.lemmas.List.{take_all}
use Rattle.std.specs.BTreeMap.{get}
use Rattle.dj_signatures.specs.declared.keys.Key.{Key}
use Rattle.dj_signatures.specs.Standing.{pair_cmp, twin_of, Repeats}
use Rattle.dj_signatures.proofs.StandingLemmas.{sets, repeats-start, repeats-more, one_longer, item_is}
use Rattle.dj_signatures.proofs.standing.repeated_of.Goals as goal

pub loop-key-init : goal.loop-key-init
loop-key-init c = repeats-start c.new-repeated.result c.new-repeated.ensures.empty

pub loop-key-preserved : goal.loop-key-preserved
loop-key-preserved c =
    let keys = c.args.keys.now in
    let i = c.loop-key.key-index in
    let within : i < length keys = omega arith in
    let key : Key = get_or keys i (record { name = 0; parameters = 0; descriptor = 0; bridge = false }) in
    let old = c.loop-key.repeated in
    let new = c.insert.new.self in
    subst (λ (ks : List Key). (pair : ℕ × ℕ) → Repeats ks pair (get pair_cmp new pair)) (sym (one_longer keys i key within (item_is keys i (record { name = 0; parameters = 0; descriptor = 0; bridge = false }) within)))
    (repeats-more (take i keys) key old new c.contains_key-again.result (rw c.twin_of-pair.ensures.pair at c.contains_key-again.ensures) (sets old new (twin_of key) c.contains_key-again.result (rw c.twin_of-pair.ensures.pair at c.in_ok-insert.ensures.updates)) c.loop-key.invariant)

pub returns : goal.returns
returns c = record {
  repeats = subst (λ (ks : List Key). (pair : ℕ × ℕ) → Repeats ks pair (get pair_cmp c.loop-key.repeated pair)) (take_all c.loop-key.key-index c.args.keys.now (omega arith)) c.loop-key.invariant;
}
