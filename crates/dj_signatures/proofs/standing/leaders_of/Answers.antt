use Rattle.std.proofs.Common.{◌≡◌, ℕ, ◌<◌, false, get_or, List, take, length, sym, subst, ◌∙◌, arith}
use Rattle.std.proofs.lemmas.List.{take_all, length-take}
use Rattle.std.specs.BTreeMap.{get}
use Rattle.dj_signatures.specs.declared.keys.Key.{Key}
use Rattle.dj_signatures.specs.Standing.{pair_cmp, alike_of, Leads}
use Rattle.dj_signatures.proofs.StandingLemmas.{sets, leads-start, leads-more, one_longer, item_is}
use Rattle.dj_signatures.proofs.standing.leaders_of.Goals as goal

pub loop-at-init : goal.loop-at-init
loop-at-init c = leads-start c.new-leaders.result c.new-leaders.ensures.empty

pub loop-at-preserved : goal.loop-at-preserved
loop-at-preserved c =
    let keys = c.args.keys.now in
    let i = c.loop-at.at in
    let within : i < length keys = omega arith in
    let key : Key = get_or keys i (record { name = 0; parameters = 0; descriptor = 0; bridge = false }) in
    let old = c.loop-at.leaders in
    let new = c.insert.new.self in
    let leader = c.leader_of-leader.result in
    let size : length (take i keys) ≡ i = length-take i keys ∙ omega arith in
    let led = c.leader_of-leader.ensures.leads (take i keys) size (subst (Leads (take i keys) (alike_of key)) (sym (rw c.alike_of-pair.ensures.pair at c.leader_before.ensures.value)) (c.loop-at.invariant (alike_of key))) in
    subst (λ (ks : List Key). (pair : ℕ × ℕ) → Leads ks pair (get pair_cmp new pair)) (sym (one_longer keys i key within (item_is keys i (record { name = 0; parameters = 0; descriptor = 0; bridge = false }) within)))
    (leads-more (take i keys) key old new leader led (sets old new (alike_of key) leader (rw c.alike_of-pair.ensures.pair at c.in_ok-insert.ensures.updates)) c.loop-at.invariant)

pub returns : goal.returns
returns c = record {
  leads = subst (λ (ks : List Key). (pair : ℕ × ℕ) → Leads ks pair (get pair_cmp c.loop-at.leaders pair)) (take_all c.loop-at.at c.args.keys.now (omega arith)) c.loop-at.invariant;
}
