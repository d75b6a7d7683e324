use Rattle.std.proofs.Common.{◌≡◌, ◌⊎◌, ◌+◌, Contains, take}
use Rattle.dj_sayable.proofs.GatheringLemmas.{gains_like, gains_then, contains_more}
use Rattle.dj_code_causes.proofs.named.Named.include_all.Goals as goal

pub loop-name-preserved : goal.loop-name-preserved
loop-name-preserved c =
    let xs = c.args.names.now in
    let i = c.loop-name.name-index in
    let x = c.name-item.result in
    let old = c.args.self.now.names in
    let between = c.loop-name.self.names in
    let new = c.include.new.self.names in
    record {
      paired = c.in_ok-include.ensures.paired;
      gains = gains_like old new (λ name. Contains (take i xs) name ⊎ (x ≡ name)) (Contains (take (i + 1) xs)) (contains_more xs i x c.loop-name-test.true c.name-item.is)
          (gains_then old between new (Contains (take i xs)) (λ name. x ≡ name) c.loop-name.invariant.gains c.in_ok-include.ensures.gains);
    }
