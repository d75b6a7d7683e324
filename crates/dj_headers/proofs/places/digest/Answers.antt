use Rattle.std.proofs.Common.{ℕ, ◌+◌, ◌*◌, ◌%◌, ◌^◌, List, get_or, take, refl, sym, ap, subst, ◌∙◌, ◌<◌, length}
use Rattle.dj_headers.specs.Table.{digest}
use Rattle.dj_headers.proofs.PlaceLemmas.{digest-more}
use Rattle.dj_headers.proofs.places.digest.Goals as goal

pub loop-unit-init : goal.loop-unit-init
unfolding digest
loop-unit-init c = refl

pub loop-unit-preserved : goal.loop-unit-preserved
loop-unit-preserved c =
    let i = c.loop-unit.unit-index in
    let units = c.as_slice-unit-items.ensures.units in
    let within : i < length c.args.name.now = subst (λ (name : List ℕ). i < length name) units c.loop-unit-test.true in
    ap (λ (sum : ℕ). ((sum * 40503) % 2 ^ 16 + get_or c.as_slice-unit-items.result.now i 0) % 2 ^ 16) c.loop-unit.invariant
    ∙ ap (λ (name : List ℕ). ((digest (take i c.args.name.now) * 40503) % 2 ^ 16 + get_or name i 0) % 2 ^ 16) units
    ∙ sym (digest-more c.args.name.now i within)
