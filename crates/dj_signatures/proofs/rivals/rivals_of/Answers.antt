use Rattle.std.proofs.Common.{◌≡◌, ◌↔◌, ℕ, Bool, IsTrue, map, length, refl, arith}
use Rattle.std.proofs.lemmas.List.{length-map, length_push}
use Rattle.std.proofs.lemmas.Option.{slice_get_read}
use Rattle.dj_class.specs.Views.{view_method}
use Rattle.dj_signatures.proofs.RivalLemmas.{rivals_more}
use Rattle.dj_signatures.proofs.rivals.rivals_of.Goals as goal

pub loop-at-preserved : goal.loop-at-preserved
loop-at-preserved c =
    let methods = map view_method c.args.methods.now in
    let keys = c.in_ok-keys.keys.items in
    let key = c.index.result.now in
    record {
      size = rw c.in_ok-push.ensures.ok (omega (arith, length_push c.loop-at.rivals c.has_rival.result));
      each = rw c.in_ok-push.ensures.ok
          (rivals_more methods keys c.loop-at.at key c.loop-at.rivals c.has_rival.result c.in_ok-keys.ensures.keys (slice_get_read keys (length keys) c.loop-at.at key refl (omega (arith, c.in_ok-keys.keys.ok.0)) c.index.ensures) c.loop-at.invariant.size
          (λ method is has. c.has_rival.ensures.rival methods keys method c.in_ok-keys.ensures.keys (rw c.as_slice.ensures.value at c.in_ok-repeated.ensures.repeats) (rw c.as_slice-2.ensures.value at c.in_ok-leaders.ensures.leads) is has) c.loop-at.invariant.each);
    }

pub returns : goal.returns
returns c = record {
  rivals = record { size = omega (arith, c.in_ok-keys.ensures.keys.size); each = c.loop-at.invariant.each };
}
