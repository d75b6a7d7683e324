use Rattle.std.proofs.Common.{◌≡◌, false, get_or, arith}
use Rattle.std.proofs.lemmas.List.{length-set}
use Rattle.dj_starts.proofs.Visiting.{visit_new}
use Rattle.dj_starts.proofs.reach.visit.Goals as goal

pub returns-in_ok-push : goal.returns-in_ok-push
returns-in_ok-push c =
    let new : get_or c.args.seen.now c.args.pc false ≡ false = rw (← c.as_slice.ensures) c.if-not-as_slice-place.true in
    rw (c.set.ensures, c.in_ok-push.ensures.ok) record { visits = visit_new c.args.seen.now c.args.pending.now c.args.pc (omega (arith, c.len.ensures, c.if-place-len.true)) new (length-set c.args.seen.now c.args.pc _) }
