use Rattle.std.proofs.Common.{arith, sym, refl}
use Rattle.std.proofs.lemmas.Option.{slice_get_read}
use Rattle.dj_pending.proofs.StackLemmas.{got_top, got_none}
use Rattle.dj_pending.proofs.stack.Stack.get.Goals as goal

pub returns-then-place-len : goal.returns-then-place-len
returns-then-place-len c =
    let entries = c.args.self.now.entries.items in
    record { entry = sym (got_top entries _ c.args.place c.index.result.now (slice_get_read entries _ _ c.index.result.now refl (omega arith) c.index.ensures) (omega arith)) }

pub returns-else-place-len : goal.returns-else-place-len
returns-else-place-len c = record { entry = sym (got_none c.args.self.now.entries.items c.args.place (omega arith)) }
