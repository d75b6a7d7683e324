use Rattle.std.proofs.Common.{arith, sym, refl}
use Rattle.std.proofs.lemmas.Option.{slice_get_read}
use Rattle.dj_operands.proofs.StackLemmas.{got_top, got_none}
use Rattle.dj_operands.proofs.stack.Stack.get.Goals as goal

pub returns-then-place-len : goal.returns-then-place-len
returns-then-place-len c =
    let values = c.args.self.now.values.items in
    record { value = sym (got_top values _ c.args.place c.index.result.now (slice_get_read values _ _ c.index.result.now refl (omega arith) c.index.ensures) (omega arith)) }

pub returns-else-place-len : goal.returns-else-place-len
returns-else-place-len c = record { value = sym (got_none c.args.self.now.values.items c.args.place (omega arith)) }
