use Rattle.std.proofs.Common.{◌≡◌, arith, None, subst}
use Rattle.std.specs.Prelude.{slice_index_or}
use Rattle.dj_machine.specs.Runs.{view_slots}
use Rattle.dj_machine.proofs.SlotLemmas.{slot_none}
use Rattle.dj_machine.proofs.locals.Locals.get.Goals as goal

pub returns-in-None : goal.returns-in-None
returns-in-None c =
    let same : c.from.result ≡ c.args.slot = omega arith in
    record { value = subst (λ slot. None ≡ slice_index_or (view_slots c.args.self.now.slots) slot None) same (slot_none c.args.self.now.slots c.from.result c.in-None.ensures.value) }
