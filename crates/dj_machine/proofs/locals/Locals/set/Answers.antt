use Rattle.std.proofs.Common.{◌≡◌, arith, Some, subst}
use Rattle.std.specs.Prelude.{slice_set}
use Rattle.dj_values.specs.Views.{view_value}
use Rattle.dj_machine.specs.Runs.{view_slots}
use Rattle.dj_machine.proofs.SlotLemmas.{set_slot}
use Rattle.dj_machine.proofs.locals.Locals.set.Goals as goal

pub returns-then-from-len : goal.returns-then-from-len
returns-then-from-len c =
    let same : c.from-then-from-len.result ≡ c.args.slot = omega arith in
    record {
      set = subst (λ slot. view_slots c.set.new.self ≡ slice_set (view_slots c.args.self.now.slots) slot (Some (view_value c.args.value))) same
          (set_slot c.args.self.now.slots c.set.new.self c.from-then-from-len.result c.args.value c.set.ensures);
    }
