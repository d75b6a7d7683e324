use Rattle.std.proofs.Common.{◌≡◌, arith, rules, subst}
use Rattle.dj_values.specs.Views.{view_values}
use Rattle.dj_bytecode.specs.Machine.{first_locals}
use Rattle.dj_machine.specs.Runs.{view_slots}
use Rattle.dj_machine.proofs.SlotLemmas.{first_are}
use Rattle.dj_machine.proofs.locals.Locals.new.Goals as goal

pub returns : goal.returns
returns c =
    let same : c.from.result ≡ c.args.most = omega arith in
    record {
      first = subst (λ most. view_slots c.fill.new.slots ≡ first_locals most (view_values c.args.arguments.now)) same
          (first_are c.from.result (view_values c.args.arguments.now) c.push_arguments.new.slots c.fill.new.slots (search rules) c.in_ok-fill.ensures.filled);
    }
