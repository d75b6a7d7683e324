use Rattle.std.specs.Prelude.{option_map}
use Rattle.dj_code.specs.MethodCode.{view_code}
use Rattle.dj_code_variables.specs.Views.{view_vars}
use Rattle.dj_pending.specs.Steps.{view_local}
use Rattle.dj_rebuild.specs.Slots.{local_at, names_of}
use Rattle.dj_rebuild.proofs.Naming.{one-named}
use Rattle.dj_rebuild.proofs.names.first_names.Goals as goal

pub loop-slot-preserved : goal.loop-slot-preserved
loop-slot-preserved c =
    one-named (local_at c.keeps_this-keeps.result (view_code c.args.code.now) (view_vars c.args.vars.now)) (names_of c.loop-slot.names) (names_of c.put_first.new.self) c.loop-slot.slot (option_map view_local c.in_ok-found.found)
    c.loop-slot.invariant c.in_ok-found.ensures.first c.in_ok-put_first.ensures.put
