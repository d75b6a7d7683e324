use Rattle.std.proofs.Common.{◌≡◌, take}
use Rattle.dj_members.specs.Tables.{method_names}
use Rattle.dj_members.proofs.member_table.names_of_methods.Given as goal

abbrev pub invariant-loop-method : goal.invariant-loop-method
invariant-loop-method l = l.names ≡ method_names (take l.method-index l.methods)
