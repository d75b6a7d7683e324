-- The names of `specs/CoreKinds` are those of the table of core classes, in its order.
use Rattle.std.proofs.Common.{◌≡◌, map, filter, not, nat_eq, bit_and, refl}
use Rattle.dj_core.specs.CoreClass.{CoreClass}
use Rattle.dj_core.specs.CoreTable.{core_classes}
use Rattle.dj_world.specs.CoreKinds.{core_interfaces, core_plain}

interfaces_agree : map (λ (core : CoreClass). core.name) (filter (λ (core : CoreClass). not (nat_eq (bit_and core.flags 0x0200) 0)) core_classes) ≡ core_interfaces
unfolding core_interfaces
interfaces_agree = refl

plain_agree : map (λ (core : CoreClass). core.name) (filter (λ (core : CoreClass). nat_eq (bit_and core.flags 0x0200) 0) core_classes) ≡ core_plain
unfolding core_plain
plain_agree = refl
