-- The fault that is answered where a reader stopped.
use Rattle.std.specs.Prelude.{◌≡◌, ℕ, ◌-◌, ◌^◌, min, alloc_error}
use Rattle.dj_layout.specs.declared.fault.Stop.{Stop}
use Rattle.dj_layout.specs.declared.fault.Stop.TheVariants as stop
use Rattle.dj_pool.specs.declared.fault.BrokenKind.{BrokenKind}
use Rattle.dj_class.specs.declared.fault.ClassFault.{ClassFault}
use Rattle.dj_class.specs.declared.fault.ClassFault.TheVariants as fault

-- how an offset is given: one above 4,294,967,295 as that number
abbrev pub shown_place : ℕ → ℕ
shown_place at = min at (2 ^ 32 - 1)

-- the fault of the bytes, or no memory
abbrev pub IsFaultOf : Stop BrokenKind → ClassFault → Type 0
IsFaultOf stop.Memory answer = answer ≡ fault.Memory alloc_error
IsFaultOf (stop.Fault found) answer = answer ≡ fault.Broken found.kind (shown_place found.offset)
