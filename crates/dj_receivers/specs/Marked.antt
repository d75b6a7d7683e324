-- Which calls the program tells to be on `this`.
use Rattle.std.specs.Prelude.{◌≡◌, ◌↔◌, ℕ, Bool, List, Some}
use Rattle.dj_instructions.specs.Instructions.{MethodRef, InvokeSpecial, instruction_at}
use Rattle.dj_code.specs.MethodCode.{Typed}
use Rattle.dj_starts.specs.Marks.{IsMarked}
use Rattle.dj_receivers.specs.Receivers.{IsOnThis}

-- of the calls by `invokespecial`, those on `this` are marked by their pcs
abbrev pub AreOnThis : Typed → List Bool → Type 0
AreOnThis typed calls =
    (pc : ℕ) (method : MethodRef) → instruction_at typed.code.instructions pc ≡ Some (InvokeSpecial method) → IsMarked calls pc ↔ IsOnThis typed pc method
