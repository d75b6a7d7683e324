-- Births that can't be written as one expression (JLS 15.9).
use Rattle.std.specs.Prelude.{ℕ, ◌<◌}
use Rattle.dj_stack_map.specs.StackMap.{IsNewAt}
use Rattle.dj_code.specs.MethodCode.{Typed}
use Rattle.dj_starts.specs.Births.{IsWritten}
use Rattle.dj_birth_causes.specs.Comparisons.{ComparesMore}

-- the birth from the `new` at `start` to the constructor call at `end` can be written as one expression, and nothing in it compares but constants and loads
pub record IsSayableBirth (typed : Typed) (start end : ℕ) : Type 0 where
  pub written : IsWritten typed start end
  pub plain : (pc : ℕ) → start < pc → pc < end → ¬ ComparesMore 0 typed.code.instructions pc

-- at this offset stands a `new` whose object has no such birth
pub record HasUnbornAt (typed : Typed) (pc : ℕ) : Type 0 where
  pub new : IsNewAt typed.code.instructions pc
  pub none : (end : ℕ) → ¬ IsSayableBirth typed pc end
