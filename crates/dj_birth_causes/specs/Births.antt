-- What the functions inside the crate promise each other of births.
use Rattle.std.specs.Prelude.{ℕ, ◌<◌, ◌≤◌, List, Any, IsTrue}
use Rattle.dj_instructions.specs.Instructions.{Instructions}
use Rattle.dj_code.specs.MethodCode.{Typed}
use Rattle.dj_code.specs.Targets.{IsStart}
use Rattle.dj_starts.specs.declared.birth.Birth.{Birth}
use Rattle.dj_birth_causes.specs.Large.{most, size_of, IsLongBirth}

-- an offset lies inside a birth
pub record IsBetween (birth : Birth) (pc : ℕ) : Type 0 where
  pub from : birth.start < pc
  pub to : pc < birth.end

-- a birth can be written, and none of these offsets lies inside
pub record IsSayable (pcs : List ℕ) (birth : Birth) : Type 0 where
  pub written : IsTrue birth.written
  pub none : ¬ Any (IsBetween birth) pcs

-- the first birth that is too long has so many instructions
pub record IsFirstLongBirth (typed : Typed) (count : ℕ) : Type 0 where
  pub start : ℕ
  pub long : IsLongBirth typed count start
  pub first : (other size : ℕ) → IsLongBirth typed size other → start ≤ other

-- instructions begin at both offsets
pub record AreStarts (instructions : Instructions) (start end : ℕ) : Type 0 where
  pub from : IsStart instructions start
  pub to : IsStart instructions end

-- more instructions stand from one to the other than one expression may have
pub record IsLongFrom (instructions : Instructions) (start end : ℕ) : Type 0 where
  pub starts : AreStarts instructions start end
  pub above : most < size_of instructions start end
