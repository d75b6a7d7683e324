-- What is too large: more blocks, or more instructions that have to be one expression, than are printed (JLS 8.8.7, 15.9).
use Rattle.std.specs.Prelude.{◌≡◌, ◌↔◌, ℕ, ◌<◌, ◌≤◌, nat_le, nat_lt, Bool, ◌&&◌, if◌then◌else◌, List, length, filter, IsTrue}
use Rattle.std.specs.List.{AllPairs, Contains}
use Rattle.dj_names.specs.MethodNames.{is_constructor}
use Rattle.dj_instructions.specs.Instructions.{Instructions}
use Rattle.dj_stack_map.specs.StackMap.{IsNewAt}
use Rattle.dj_code.specs.MethodCode.{Typed}
use Rattle.dj_code.specs.Targets.{IsLeast}
use Rattle.dj_starts.specs.Births.{IsOnlyCall}
use Rattle.dj_starts.specs.Starts.{IsBlockStart}
use Rattle.dj_birth_causes.specs.OwnCalls.{IsOwnCall}

-- the most blocks, and the most instructions that have to be one expression
abbrev pub most : ℕ
most = 2000

-- so many blocks start in typed code
pub record HasBlocks (typed : Typed) (count : ℕ) : Type 0 where
  pub starts : List ℕ
  pub rising : AllPairs (λ first second. first < second) starts
  pub exact : (pc : ℕ) → Contains starts pc ↔ IsBlockStart typed pc
  pub number : length starts ≡ count

-- an offset lies from `start` on, up to and with `end`
abbrev pub is_in : ℕ → ℕ → ℕ → Bool
is_in start end pc = nat_le start pc && nat_le pc end

-- so many of these instructions stand there
abbrev pub size_of : Instructions → ℕ → ℕ → ℕ
size_of instructions start end = length (filter (λ at. is_in start end at.0) instructions)

-- the birth of the `new` at `start` has so many instructions, and these are too many
pub record IsLongBirth (typed : Typed) (count start : ℕ) : Type 0 where
  pub new : IsNewAt typed.code.instructions start
  pub end : ℕ
  pub call : IsOnlyCall typed start end
  pub number : size_of typed.code.instructions start end ≡ count
  pub above : most < count

-- so many instructions stand in a constructor up to and with its first call of another one, and these are too many
pub record IsLongBeginning (typed : Typed) (count : ℕ) : Type 0 where
  pub constructor : IsTrue (is_constructor typed.code.name)
  pub end : ℕ
  pub call : IsLeast (IsOwnCall typed) end
  pub number : size_of typed.code.instructions 0 end ≡ count
  pub above : most < count

-- what has to be one expression, from `start` on, has so many instructions, and these are too many
pub data IsLong (typed : Typed) (count start : ℕ) : Type 0 where
  long_birth : IsLongBirth typed count start → IsLong typed count start
  long_beginning : start ≡ 0 → IsLongBeginning typed count → IsLong typed count start

-- the first that is too long has so many instructions
pub record IsFirstLong (typed : Typed) (count : ℕ) : Type 0 where
  pub start : ℕ
  pub long : IsLong typed count start
  pub first : (other size : ℕ) → IsLong typed size other → start ≤ other

-- a number as it is told
abbrev pub told : ℕ → ℕ
told number = if nat_lt number 4294967295 then number else 4294967295

-- so much is too much: the blocks, or where these aren't, the first expression that is too long
pub data IsTooMuch (typed : Typed) (count : ℕ) : Type 0 where
  many_blocks : (number : ℕ) → HasBlocks typed number → most < number → count ≡ told number → IsTooMuch typed count
  long_expression : (number size : ℕ) → HasBlocks typed number → number ≤ most → IsFirstLong typed size → count ≡ told size → IsTooMuch typed count
