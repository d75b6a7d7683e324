-- What stands in a constructor up to its call of another one, and can't be written as that call and its arguments (JLS 8.8.7, 11.2.1; JVMS 4.10.1.9).
use Rattle.std.specs.Prelude.{◌≡◌, ◌⊎◌, ℕ, ◌+◌, ◌<◌, ◌≤◌, ◌==◌, ◌&&◌, nat_lt, Bool, true, false, if◌then◌else◌, List, [], ◌∷◌, map, length, reverse, Option, Some, None, IsTrue}
use Rattle.dj_names.specs.Types.{parameters_of}
use Rattle.dj_names.specs.MethodNames.{is_constructor}
use Rattle.dj_instructions.specs.Instructions.{MethodRef, Instruction, Instructions}
use Rattle.dj_frames.specs.Frames.{Tag, Frame}
use Rattle.dj_code.specs.MethodCode.{Typed}
use Rattle.dj_code.specs.Targets.{IsStart}
use Rattle.dj_effects.specs.Works.{Form}
use Rattle.dj_effects.specs.Operands.{form_of, moved_words}
use Rattle.dj_starts.specs.declared.roles.Role.{Role}
use Rattle.dj_starts.specs.declared.roles.Role.TheVariants as role
use Rattle.dj_starts.specs.Births.{role_of, first_role, IsAllowed}
use Rattle.dj_starts.specs.Starts.{in_range, IsGiven}
use Rattle.dj_world.specs.Worlds.{WorldOf}
use Rattle.dj_receivers.specs.Passing.{Pass, Takes, Own, Moves, pass_of}
use Rattle.dj_receivers.specs.OwnCalls.{special_of, calls_own}
use Rattle.dj_escaping.specs.Escaping.{lets_escape}
use Rattle.dj_birth_causes.specs.Comparisons.{ComparesMore}
use Rattle.dj_birth_causes.specs.OwnCalls.{StandsAt, IsOwnCall}

-- ---- its receiver

-- how many entries an instruction touches, by the tags of the entries before it, the topmost first
abbrev pub touched : Pass → List Tag → ℕ
touched (Takes count gives) stack = count
touched Own stack = 0
touched (Moves forms) stack = by_form (form_of forms (map moved_words stack))
  where
    by_form : Option Form → ℕ
    by_form None = length stack
    by_form (Some form) = length form.takes

-- an instruction leaves the entry that stands below all others
abbrev pub spares_first : Instruction → Frame → Bool
spares_first instruction frame = nat_lt (touched (pass_of instruction) (reverse frame.stack)) (length frame.stack)

-- the entry below all others is what a call is on
abbrev pub is_on_first : Instruction → Frame → Bool
is_on_first instruction frame = by_method (special_of instruction)
  where
    by_method : Option MethodRef → Bool
    by_method None = false
    by_method (Some method) = length frame.stack == length (parameters_of method.descriptor) + 1

-- the first call of a constructor on `this` among these instructions is on the entry below all others, and each instruction before it leaves that
abbrev pub calls_on_first : Instructions → List Frame → Bool
calls_on_first [] frames = false
calls_on_first (at ∷ rest) [] = false
calls_on_first (at ∷ rest) (frame ∷ frames) =
    if calls_own at.1 frame then is_on_first at.1 frame else spares_first at.1 frame && calls_on_first rest frames

-- what local 0 holds
abbrev pub is_own : Pass → Bool
is_own (Takes count gives) = false
is_own Own = true
is_own (Moves forms) = false

-- the first instruction loads local 0, and this is what another constructor is called on
abbrev pub begins_with_receiver : Instructions → List Frame → Bool
begins_with_receiver [] frames = false
begins_with_receiver (at ∷ rest) [] = false
begins_with_receiver (at ∷ rest) (frame ∷ frames) = is_own (pass_of at.1) && calls_on_first rest frames

-- ---- what its arguments may not have

-- of these instructions, with what stands before and behind each, the one at this offset may stand in no birth that began at 0
abbrev pub MayNotStand : Typed → Role → Instructions → ℕ → Type 0
MayNotStand typed before [] pc = ⊥
MayNotStand typed before (at ∷ rest) pc =
    ((pc ≡ at.0) × ¬ IsAllowed typed 0 at.0 before (role_of at.1) (first_role rest)) ⊎ MayNotStand typed (role_of at.1) rest pc

-- before each call of a constructor on `this`, or one of them
abbrev pub IsUpToCall : Typed → ℕ → Type 0
IsUpToCall typed pc = (call : ℕ) → IsOwnCall typed call → pc ≤ call

-- the instruction at this offset stands in a range of the exception table
abbrev pub IsCovered : Typed → ℕ → Type 0
IsCovered typed pc = IsStart typed.code.instructions pc × IsTrue (in_range typed.code.handlers pc)

-- the code breaks a rule at this offset
pub data BreaksBefore (world : WorldOf) (typed : Typed) (pc : ℕ) : Type 0 where
  -- the other constructor is called on what the first instruction loads
  receiver : pc ≡ 0 → begins_with_receiver typed.code.instructions typed.frames ≡ false → BreaksBefore world typed pc
  -- before the call stands what may stand in a birth
  inside : ((call : ℕ) → IsOwnCall typed call → pc < call) → MayNotStand typed role.Plain typed.code.instructions pc → BreaksBefore world typed pc
  -- behind the first instruction no frame is given
  given : IsUpToCall typed pc → 0 < pc → IsGiven typed.code.frames pc → BreaksBefore world typed pc
  -- nothing stands in a range of the exception table
  range : IsUpToCall typed pc → IsCovered typed pc → BreaksBefore world typed pc
  -- no call lets a checked class escape
  thrown : IsUpToCall typed pc → StandsAt (lets_escape world typed.code) typed.code.instructions typed.frames pc → BreaksBefore world typed pc
  -- nothing compares but constants and loads
  compares : IsUpToCall typed pc → ComparesMore 0 typed.code.instructions pc → BreaksBefore world typed pc

-- a constructor does so at this offset
pub record HasBeforeSuperAt (world : WorldOf) (typed : Typed) (pc : ℕ) : Type 0 where
  pub constructor : IsTrue (is_constructor typed.code.name)
  pub breaks : BreaksBefore world typed pc
