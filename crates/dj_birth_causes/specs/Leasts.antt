-- What the functions inside the crate promise each other of least offsets.
use Rattle.std.specs.Prelude.{◌⊎◌, ℕ, ◌<◌, ◌≤◌, nat_le, nat_lt, if◌then◌else◌, List, Option, Some, None, MatchOption}
use Rattle.dj_frames.specs.Frames.{Frame}
use Rattle.dj_code.specs.MethodCode.{Typed}
use Rattle.dj_code.specs.Targets.{IsLeast}
use Rattle.dj_starts.specs.declared.roles.Role.TheVariants as role
use Rattle.dj_starts.specs.Starts.{IsGiven}
use Rattle.dj_world.specs.Worlds.{WorldOf}
use Rattle.dj_escaping.specs.Escaping.{lets_escape}
use Rattle.dj_birth_causes.specs.Comparisons.{ComparesMore}
use Rattle.dj_birth_causes.specs.OwnCalls.{StandsAt}
use Rattle.dj_birth_causes.specs.Beginning.{MayNotStand, IsCovered}

-- the least offset that has a property, or that none has it
abbrev pub IsFirst : (ℕ → Type 0) → Option ℕ → Type 0
IsFirst Has found = MatchOption found ((pc : ℕ) → ¬ Has pc) (IsLeast Has)

-- the lesser of two offsets that there may be
abbrev pub lesser : Option ℕ → Option ℕ → Option ℕ
lesser None second = second
lesser (Some first) None = Some first
lesser (Some first) (Some second) = if nat_le first second then Some first else Some second

-- an offset up to another one, or before it
abbrev pub up_to : ℕ → Option ℕ → Option ℕ
up_to last None = None
up_to last (Some pc) = if nat_le pc last then Some pc else None

abbrev pub before : ℕ → Option ℕ → Option ℕ
before end None = None
before end (Some pc) = if nat_lt pc end then Some pc else None

-- behind the first instruction a frame is given
abbrev pub IsGivenBehind : List (ℕ × Frame) → ℕ → Type 0
IsGivenBehind frames pc = (0 < pc) × IsGiven frames pc

-- an instruction up to a call lets a class escape
abbrev pub EscapesUpTo : WorldOf → Typed → ℕ → ℕ → Type 0
EscapesUpTo world typed call pc = (pc ≤ call) × StandsAt (lets_escape world typed.code) typed.code.instructions typed.frames pc

-- a rule is broken up to a call
abbrev pub IsBrokenUpTo : WorldOf → Typed → ℕ → ℕ → Type 0
IsBrokenUpTo world typed call pc =
    ((pc < call) × MayNotStand typed role.Plain typed.code.instructions pc)
    ⊎ ((pc ≤ call) × IsGivenBehind typed.code.frames pc)
    ⊎ ((pc ≤ call) × IsCovered typed pc)
    ⊎ EscapesUpTo world typed call pc
    ⊎ ((pc ≤ call) × ComparesMore 0 typed.code.instructions pc)
