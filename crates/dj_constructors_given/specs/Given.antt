-- What it gives the laws on constructors of one block that no cause is told of a constructor with code (JLS 8.8.7; JVMS 4.10.1.9).
use Rattle.std.specs.Prelude.{◌≡◌, ◌≢◌, ℕ, ◌<◌, ◌≤◌, true, false, Contains}
use Rattle.dj_class.specs.Described.{ClassOf}
use Rattle.dj_world.specs.Worlds.{WorldOf}
use Rattle.dj_instructions.specs.Instructions.{Instruction}
use Rattle.dj_frames.specs.Frames.{has_unborn_this}
use Rattle.dj_code.specs.MethodCode.{Code, Typed}
use Rattle.dj_starts.specs.Starts.{IsGiven}
use Rattle.dj_starts.specs.declared.roles.Role.TheVariants as role
use Rattle.dj_typed.specs.Bodies.{Writing, IsRight}
use Rattle.dj_meant.specs.Meant.{Receiver}
use Rattle.dj_member_nodes.specs.Named.{IsAllowed}
use Rattle.dj_receivers.specs.Passing.{pass_of}
use Rattle.dj_escaping.specs.Escaping.{lets_escape}
use Rattle.dj_birth_causes.specs.Comparisons.{ComparesMore}
use Rattle.dj_birth_causes.specs.OwnCalls.{StandsAt, IsOwnCall}
use Rattle.dj_birth_causes.specs.Beginning.{is_own, begins_with_receiver, MayNotStand, IsCovered}
use Rattle.dj_blocks_shown.specs.Leaving.{Parts}
use Rattle.dj_one_block_shown.specs.Shown.{IsKnown}
use Rattle.dj_given.specs.Given.{IsFree, site_of}
use Rattle.dj_constructors.specs.Shown.{IsConstructor, CallsOwn, OthersDo}

-- ---- what is known

-- code is that of a constructor, but Object's, and calls another constructor on `this` at one offset
pub record IsBegunAt (typed : Typed) (own : ℕ) : Type 0 where
  pub unborn : has_unborn_this typed.code.class typed.code.name ≡ true
  pub calls : IsOwnCall typed own
  pub only : (pc : ℕ) → IsOwnCall typed pc → pc ≡ own

-- ---- what follows

-- the receivers of calls, with which each instruction but that call has its member and may stand in source
pub record OthersAreAllowedBut (writing : Writing) (world : WorldOf) (code : Code) (own : ℕ) : Type 0 where
  pub receivers : ℕ → Receiver
  pub allowed : (pc : ℕ) (instruction : Instruction) → Contains code.instructions (pc, instruction) → pc ≢ own → IsAllowed (site_of writing world code) receivers pc instruction

-- the code up to the call is that call's receiver and arguments: it begins with what the constructor is called on, which isn't loaded again, and what stands before the call can be written as its arguments
pub record IsOpening (world : WorldOf) (typed : Typed) (own : ℕ) : Type 0 where
  pub receiver : begins_with_receiver typed.code.instructions typed.frames ≡ true
  pub sole : (pc : ℕ) (instruction : Instruction) → Contains typed.code.instructions (pc, instruction) → 0 < pc → pc < own → is_own (pass_of instruction) ≡ false
  pub inside : (pc : ℕ) → pc < own → ¬ MayNotStand typed role.Plain typed.code.instructions pc
  pub given : (pc : ℕ) → 0 < pc → pc ≤ own → ¬ IsGiven typed.code.frames pc
  pub uncovered : (pc : ℕ) → pc ≤ own → ¬ IsCovered typed pc
  pub thrown : (pc : ℕ) → pc ≤ own → ¬ StandsAt (lets_escape world typed.code) typed.code.instructions typed.frames pc
  pub plain : (pc : ℕ) → pc ≤ own → ¬ ComparesMore 0 typed.code.instructions pc

-- ---- the laws

-- it is a constructor's
abbrev pub ConstructorsAreGiven : Type 0
ConstructorsAreGiven = (world : WorldOf) (class : ClassOf) (at : ℕ) (typed : Typed) (own : ℕ) → IsFree world class at typed → IsBegunAt typed own → IsConstructor typed.code

-- the other instructions may stand in source
abbrev pub OthersAreGivenBut : Type 0
OthersAreGivenBut =
    (world : WorldOf) (class : ClassOf) (at : ℕ) (typed : Typed) (own : ℕ) (writing : Writing) → IsFree world class at typed → IsRight world.headers world.members typed.code.class writing
    → IsBegunAt typed own → OthersAreAllowedBut writing world typed.code own

-- what stands for them does what they do
abbrev pub OthersDoTheirs : Type 0
OthersDoTheirs =
    (world : WorldOf) (class : ClassOf) (at : ℕ) (parts : Parts) (own : ℕ) (writing : Writing) → IsFree world class at parts.typed → IsRight world.headers world.members parts.typed.code.class writing
    → IsBegunAt parts.typed own → IsKnown world.headers world.members → OthersDo world.headers world.members parts own

-- the call means what source says
abbrev pub OwnCallsAreGiven : Type 0
OwnCallsAreGiven =
    (world : WorldOf) (class : ClassOf) (at : ℕ) (typed : Typed) (own : ℕ) (writing : Writing) → IsFree world class at typed → IsRight world.headers world.members typed.code.class writing
    → IsBegunAt typed own → CallsOwn world.headers world.members typed.code own

-- the code up to it can be written
abbrev pub OpeningsAreGiven : Type 0
OpeningsAreGiven = (world : WorldOf) (class : ClassOf) (at : ℕ) (typed : Typed) (own : ℕ) → IsFree world class at typed → IsBegunAt typed own → IsOpening world typed own
