-- What it gives the laws on blocks that no cause is told of a method with code.
use Rattle.std.specs.Prelude.{◌≡◌, ◌≢◌, ℕ, ◌≤◌, true, false, [], length, Contains, Some, None, IfSome, slice_get, map}
use Rattle.dj_names.specs.Headers.{Name}
use Rattle.dj_names.specs.MethodNames.{is_constructor, is_initialiser}
use Rattle.dj_names.specs.Types.{parameters_of, result_of}
use Rattle.dj_class.specs.Described.{ClassOf, MethodOf}
use Rattle.dj_world.specs.Worlds.{WorldOf, IsWorld}
use Rattle.dj_instructions.specs.Instructions.{MethodRef, Instruction, InvokeSpecial}
use Rattle.dj_code.specs.MethodCode.{Code, Typed}
use Rattle.dj_code.specs.ReadCode.{SpellsCode}
use Rattle.dj_tags.specs.Laxly.{Laxly}
use Rattle.dj_verify.specs.Verified.{IsTyped}
use Rattle.dj_sound.specs.States.{IsStrict}
use Rattle.dj_meaning.specs.Members.{view_members}
use Rattle.dj_typing.specs.Sites.{Site, is_whole, may_name, may_name_type}
use Rattle.dj_typed.specs.Bodies.{Writing, IsRight, site_in}
use Rattle.dj_meant.specs.Meant.{Receiver, IsOfConstruct}
use Rattle.dj_member_nodes.specs.Named.{AreNamed, IsNamed, RootsAreNamed, IsAllowed}
use Rattle.dj_code_causes.specs.Floats.{works_on_float, spells_float}
use Rattle.dj_code_causes.specs.Dynamics.{is_dynamic}
use Rattle.dj_code_causes.specs.NamedIn.{IsInCode}
use Rattle.dj_birth_causes.specs.OwnCalls.{IsOwnCall}
use Rattle.dj_method_causes.specs.Telling.{HasNoCause}
use Rattle.dj_one_block.specs.OneBlock.{head_of}

-- ---- what is known

-- a method at a place of a class, with code that is read from the class file and verified in the world, and no cause
pub record IsFree (world : WorldOf) (class : ClassOf) (at : ℕ) (typed : Typed) : Type 0 where
  pub is_world : IsWorld world
  pub method : MethodOf
  pub here : slice_get class.methods at ≡ Some method
  pub spells : SpellsCode class method typed.code
  pub table : IsTyped (Laxly world.headers) world.headers typed
  pub free : HasNoCause world class at typed

-- no instruction calls another constructor on `this`
abbrev pub CallsNoOwn : Typed → Type 0
CallsNoOwn typed = (pc : ℕ) → ¬ IsOwnCall typed pc

-- ---- what follows

-- where the expressions of the code's body stand
abbrev pub site_of : Writing → WorldOf → Code → Site
site_of writing world code = site_in writing world.headers world.members (head_of code)

-- each instruction names what can be said, and so do the head and what every text rests on
pub record AllIsNamed (writing : Writing) (world : WorldOf) (code : Code) : Type 0 where
  pub instructions : (pc : ℕ) (instruction : Instruction) → Contains code.instructions (pc, instruction) → IsNamed (site_of writing world code) instruction
  pub classes : (name : Name) → IsInCode code name → may_name (site_of writing world code) name ≡ true
  pub class : may_name (site_of writing world code) code.class ≡ true
  pub parameters : AreNamed (site_of writing world code) (parameters_of code.descriptor)
  pub result : IfSome (result_of code.descriptor) (λ type. may_name_type (site_of writing world code) type ≡ true)
  pub roots : RootsAreNamed (site_of writing world code)

-- the receivers of calls, with which each instruction has its member and may stand in source
pub record AllAreAllowed (writing : Writing) (world : WorldOf) (code : Code) : Type 0 where
  pub receivers : ℕ → Receiver
  pub allowed : (pc : ℕ) (instruction : Instruction) → Contains code.instructions (pc, instruction) → IsAllowed (site_of writing world code) receivers pc instruction

-- so for all but calls of another constructor on `this`, by which source means what the instruction names
pub record OthersAreAllowed (writing : Writing) (world : WorldOf) (typed : Typed) : Type 0 where
  pub receivers : ℕ → Receiver
  pub allowed : (pc : ℕ) (instruction : Instruction) → Contains typed.code.instructions (pc, instruction) → ¬ IsOwnCall typed pc → IsAllowed (site_of writing world typed.code) receivers pc instruction
  pub own : (pc : ℕ) (method : MethodRef) → Contains typed.code.instructions (pc, InvokeSpecial method) → IsOwnCall typed pc → is_constructor method.name ≡ true → IsOfConstruct world.headers (map view_members world.members) typed.code.class method

-- the head is one that Java has
pub record IsHeadRight (code : Code) : Type 0 where
  pub few : length (parameters_of code.descriptor) ≤ 4294967295
  pub initialises : is_initialiser code.name ≡ true → result_of code.descriptor ≡ None
  pub constructs : is_constructor code.name ≡ true → result_of code.descriptor ≡ None

-- no instruction works on floats or is dynamic, and the head names no float
pub record IsRun (code : Code) : Type 0 where
  pub linked : (pc : ℕ) (instruction : Instruction) → Contains code.instructions (pc, instruction) → is_dynamic instruction ≡ false
  pub floats : (pc : ℕ) (instruction : Instruction) → Contains code.instructions (pc, instruction) → works_on_float instruction ≡ false
  pub head : spells_float code.descriptor ≡ false

-- the class is in the world, with each class above it, and each class has members
pub record IsInWorld (world : WorldOf) (code : Code) : Type 0 where
  pub whole : is_whole world.headers code.class ≡ true
  pub paired : length (map view_members world.members) ≤ length world.headers

-- ---- the laws

-- names that are used can be said
abbrev pub NamesAreGiven : Type 0
NamesAreGiven =
    (world : WorldOf) (class : ClassOf) (at : ℕ) (typed : Typed) (writing : Writing) → IsFree world class at typed → IsRight world.headers world.members typed.code.class writing
    → AllIsNamed writing world typed.code

-- instructions may stand in source
abbrev pub MembersAreGiven : Type 0
MembersAreGiven =
    (world : WorldOf) (class : ClassOf) (at : ℕ) (typed : Typed) (writing : Writing) → IsFree world class at typed → IsRight world.headers world.members typed.code.class writing
    → CallsNoOwn typed → AllAreAllowed writing world typed.code

-- and where calls of another constructor stand, the others may
abbrev pub OthersAreGiven : Type 0
OthersAreGiven =
    (world : WorldOf) (class : ClassOf) (at : ℕ) (typed : Typed) (writing : Writing) → IsFree world class at typed → IsRight world.headers world.members typed.code.class writing
    → OthersAreAllowed writing world typed

-- no float is worked on
abbrev pub RunsAreGiven : Type 0
RunsAreGiven = (world : WorldOf) (class : ClassOf) (at : ℕ) (typed : Typed) → IsFree world class at typed → IsRun typed.code

-- Java's rules are kept by the frames
abbrev pub StrictIsGiven : Type 0
StrictIsGiven = (world : WorldOf) (class : ClassOf) (at : ℕ) (typed : Typed) → IsFree world class at typed → IsStrict world.headers typed

-- the head is right, where locals are as few as class files have
abbrev pub HeadsAreGiven : Type 0
HeadsAreGiven = (world : WorldOf) (class : ClassOf) (at : ℕ) (typed : Typed) → IsFree world class at typed → typed.code.instructions ≢ [] → typed.code.max_locals ≤ 65535 → IsHeadRight typed.code

-- the class is in the world
abbrev pub ClassesAreGiven : Type 0
ClassesAreGiven = (world : WorldOf) (class : ClassOf) (at : ℕ) (typed : Typed) → IsFree world class at typed → IsInWorld world typed.code
