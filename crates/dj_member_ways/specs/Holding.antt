-- What stands for instructions on numbers, members, arrays and classes does what they do, whatever classes run besides those of the world.
use Rattle.std.specs.Prelude.{◌≡◌, ℕ, true, List, Contains, Option, Some}
use Rattle.dj_names.specs.Headers.{Name}
use Rattle.dj_names.specs.Types.{JType, Class, StaticType, Of}
use Rattle.dj_syntax.specs.Trees.{Exp}
use Rattle.dj_instructions.specs.Instructions.{Instruction}
use Rattle.dj_code.specs.MethodCode.{Code}
use Rattle.dj_values.specs.Values.{RefValue, Value, Ref}
use Rattle.dj_values.specs.Outcomes.{Reply}
use Rattle.dj_meaning.specs.StaticTypes.{Context, Scope}
use Rattle.dj_meaning.specs.Variables.{EachInStm}
use Rattle.dj_bytecode.specs.Meanings.{Strict, meaning_of}
use Rattle.dj_loaded.specs.Loaded.{HasCore, MayRun}
use Rattle.dj_held.specs.Running.{AreMembers}
use Rattle.dj_typing.specs.Sites.{Site, is_whole}
use Rattle.dj_rebuilding.specs.Pending.{Atom, Typed, is_kept, is_kept_by}
use Rattle.dj_rebuilding.specs.Agreeing.{IsBelow, IsEntry}
use Rattle.dj_rebuilt.specs.Rebuilding.{Plain, Ways}
use Rattle.dj_rebuilt.specs.Standing.{AreOperands, IsNoded, IsConstant, IsEffect, IsBirth}
use Rattle.dj_blocks_formed.specs.Formed.{constants_of}
use Rattle.dj_members_shown.specs.Meant.{Receiver}
use Rattle.dj_member_nodes.specs.Named.{RootsAreNamed, IsAllowed}
use Rattle.dj_member_nodes.specs.Together.{AreMemberWays}

-- where the body of a site's class runs (JVMS 5.3.5): among classes that may run with those of the world, which has the core, whose members are those of its classes, and which knows this class whole
pub record RunsIn (site : Site) (context : Context) : Type 0 where
  pub core : HasCore site.headers
  pub may : MayRun site.headers context.headers
  pub members : context.members ≡ site.members
  pub class : context.class ≡ site.class
  pub lawful : AreMembers site.headers site.members
  pub whole : is_whole site.headers site.class ≡ true

-- what stands for the code's instructions does what they do (JVMS 6.5; JLS 15.8 to 15.26)
pub record MembersHold (context : Context) (bound : ℕ) (code : Code) (ways : Ways) : Type 0 where
  pub goes : (static : StaticType) (type : JType) → ways.goes static type ≡ true → (reference : RefValue) → is_kept context.headers static (Ref reference) ≡ true → is_kept_by context.headers type (Ref reference) ≡ true
  pub constants : (instruction : Instruction) (found : StaticType × Atom) → ways.constant instruction ≡ Some found → (count : ℕ) (operation : List Value → Reply (Option Value)) → meaning_of context.headers code.class instruction ≡ Strict count operation → IsConstant context count operation found
  pub nodes : (pc : ℕ) (instruction : Instruction) → Contains code.instructions (pc, instruction) → (are : List Typed) (found : Typed) → ways.node instruction are ≡ Some found → (count : ℕ) (operation : List Value → Reply (Option Value)) → meaning_of context.headers code.class instruction ≡ Strict count operation
      → (n : ℕ) (inner : Scope) → AreOperands context n inner are → IsNoded context n inner operation are found
  pub effects : (pc : ℕ) (instruction : Instruction) → Contains code.instructions (pc, instruction) → (are : List Typed) (found : Plain) → ways.effect instruction are ≡ Some found → (count : ℕ) (operation : List Value → Reply (Option Value)) → meaning_of context.headers code.class instruction ≡ Strict count operation
      → (n : ℕ) (inner : Scope) → AreOperands context n inner are → IsEffect context bound inner operation are found.0 × EachInStm (IsBelow n) found.0
  pub births : (pc : ℕ) (instruction : Instruction) → Contains code.instructions (pc, instruction) → (made : Name) (are : List Typed) (exp : Exp) → ways.birth instruction made are ≡ Some exp → (count : ℕ) (operation : List Value → Reply (Option Value)) → meaning_of context.headers code.class instruction ≡ Strict count operation
      → (n : ℕ) (inner : Scope) → AreOperands context n inner are → IsBirth context inner made operation are exp × IsEntry context n inner (Of (Class made)) exp

-- so it is where no cause speaks against an instruction of the code
abbrev pub MemberWaysHold : Type 0
MemberWaysHold =
    (site : Site) → RootsAreNamed site → (receivers : ℕ → Receiver) (code : Code) → code.class ≡ site.class → ((pc : ℕ) (instruction : Instruction) → Contains code.instructions (pc, instruction) → IsAllowed site receivers pc instruction)
    → (context : Context) → RunsIn site context → (bound : ℕ) (ways : Ways) → AreMemberWays (constants_of site) ways → MembersHold context bound code ways
