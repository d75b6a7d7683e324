-- The tree of a constructor of one block may be declared as the constructor's body, where no cause speaks against its instructions and names (JLS 8.8.7.1).
use Rattle.std.specs.Prelude.{◌≡◌, ◌≢◌, ℕ, ◌<◌, ◌≤◌, true, false, length, List, Contains, Some, None}
use Rattle.dj_names.specs.declared.header.Header.{Header}
use Rattle.dj_names.specs.declared.members.ClassMembers.{ClassMembers}
use Rattle.dj_names.specs.Types.{parameters_of, result_of}
use Rattle.dj_syntax.specs.Trees.{Stms}
use Rattle.dj_instructions.specs.Instructions.{Instruction}
use Rattle.dj_starts.specs.declared.roles.Role.TheVariants as role
use Rattle.dj_sound.specs.States.{IsStrict}
use Rattle.dj_receivers.specs.Passing.{pass_of}
use Rattle.dj_birth_causes.specs.Beginning.{is_own, MayNotStand}
use Rattle.dj_typing.specs.Sites.{may_name}
use Rattle.dj_blocks_shown.specs.Leaving.{Parts}
use Rattle.dj_members_shown.specs.Meant.{Receiver}
use Rattle.dj_member_nodes.specs.Named.{RootsAreNamed, AreNamed, IsNamed, IsAllowed}
use Rattle.dj_declaring.specs.Bodies.{Writing, IsRight}
use Rattle.dj_declaring.specs.Starting.{MayEnter}
use Rattle.dj_declaring.specs.Declaring.{IsReady}
use Rattle.dj_method.specs.Parts.{entry_of}
use Rattle.dj_one_block.specs.OneBlock.{head_of, known_in}
use Rattle.dj_one_block_formed.specs.Ready.{site_of}
use Rattle.dj_constructors.specs.Opening.{constructor_tree}
use Rattle.dj_constructors.specs.Shown.{CallsOwn, IsConstructor}

-- what speaks for a constructor whose call of another one on `this` stands at an offset: by tests that are right, its class and all that it names can be said; that call means what source says, and no other
-- instruction lacks its member; before it stands what may stand in a birth, and behind the first instruction none loads `this`; and the code keeps Java's rules by its frames, and has few parameters
pub record IsBegunRight (world : List Header) (members : List ClassMembers) (writing : Writing) (receivers : ℕ → Receiver) (parts : Parts) (own : ℕ) : Type 0 where
  pub right : IsRight world members parts.typed.code.class writing
  pub roots : RootsAreNamed (site_of writing world members parts.typed.code)
  pub names : (pc : ℕ) (instruction : Instruction) → Contains parts.typed.code.instructions (pc, instruction) → IsNamed (site_of writing world members parts.typed.code) instruction
  pub named : may_name (site_of writing world members parts.typed.code) parts.typed.code.class ≡ true
  pub parameters : AreNamed (site_of writing world members parts.typed.code) (parameters_of parts.typed.code.descriptor)
  pub constructor : IsConstructor parts.typed.code
  pub result : result_of parts.typed.code.descriptor ≡ None
  pub few : length (parameters_of parts.typed.code.descriptor) ≤ 4294967295
  pub strict : IsStrict world parts.typed
  pub calls : CallsOwn world members parts.typed.code own
  pub allowed : (pc : ℕ) (instruction : Instruction) → Contains parts.typed.code.instructions (pc, instruction) → pc ≢ own → IsAllowed (site_of writing world members parts.typed.code) receivers pc instruction
  pub inside : (pc : ℕ) → pc < own → ¬ MayNotStand parts.typed role.Plain parts.typed.code.instructions pc
  pub sole : (pc : ℕ) (instruction : Instruction) → Contains parts.typed.code.instructions (pc, instruction) → 0 < pc → pc < own → is_own (pass_of instruction) ≡ false

-- the tree may be declared, where the variables may stand at the head of a body
abbrev pub ConstructorTreesAreReady : Type 0
ConstructorTreesAreReady =
    (world : List Header) (members : List ClassMembers) (writing : Writing) (receivers : ℕ → Receiver) (parts : Parts) (own : ℕ) → IsBegunRight world members writing receivers parts own
    → MayEnter (site_of writing world members parts.typed.code) (parameters_of parts.typed.code.descriptor) parts.vars.kinds (entry_of parts)
    → (tree : Stms) → constructor_tree (known_in world members parts.typed.code) parts own ≡ Some tree
    → IsReady world members writing (head_of parts.typed.code) parts.vars.kinds (entry_of parts) 0 tree
