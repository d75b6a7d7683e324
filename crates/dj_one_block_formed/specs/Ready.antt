-- The tree of a method's one block may be declared as the method's body, where no cause speaks against its instructions and names.
use Rattle.std.specs.Prelude.{◌≡◌, ℕ, ◌≤◌, true, false, length, List, Contains, Some, None, IfSome}
use Rattle.dj_names.specs.declared.header.Header.{Header}
use Rattle.dj_names.specs.declared.members.ClassMembers.{ClassMembers}
use Rattle.dj_names.specs.MethodNames.{is_constructor}
use Rattle.dj_names.specs.Types.{parameters_of, result_of}
use Rattle.dj_syntax.specs.Trees.{Stms}
use Rattle.dj_syntax.specs.UnitText.{is_initialiser}
use Rattle.dj_instructions.specs.Instructions.{Instruction}
use Rattle.dj_code.specs.MethodCode.{Code}
use Rattle.dj_sound.specs.States.{IsStrict}
use Rattle.dj_typing.specs.Sites.{Site, may_name, may_name_type}
use Rattle.dj_blocks_shown.specs.Leaving.{Parts}
use Rattle.dj_members_shown.specs.Meant.{Receiver}
use Rattle.dj_member_nodes.specs.Named.{RootsAreNamed, IsAllowed}
use Rattle.dj_declaring.specs.Bodies.{Writing, IsRight, site_in}
use Rattle.dj_declaring.specs.Starting.{MayEnter}
use Rattle.dj_declaring.specs.Declaring.{IsReady}
use Rattle.dj_method.specs.Parts.{entry_of}
use Rattle.dj_one_block.specs.OneBlock.{head_of, known_in, lone_tree}

-- where the expressions of the code's body stand
abbrev pub site_of : Writing → List Header → List ClassMembers → Code → Site
site_of writing world members code = site_in writing world members (head_of code)

-- what speaks for code: by tests that are right, its class, its result and all that its instructions name can be said, and none of them lacks its member; it keeps Java's rules by its frames, has
-- few parameters, and is no constructor's
pub record IsSpokenFor (world : List Header) (members : List ClassMembers) (writing : Writing) (receivers : ℕ → Receiver) (parts : Parts) : Type 0 where
  pub right : IsRight world members parts.typed.code.class writing
  pub roots : RootsAreNamed (site_of writing world members parts.typed.code)
  pub allowed : (pc : ℕ) (instruction : Instruction) → Contains parts.typed.code.instructions (pc, instruction) → IsAllowed (site_of writing world members parts.typed.code) receivers pc instruction
  pub named : may_name (site_of writing world members parts.typed.code) parts.typed.code.class ≡ true
  pub result : IfSome (result_of parts.typed.code.descriptor) (λ type. may_name_type (site_of writing world members parts.typed.code) type ≡ true)
  pub strict : IsStrict world parts.typed
  pub few : length (parameters_of parts.typed.code.descriptor) ≤ 4294967295
  pub initialises : is_initialiser parts.typed.code.name ≡ true → result_of parts.typed.code.descriptor ≡ None
  pub plain : is_constructor parts.typed.code.name ≡ false

-- the tree may be declared, where the variables may stand at the head of a body
abbrev pub LoneTreesAreReady : Type 0
LoneTreesAreReady =
    (world : List Header) (members : List ClassMembers) (writing : Writing) (receivers : ℕ → Receiver) (parts : Parts) → IsSpokenFor world members writing receivers parts
    → MayEnter (site_of writing world members parts.typed.code) (parameters_of parts.typed.code.descriptor) parts.vars.kinds (entry_of parts)
    → (tree : Stms) → lone_tree (known_in world members parts.typed.code) parts ≡ Some tree
    → IsReady world members writing (head_of parts.typed.code) parts.vars.kinds (entry_of parts) 0 tree
