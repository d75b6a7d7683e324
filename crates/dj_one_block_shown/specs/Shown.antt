-- A method whose code is one block is printed as a body that shows what its code shows, and is typed where what it throws is lawful (JLS 8.4, 14; JVMS 2.11, 4.10).
use Rattle.std.specs.Prelude.{◌≡◌, ◌≢◌, ℕ, List, [], ◌∷◌, map, Option, Some}
use Rattle.dj_names.specs.declared.header.Header.{Header}
use Rattle.dj_names.specs.declared.members.ClassMembers.{ClassMembers}
use Rattle.dj_syntax.specs.Trees.{Body, Stms}
use Rattle.dj_values.specs.Values.{Value}
use Rattle.dj_class.specs.Described.{MethodOf, ClassOf}
use Rattle.dj_code.specs.MethodCode.{Code}
use Rattle.dj_meaning.specs.Members.{view_members}
use Rattle.dj_meaning.specs.Meaning.{context_of}
use Rattle.dj_places.specs.Rules.{Holds}
use Rattle.dj_sound.specs.States.{IsStrict}
use Rattle.dj_bytecode.specs.SameShows.{MayRun, AreArgumentsOf, SameShows}
use Rattle.dj_loaded.specs.Loaded.{HasCore}
use Rattle.dj_vars.specs.Naming.{AreVars, SaysReferences}
use Rattle.dj_rebuilding.specs.Pending.{and_then}
use Rattle.dj_blocks_shown.specs.Leaving.{Parts}
use Rattle.dj_blocks_shown.specs.Composing.{IsBodyOfCode}
use Rattle.dj_members_shown.specs.Meant.{Receiver}
use Rattle.dj_member_ways.specs.Holding.{MembersHold}
use Rattle.dj_declaring.specs.ThrownBodies.{body_thrown}
use Rattle.dj_declaring.specs.Bodies.{Writing, IsTyped}
use Rattle.dj_declaring.specs.Running.{AreMembers}
use Rattle.dj_parameters.specs.Parameters.{printed_body}
use Rattle.dj_method.specs.Parts.{IsCut, entry_of}
use Rattle.dj_method.specs.Shown.{IsOnlyTree}
use Rattle.dj_one_block.specs.OneBlock.{lone_ways, lone_tree, head_of, known_in}
use Rattle.dj_one_block_formed.specs.Ready.{IsSpokenFor, site_of}
use Rattle.dj_one_block_formed.specs.Entering.{IsSaidThrough}

-- code is one block, and catches nothing
pub record IsLone (parts : Parts) : Type 0 where
  pub one : parts.starts ≡ 0 ∷ []
  pub uncaught : parts.typed.code.handlers ≡ []

-- ---- the tree

-- whichever classes run, and whatever the arguments, what stands for the code's instructions does what they do
abbrev pub MembersDo : List Header → List ClassMembers → Parts → Type 0
MembersDo world members parts =
    (headers : List Header) → MayRun world headers → (arguments : List Value) → AreArgumentsOf headers parts.typed.code arguments
    → (bound : ℕ) → MembersHold (context_of headers members (head_of parts.typed.code) arguments) bound parts.typed.code (lone_ways (known_in world members parts.typed.code) parts)

-- then the tree shows the block, and no jump leaves it
abbrev pub LoneTreesShow : Type 0
LoneTreesShow =
    (world : List Header) (members : List ClassMembers) (parts : Parts) → HasCore world → IsStrict world parts.typed → IsLone parts → parts.typed.code.instructions ≢ []
    → AreVars parts.typed parts.starts parts.vars → SaysReferences parts.typed → MembersDo world members parts
    → (tree : Stms) → lone_tree (known_in world members parts.typed.code) parts ≡ Some tree → IsOnlyTree world members (head_of parts.typed.code) parts tree

-- ---- the method

-- a world has the core of classes, and its members are those of its classes
pub record IsKnown (world : List Header) (members : List ClassMembers) : Type 0 where
  pub core : HasCore world
  pub lawful : AreMembers world (map view_members members)

-- what is known of a method of one block: it is read, verified and cut, with its variables; and no cause speaks against its instructions, nor against what it names
pub record IsLoneMethod (world : List Header) (members : List ClassMembers) (writing : Writing) (receivers : ℕ → Receiver) (class : ClassOf) (found : MethodOf) (parts : Parts) : Type 0 where
  pub cut : IsCut world class found parts
  pub lone : IsLone parts
  pub spoken : IsSpokenFor world members writing receivers parts
  pub said : IsSaidThrough (site_of writing world members parts.typed.code) parts.typed.code

-- the body that is printed of it: the tree of its one block, with parameters in place of their copies, declared and numbered
abbrev pub printed_lone : List Header → List ClassMembers → Parts → Option Body
printed_lone world members parts =
    and_then (lone_tree (known_in world members parts.typed.code) parts)
    (λ tree. Some (printed_body (known_in world members parts.typed.code) (head_of parts.typed.code) parts.vars.kinds (entry_of parts) 0 tree))

-- it shows what the code shows, and is typed where what it throws is lawful
pub record IsShown (world : List Header) (members : List ClassMembers) (code : Code) (body : Body) : Type 0 where
  pub of_code : IsBodyOfCode code body
  pub same : SameShows world members code body
  pub typed : Holds (body_thrown world members body) → IsTyped world members body

-- so it is with each method of one block
abbrev pub OneBlockMethodsAreShown : Type 0
OneBlockMethodsAreShown =
    (world : List Header) (members : List ClassMembers) → IsKnown world members → (writing : Writing) (receivers : ℕ → Receiver) (class : ClassOf) (found : MethodOf) (parts : Parts)
    → IsLoneMethod world members writing receivers class found parts → (body : Body) → printed_lone world members parts ≡ Some body → IsShown world members parts.typed.code body
