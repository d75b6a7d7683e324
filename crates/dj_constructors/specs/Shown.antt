-- The tree of a constructor of one block shows the block.
use Rattle.std.specs.Prelude.{◌≡◌, ◌≢◌, ℕ, true, false, List, [], map, Contains, Some}
use Rattle.dj_names.specs.declared.header.Header.{Header}
use Rattle.dj_names.specs.declared.members.ClassMembers.{ClassMembers}
use Rattle.dj_names.specs.MethodNames.{is_constructor}
use Rattle.dj_names.specs.Types.{Class, Of, parameters_of}
use Rattle.dj_syntax.specs.Trees.{Stms}
use Rattle.dj_instructions.specs.Instructions.{MethodRef}
use Rattle.dj_instructions.specs.Instructions as op
use Rattle.dj_values.specs.Values.{Value}
use Rattle.dj_values.specs.Deciding.{is_type}
use Rattle.dj_values.specs.Fits.{is_static}
use Rattle.dj_frames.specs.Frames.{has_unborn_this}
use Rattle.dj_code.specs.MethodCode.{Code}
use Rattle.dj_bytecode.specs.SameShows.{MayRun, AreArgumentsOf}
use Rattle.dj_meaning.specs.Members.{view_members}
use Rattle.dj_meaning.specs.Meaning.{context_of}
use Rattle.dj_typing.specs.Sites.{is_whole}
use Rattle.dj_widened.specs.Meant.{AreAllWhole}
use Rattle.dj_sound.specs.States.{IsStrict}
use Rattle.dj_vars.specs.Naming.{AreVars, SaysReferences}
use Rattle.dj_blocks_shown.specs.Leaving.{Parts}
use Rattle.dj_members_shown.specs.Meant.{IsOfConstruct}
use Rattle.dj_method.specs.Shown.{IsOnlyTree}
use Rattle.dj_member_ways.specs.Holding.{MembersHold}
use Rattle.dj_one_block.specs.OneBlock.{lone_ways, head_of, known_in}
use Rattle.dj_one_block_shown.specs.Shown.{IsKnown, IsLone}
use Rattle.dj_constructors.specs.Opening.{without, constructor_tree}

-- whichever classes run, what stands for the instructions but the call of another constructor does what they do
abbrev pub OthersDo : List Header → List ClassMembers → Parts → ℕ → Type 0
OthersDo world members parts own =
    (headers : List Header) → MayRun world headers → (arguments : List Value) → AreArgumentsOf headers parts.typed.code arguments
    → (bound : ℕ) → MembersHold (context_of headers members (head_of parts.typed.code) arguments) bound (record parts.typed.code { instructions = without own parts.typed.code.instructions }) (lone_ways (known_in world members parts.typed.code) parts)

-- the call of a constructor on `this` at an offset means what source says, and the types of its parameters are whole
pub record CallsOwn (world : List Header) (members : List ClassMembers) (code : Code) (own : ℕ) : Type 0 where
  pub means : (method : MethodRef) → Contains code.instructions (own, op.InvokeSpecial method) → is_constructor method.name ≡ true → IsOfConstruct world (map view_members members) code.class method
  pub told : (method : MethodRef) (has : Contains code.instructions (own, op.InvokeSpecial method)) (named : is_constructor method.name ≡ true) → (means method has named).own ≡ is_type method.owner (Class code.class)
  pub whole : (method : MethodRef) → Contains code.instructions (own, op.InvokeSpecial method) → AreAllWhole world (map Of (parameters_of method.descriptor))

-- a constructor, but Object's
pub record IsConstructor (code : Code) : Type 0 where
  pub named : is_constructor code.name ≡ true
  pub instance : is_static code.flags ≡ false
  pub unborn : has_unborn_this code.class code.name ≡ true

-- then the tree shows the block, and no jump leaves it
abbrev pub ConstructorTreesShow : Type 0
ConstructorTreesShow =
    (world : List Header) (members : List ClassMembers) (parts : Parts) (own : ℕ) → IsKnown world members → IsStrict world parts.typed → is_whole world parts.typed.code.class ≡ true → IsLone parts → parts.typed.code.instructions ≢ []
    → AreVars parts.typed parts.starts parts.vars → SaysReferences parts.typed → IsConstructor parts.typed.code → OthersDo world members parts own → CallsOwn world members parts.typed.code own
    → (tree : Stms) → constructor_tree (known_in world members parts.typed.code) parts own ≡ Some tree → IsOnlyTree world members (head_of parts.typed.code) parts tree
