-- A constructor whose code is one block is printed as a body that shows what its code shows, and is typed where what it throws is lawful (JLS 8.8.7; JVMS 2.9.1, 4.10.1.9).
use Rattle.std.specs.Prelude.{◌≡◌, ℕ, List, Option, Some}
use Rattle.dj_names.specs.declared.header.Header.{Header}
use Rattle.dj_names.specs.declared.members.ClassMembers.{ClassMembers}
use Rattle.dj_syntax.specs.Trees.{Body}
use Rattle.dj_class.specs.Described.{MethodOf, ClassOf}
use Rattle.dj_rebuilding.specs.Pending.{and_then}
use Rattle.dj_blocks_shown.specs.Leaving.{Parts}
use Rattle.dj_members_shown.specs.Meant.{Receiver}
use Rattle.dj_declaring.specs.Bodies.{Writing}
use Rattle.dj_parameters.specs.Parameters.{printed_body}
use Rattle.dj_method.specs.Parts.{IsCut, entry_of}
use Rattle.dj_one_block.specs.OneBlock.{head_of, known_in}
use Rattle.dj_one_block_formed.specs.Ready.{site_of}
use Rattle.dj_one_block_formed.specs.Entering.{IsSaidThrough}
use Rattle.dj_one_block_shown.specs.Shown.{IsKnown, IsLone, IsShown}
use Rattle.dj_constructors.specs.Opening.{constructor_tree}
use Rattle.dj_constructors.specs.Shown.{OthersDo}
use Rattle.dj_constructors_formed.specs.Ready.{IsBegunRight}

-- what is known of a constructor of one block whose call of another one stands at an offset: it is read, verified and cut, with its variables; what stands for its other instructions does what they do; and
-- no cause speaks against these, against that call, nor against what the code names
pub record IsBegunMethod (world : List Header) (members : List ClassMembers) (writing : Writing) (receivers : ℕ → Receiver) (class : ClassOf) (found : MethodOf) (parts : Parts) (own : ℕ) : Type 0 where
  pub cut : IsCut world class found parts
  pub lone : IsLone parts
  pub begun : IsBegunRight world members writing receivers parts own
  pub said : IsSaidThrough (site_of writing world members parts.typed.code) parts.typed.code
  pub others : OthersDo world members parts own

-- the body that is printed of it: the call, with parameters as they are, and behind it the statements of the rest of the block, with parameters in place of their copies, declared and numbered
abbrev pub printed_constructor : List Header → List ClassMembers → Parts → ℕ → Option Body
printed_constructor world members parts own =
    and_then (constructor_tree (known_in world members parts.typed.code) parts own)
    (λ tree. Some (printed_body (known_in world members parts.typed.code) (head_of parts.typed.code) parts.vars.kinds (entry_of parts) 0 tree))

-- it shows what the constructor's code shows, and is typed where what it throws is lawful
abbrev pub ConstructorsAreShown : Type 0
ConstructorsAreShown =
    (world : List Header) (members : List ClassMembers) → IsKnown world members → (writing : Writing) (receivers : ℕ → Receiver) (class : ClassOf) (found : MethodOf) (parts : Parts) (own : ℕ)
    → IsBegunMethod world members writing receivers class found parts own → (body : Body) → printed_constructor world members parts own ≡ Some body → IsShown world members parts.typed.code body
