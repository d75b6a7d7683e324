-- Where no cause speaks against the names that a constructor's code has and none of its instructions works on floats, its variables may stand at the head of its body.
use Rattle.std.specs.Prelude.{◌≡◌, ◌≢◌, ℕ, List, [], ◌∷◌}
use Rattle.dj_names.specs.declared.header.Header.{Header}
use Rattle.dj_names.specs.declared.members.ClassMembers.{ClassMembers}
use Rattle.dj_names.specs.Types.{parameters_of}
use Rattle.dj_members_shown.specs.Meant.{Receiver}
use Rattle.dj_vars.specs.Naming.{AreVars, SaysReferences}
use Rattle.dj_blocks_shown.specs.Leaving.{Parts}
use Rattle.dj_declaring.specs.Bodies.{Writing}
use Rattle.dj_declaring.specs.Starting.{MayEnter}
use Rattle.dj_method.specs.Parts.{entry_of}
use Rattle.dj_one_block_formed.specs.Ready.{site_of}
use Rattle.dj_one_block_formed.specs.Entering.{IsSaidThrough}
use Rattle.dj_constructors_formed.specs.Ready.{IsBegunRight}

-- then the variables of a constructor of one block may stand at the head of its body; `this` isn't born as it begins, so none is copied from it
abbrev pub ConstructorsMayEnter : Type 0
ConstructorsMayEnter =
    (world : List Header) (members : List ClassMembers) (writing : Writing) (receivers : ℕ → Receiver) (parts : Parts) (own : ℕ) → IsBegunRight world members writing receivers parts own
    → IsSaidThrough (site_of writing world members parts.typed.code) parts.typed.code → SaysReferences parts.typed → AreVars parts.typed parts.starts parts.vars → parts.starts ≡ 0 ∷ [] → parts.typed.code.instructions ≢ []
    → MayEnter (site_of writing world members parts.typed.code) (parameters_of parts.typed.code.descriptor) parts.vars.kinds (entry_of parts)
