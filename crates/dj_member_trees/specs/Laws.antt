-- What is built for an instruction on members, arrays or classes is what it is rebuilt to.
use Rattle.std.specs.Prelude.{◌≡◌, ℕ, true, List}
use Rattle.dj_names.specs.declared.header.Header.{Header}
use Rattle.dj_names.specs.Headers.{Name}
use Rattle.dj_instructions.specs.Instructions.{Instruction}
use Rattle.dj_places.specs.Constants.{Surroundings}
use Rattle.dj_rebuilding.specs.Pending.{Pending}
use Rattle.dj_rebuilt.specs.Sorts.{sort_of}
use Rattle.dj_rebuilt.specs.Rebuilding.{Names, Ways, under, advance}
use Rattle.dj_member_nodes.specs.Together.{AreMemberWays}
use Rattle.dj_member_trees.specs.Stepping.{is_member, member_built}

-- for any ways by which members are named
abbrev pub MembersAdvance : Type 0
MembersAdvance =
    (known : Surroundings) (ways : Ways) → AreMemberWays known ways → (headers : List Header) (class : Name) (names : Names) (pc n : ℕ) (stack : List Pending) (instruction : Instruction) → is_member instruction ≡ true
    → advance headers class ways names pc instruction n stack (sort_of instruction) ≡ under names (member_built known instruction n stack)
