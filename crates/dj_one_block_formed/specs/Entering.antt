-- Where no cause speaks against the names that code has and none of its instructions works on floats, its variables may stand at the head of its body.
use Rattle.std.specs.Prelude.{◌≡◌, ◌≢◌, ℕ, true, false, List, [], ◌∷◌, Contains}
use Rattle.dj_names.specs.declared.header.Header.{Header}
use Rattle.dj_names.specs.declared.members.ClassMembers.{ClassMembers}
use Rattle.dj_names.specs.Headers.{Name}
use Rattle.dj_names.specs.Types.{parameters_of}
use Rattle.dj_instructions.specs.Instructions.{Instruction}
use Rattle.dj_code.specs.MethodCode.{Code}
use Rattle.dj_typing.specs.Sites.{Site, may_name}
use Rattle.dj_code_causes.specs.NamedIn.{IsInCode}
use Rattle.dj_code_causes.specs.Dynamics.{is_dynamic}
use Rattle.dj_code_causes.specs.Floats.{spells_float, works_on_float}
use Rattle.dj_members_shown.specs.Meant.{Receiver}
use Rattle.dj_vars.specs.Naming.{AreVars, SaysReferences}
use Rattle.dj_blocks_shown.specs.Leaving.{Parts}
use Rattle.dj_declaring.specs.Bodies.{Writing}
use Rattle.dj_declaring.specs.Starting.{MayEnter}
use Rattle.dj_method.specs.Parts.{entry_of}
use Rattle.dj_one_block_formed.specs.Ready.{site_of, IsSpokenFor}

-- each class that code names can be named, none of its instructions is linked as the program runs, and none works on floats or doubles, which its descriptor hasn't either
pub record IsSaidThrough (site : Site) (code : Code) : Type 0 where
  pub classes : (name : Name) → IsInCode code name → may_name site name ≡ true
  pub linked : (pc : ℕ) (instruction : Instruction) → Contains code.instructions (pc, instruction) → is_dynamic instruction ≡ false
  pub floats : (pc : ℕ) (instruction : Instruction) → Contains code.instructions (pc, instruction) → works_on_float instruction ≡ false
  pub plain : spells_float code.descriptor ≡ false

-- then the variables of code of one block may stand at the head of its body
abbrev pub VariablesMayEnter : Type 0
VariablesMayEnter =
    (world : List Header) (members : List ClassMembers) (writing : Writing) (receivers : ℕ → Receiver) (parts : Parts) → IsSpokenFor world members writing receivers parts
    → IsSaidThrough (site_of writing world members parts.typed.code) parts.typed.code → SaysReferences parts.typed → AreVars parts.typed parts.starts parts.vars → parts.starts ≡ 0 ∷ [] → parts.typed.code.instructions ≢ []
    → MayEnter (site_of writing world members parts.typed.code) (parameters_of parts.typed.code.descriptor) parts.vars.kinds (entry_of parts)
