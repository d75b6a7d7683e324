-- What the laws say.
use Rattle.std.specs.Prelude.{◌≡◌, ℕ, List, Option, Some}
use Rattle.dj_names.specs.Headers.{Name}
use Rattle.dj_names.specs.Types.{Class, StaticType, Of}
use Rattle.dj_syntax.specs.Trees.{Exp}
use Rattle.dj_instructions.specs.Instructions.{Instruction}
use Rattle.dj_meaning.specs.StaticTypes.{Scope}
use Rattle.dj_meaning.specs.Statements.{Elsewhere}
use Rattle.dj_places.specs.Rules.{Holds}
use Rattle.dj_typing.specs.Sites.{Site}
use Rattle.dj_blocks_formed.specs.Statements.{Around, stm_types}
use Rattle.dj_blocks_formed.specs.Formed.{constants_of}
use Rattle.dj_members_shown.specs.Meant.{Receiver}
use Rattle.dj_rebuilding.specs.Pending.{Atom, Typed, exp_of}
use Rattle.dj_rebuilt.specs.Known.{constant_of}
use Rattle.dj_rebuilt.specs.Rebuilding.{Plain}
use Rattle.dj_blocks_formed.specs.Ruled.{IsRuled, AreRuledOperands}
use Rattle.dj_member_nodes.specs.Nodes.{node_of, member_effect, member_birth}
use Rattle.dj_member_nodes.specs.Named.{RootsAreNamed, IsAllowed}

-- a constant that is pushed keeps the rules
abbrev pub ConstantsKeepRules : Type 0
ConstantsKeepRules =
    (site : Site) → RootsAreNamed site → (instruction : Instruction) (found : StaticType × Atom) → constant_of instruction ≡ Some found → (n : ℕ) (scope : Scope) → IsRuled site n scope found.0 (exp_of found.1)

-- an expression that stands for an instruction keeps the rules, where its operands do and no cause speaks against the instruction
abbrev pub NodesKeepRules : Type 0
NodesKeepRules =
    (site : Site) → RootsAreNamed site → (receivers : ℕ → Receiver) (pc : ℕ) (instruction : Instruction) → IsAllowed site receivers pc instruction
    → (are : List Typed) (found : Typed) → node_of (constants_of site) instruction are ≡ Some found → (n : ℕ) (scope : Scope) → AreRuledOperands site n scope are → IsRuled site n scope found.0 found.1

-- so does a statement
abbrev pub EffectsKeepRules : Type 0
EffectsKeepRules =
    (around : Around) → RootsAreNamed around.site → (receivers : ℕ → Receiver) (pc : ℕ) (instruction : Instruction) → IsAllowed around.site receivers pc instruction
    → (are : List Typed) (found : Plain) → member_effect (constants_of around.site) instruction are ≡ Some found → (n : ℕ) (scope : Scope) → AreRuledOperands around.site n scope are
    → (place : ℕ) → Holds (stm_types around Elsewhere scope place found.0)

-- and the birth of an object
abbrev pub BirthsKeepRules : Type 0
BirthsKeepRules =
    (site : Site) → RootsAreNamed site → (receivers : ℕ → Receiver) (pc : ℕ) (instruction : Instruction) → IsAllowed site receivers pc instruction
    → (class : Name) (are : List Typed) (exp : Exp) → member_birth (constants_of site) instruction class are ≡ Some exp → (n : ℕ) (scope : Scope) → AreRuledOperands site n scope are → IsRuled site n scope (Of (Class class)) exp
