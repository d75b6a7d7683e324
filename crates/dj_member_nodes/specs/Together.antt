-- What it takes that a method's blocks are rebuilt to formed trees: what stands for its instructions are these expressions and statements, and the statements by which blocks are left keep the rules.
use Rattle.std.specs.Prelude.{◌≡◌, ℕ, Bool, true, false, List, ◌∷◌, Contains, Option, Some}
use Rattle.dj_names.specs.declared.header.Header.{Header}
use Rattle.dj_names.specs.Headers.{Name}
use Rattle.dj_names.specs.Types.{JType, StaticType}
use Rattle.dj_syntax.specs.declared.variable.Var.{Var}
use Rattle.dj_syntax.specs.Trees.{Stms}
use Rattle.dj_instructions.specs.Instructions.{Instruction, Instructions}
use Rattle.dj_meaning.specs.Calls.{is_assignable}
use Rattle.dj_meaning.specs.StaticTypes.{Scope}
use Rattle.dj_places.specs.Constants.{Surroundings}
use Rattle.dj_blocks_formed.specs.Statements.{Around}
use Rattle.dj_bytecode.specs.Meanings.{meaning_of}
use Rattle.dj_bytecode.specs.Machine.{pc_of}
use Rattle.dj_blocks_formed.specs.Formed.{constants_of, IsFormed}
use Rattle.dj_members_shown.specs.Meant.{Receiver}
use Rattle.dj_rebuilding.specs.Pending.{Pending, Typed}
use Rattle.dj_rebuilt.specs.Known.{constant_of}
use Rattle.dj_rebuilt.specs.Located.{WritesTo}
use Rattle.dj_rebuilt.specs.Sorts.{sort_of}
use Rattle.dj_rebuilt.specs.Rebuilding.{Names, Ways, continues, rebuilt}
use Rattle.dj_blocks_formed.specs.Ruled.{IsEnded}
use Rattle.dj_blocks_formed.specs.Ways.{AreRuledNames, IsRuledAt, IsRuledTarget, AllStand}
use Rattle.dj_member_nodes.specs.Nodes.{node_of, member_effect, member_birth}
use Rattle.dj_member_nodes.specs.Named.{RootsAreNamed, IsAllowed}

-- what stands for instructions is what is written for them, and what goes uncast is assignable in the world
pub record AreMemberWays (known : Surroundings) (ways : Ways) : Type 0 where
  pub constant : (instruction : Instruction) → ways.constant instruction ≡ constant_of instruction
  pub node : (instruction : Instruction) (are : List Typed) → ways.node instruction are ≡ node_of known instruction are
  pub effect : (instruction : Instruction) (are : List Typed) → ways.effect instruction are ≡ member_effect known instruction are
  pub birth : (instruction : Instruction) (class : Name) (are : List Typed) → ways.birth instruction class are ≡ member_birth known instruction class are
  pub goes : (from : StaticType) (to : JType) → ways.goes from to ≡ is_assignable known.headers from to

-- the variables that stores write, and the statements by which blocks are left, keep the rules
pub record ExitsRule (around : Around) (headers : List Header) (class : Name) (base : ℕ) (scope : Scope) (starts : ℕ → Bool) (ways : Ways) (code : Instructions) : Type 0 where
  pub targets : (pc : ℕ) (instruction : Instruction) → Contains code (pc, instruction) → (slot : ℕ) → WritesTo (sort_of instruction) slot → (target : Var) (type : JType) → ways.target pc ≡ Some (target, type) → IsRuledTarget around.site base scope target type
  pub falls : (names : Names) → AreRuledNames around.site base scope names → (n : ℕ) (inner : Scope) (stack : List Pending) → IsRuledAt around.site base scope n inner stack → (rest : Instructions) → starts (pc_of rest) ≡ true → (statements : Stms) → ways.fall names n stack rest ≡ Some statements → IsEnded around inner statements
  pub leaves : (names : Names) → AreRuledNames around.site base scope names → (n : ℕ) (inner : Scope) (stack : List Pending) → IsRuledAt around.site base scope n inner stack → (pc : ℕ) (instruction : Instruction) (rest : Instructions) → Contains code (pc, instruction) → continues (sort_of instruction) (meaning_of headers class instruction) ≡ false
      → (statements : Stms) → ways.leave names n stack ((pc, instruction) ∷ rest) ≡ Some statements → IsEnded around inner statements

-- a block of a method against none of whose instructions a cause speaks is rebuilt to a formed tree
abbrev pub MethodsAreFormed : Type 0
MethodsAreFormed =
    (around : Around) → RootsAreNamed around.site → (receivers : ℕ → Receiver) (code : Instructions) → ((pc : ℕ) (instruction : Instruction) → Contains code (pc, instruction) → IsAllowed around.site receivers pc instruction)
    → (headers : List Header) (class : Name) (base : ℕ) (scope : Scope) (starts : ℕ → Bool) (ways : Ways) → AreMemberWays (constants_of around.site) ways → ExitsRule around headers class base scope starts ways code
    → (code_left : Instructions) → AllStand (λ pc instruction. Contains code (pc, instruction)) code_left
    → (names : Names) → AreRuledNames around.site base scope names → (n : ℕ) (inner : Scope) (stack : List Pending) → IsRuledAt around.site base scope n inner stack
    → (statements : Stms) → rebuilt headers class ways starts names n stack code_left ≡ Some statements → IsFormed around inner statements
