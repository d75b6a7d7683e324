-- What the laws say.
use Rattle.std.specs.Prelude.{◌≡◌, ℕ, Bool, true, not, List, Contains, Some, None}
use Rattle.dj_names.specs.declared.header.Header.{Header}
use Rattle.dj_names.specs.Headers.{Name}
use Rattle.dj_names.specs.Types as types
use Rattle.dj_names.specs.Types.{JType, Class, Of}
use Rattle.dj_syntax.specs.declared.variable.Var.{Var}
use Rattle.dj_syntax.specs.Trees.{Exp, Set, If, Switch, Throw, Stms, Empty, And, Groups}
use Rattle.dj_syntax.specs.Trees as trees
use Rattle.dj_syntax.specs.WellFormedTrees.{has_no_group}
use Rattle.dj_values.specs.Fits.{throwable_name}
use Rattle.dj_instructions.specs.Instructions.{Instructions}
use Rattle.dj_meaning.specs.StaticTypes.{Scope, type_of}
use Rattle.dj_meaning.specs.Statements.{is_labelled}
use Rattle.dj_places.specs.Rules.{Holds}
use Rattle.dj_reach.specs.declared.jump.Jump.TheVariants.{Break}
use Rattle.dj_reach.specs.Jumps.{is_one_of}
use Rattle.dj_typing.specs.Sites.{context_of, may_name_type}
use Rattle.dj_typing.specs.Expressions.{exp_types}
use Rattle.dj_typed.specs.Switches.{are_formed, labels_of, are_distinct}
use Rattle.dj_typed.specs.Statements.{Around}
use Rattle.dj_formed.specs.Formed.{IsFormed}
use Rattle.dj_rebuilding.specs.Pending.{Pending}
use Rattle.dj_rebuilt.specs.Rebuilding.{Names, Ways, rebuilt}
use Rattle.dj_blocks_formed.specs.Ruled.{IsEnded}
use Rattle.dj_blocks_formed.specs.Exits.{GoesInto, IsTruth, IsJump, AreCases}
use Rattle.dj_blocks_formed.specs.Ways.{AreRuledNames, IsRuledAt, WaysRule, AllStand}

-- the statements of a block, as they are rebuilt from somewhere in it on, are formed, where what rebuilding rests on keeps the rules at each instruction of the code
abbrev pub BlocksAreFormed : Type 0
BlocksAreFormed =
    (around : Around) (headers : List Header) (class : Name) (base : ℕ) (scope : Scope) (starts : ℕ → Bool) (ways : Ways) (code : Instructions)
    → WaysRule around headers class base scope starts ways (λ pc instruction. Contains code (pc, instruction))
    → (code_left : Instructions) → AllStand (λ pc instruction. Contains code (pc, instruction)) code_left
    → (names : Names) → AreRuledNames around.site base scope names → (n : ℕ) (inner : Scope) (stack : List Pending) → IsRuledAt around.site base scope n inner stack
    → (statements : Stms) → rebuilt headers class ways starts names n stack code_left ≡ Some statements → IsFormed around inner statements

-- ---- exits

-- a jump to a block, and copies before it
abbrev pub JumpsEnd : Type 0
JumpsEnd =
    (around : Around) (scope : Scope) → ((list : Stms) → IsJump around scope list → IsEnded around scope list)
    × ((label : ℕ) → is_one_of (Break label) around.targets ≡ true → IsJump around scope (And (trees.Break label) Empty))
    × ((target : Var) (type : JType) (new : Exp) (rest : Stms) → scope target ≡ Some type → may_name_type around.site type ≡ true → GoesInto around.site scope type new → IsJump around scope rest → IsJump around scope (And (Set target new) rest))

-- a test between two of them, and a switch between several
abbrev pub TestsEnd : Type 0
TestsEnd =
    (around : Around) (scope : Scope) → ((test : Exp) (first second : Stms) → IsTruth around.site scope test → IsJump around scope first → IsJump around scope second → IsEnded around scope (And (If test first second) Empty))
    × ((on : Exp) (groups : Groups) → type_of (context_of around.site) scope on ≡ Some (Of types.Int) → ((place : ℕ) → Holds (exp_types around.site scope place on))
    → not (has_no_group groups) ≡ true → are_formed groups ≡ true → are_distinct (labels_of groups) ≡ true → is_labelled None groups ≡ true → AreCases around scope groups → IsEnded around scope (And (Switch on groups) Empty))

-- a return, and a throw
abbrev pub ReturnsEnd : Type 0
ReturnsEnd =
    (around : Around) (scope : Scope) → (around.result ≡ None → IsEnded around scope (And (trees.Return None) Empty))
    × ((result : JType) (value : Exp) → around.result ≡ Some result → GoesInto around.site scope result value → IsEnded around scope (And (trees.Return (Some value)) Empty))
    × ((exception : Exp) → GoesInto around.site scope (Class throwable_name) exception → IsEnded around scope (And (Throw exception) Empty))
