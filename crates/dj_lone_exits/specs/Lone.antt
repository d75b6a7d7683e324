-- How control leaves a method of one block: it returns or throws.
use Rattle.std.specs.Prelude.{◌≡◌, ℕ, Bool, false, List, None}
use Rattle.dj_names.specs.declared.header.Header.{Header}
use Rattle.dj_names.specs.Types.{result_of}
use Rattle.dj_syntax.specs.declared.variable.Var.{Var}
use Rattle.dj_instructions.specs.Instructions.{Instruction, Instructions}
use Rattle.dj_code.specs.MethodCode.{Code, Typed}
use Rattle.dj_meaning.specs.StaticTypes.{Context, Scope}
use Rattle.dj_loaded.specs.Loaded.{MayRun, HasCore, HasPlainRoots}
use Rattle.dj_tags.specs.Goes.{Working}
use Rattle.dj_rebuildable.specs.Walking.{IsReachedAt, MayStand}
use Rattle.dj_rebuilt.specs.Located.{Entries}
use Rattle.dj_member_nodes.specs.Going.{fits_in}
use Rattle.dj_exits.specs.Exits.{Edges}
use Rattle.dj_exits.specs.Leading.{LeadsTo, EdgesServe}
use Rattle.dj_exits.specs.Meaning.{ExitsMean}

-- there is no other block; what is returned or thrown goes by Java's rules in the world where it is wanted
abbrev pub lone_edges : List Header → Edges
lone_edges world = record { puts = λ names stack target variable. false; jump = λ names stack target. None; fits = fits_in world; compares = λ one other. false }

-- these ways out mean what they should
abbrev pub LoneExitsMean : Type 0
LoneExitsMean =
    (world : List Header) (context : Context) → HasCore world → MayRun world context.headers → (code : Code) → context.result ≡ result_of code.descriptor
    → (bound base most : ℕ) (scope : Scope) (owner : Var → ℕ) (entries : Entries) → ExitsMean world context bound base most scope owner code entries (lone_edges world)

-- they have answers where no instruction leads to another block
abbrev pub LoneEdgesServe : Type 0
LoneEdgesServe =
    (world : List Header) → HasPlainRoots world → (typed : Typed) (starts : ℕ → Bool)
    → ((just_made : Bool) (atoms pc : ℕ) (instruction : Instruction) (rest : Instructions) (frame : Working) → MayStand world typed.code (IsReachedAt typed) starts just_made atoms pc instruction rest frame
    → (target : ℕ) → LeadsTo starts instruction rest target → ⊥)
    → EdgesServe world typed.code (IsReachedAt typed) starts (lone_edges world)
