-- How statements complete, by the rules of reachability and of definite assignment (JLS 14.1, 14.21, 16.2), and what holds there.
use Rattle.std.specs.Prelude.{◌≡◌, Bool, true, List, Option, Some, None}
use Rattle.dj_names.specs.declared.header.Header.{Header}
use Rattle.dj_names.specs.Types.{JType}
use Rattle.dj_values.specs.Values.{Value}
use Rattle.dj_values.specs.Outcomes.{State}
use Rattle.dj_meaning.specs.StaticTypes.{Scope}
use Rattle.dj_meaning.specs.Runs.{Store}
use Rattle.dj_meaning.specs.Completions.{Completion, Normal, Break, Continue, Return, Misfit}
use Rattle.dj_reach.specs.declared.jump.Jump.{Jump}
use Rattle.dj_reach.specs.declared.jump.Jump.TheVariants as jumps
use Rattle.dj_reach.specs.Jumps.{is_one_of}
use Rattle.dj_variables.specs.Sets.{Set}
use Rattle.dj_held.specs.Values.{IsHeld}
use Rattle.dj_held.specs.Reaching.{Reaches, nothing}

-- what the rules say of a statement: whether it can complete normally, which jumps leave it, and what is assigned behind it and before each jump
pub record Flow : Type 0 where
  pub completes : Bool
  pub leaves : Jump → Bool
  pub after : Set
  pub before : Jump → Set

-- a statement may complete so
abbrev pub IsPossible : Flow → Completion → Type 0
IsPossible flow Normal = flow.completes ≡ true
IsPossible flow (Break label) = flow.leaves (jumps.Break label) ≡ true
IsPossible flow (Continue label) = flow.leaves (jumps.Continue label) ≡ true
IsPossible flow (Return value) = Unit {0}
IsPossible flow Misfit = ⊥

-- what is assigned then; behind a return nothing is asked
abbrev pub assigned_at : Flow → Completion → Set
assigned_at flow Normal = flow.after
assigned_at flow (Break label) = flow.before (jumps.Break label)
assigned_at flow (Continue label) = flow.before (jumps.Continue label)
assigned_at flow (Return value) = nothing
assigned_at flow Misfit = nothing

-- what is returned fits the method's result
abbrev pub IsResult : List Header → Option JType → Option Value → Type 0
IsResult headers None None = Unit {0}
IsResult headers None (Some value) = ⊥
IsResult headers (Some type) None = ⊥
IsResult headers (Some type) (Some value) = IsHeld headers type value

-- a jump is taken by a statement around, and a return fits
abbrev pub Lands : List Header → Option JType → List Jump → Completion → Type 0
Lands headers result targets Normal = Unit {0}
Lands headers result targets (Break label) = is_one_of (jumps.Break label) targets ≡ true
Lands headers result targets (Continue label) = is_one_of (jumps.Continue label) targets ≡ true
Lands headers result targets (Return value) = IsResult headers result value
Lands headers result targets Misfit = ⊥

-- how a statement completes, among jumps that are taken, and where control comes then
pub record Completes (headers : List Header) (result : Option JType) (targets : List Jump) (scope : Scope) (flow : Flow) (start : State Store) (completion : Completion) (state : State Store) : Type 0 where
  pub possible : IsPossible flow completion
  pub lands : Lands headers result targets completion
  pub reaches : Reaches headers scope (assigned_at flow completion) start state
