-- What is made of a method's graph shows what the graph shows, in the runs that are asked of the method.
use Rattle.std.specs.Prelude.{ℕ, List, ◌≤◌}
use Rattle.dj_names.specs.declared.header.Header.{Header}
use Rattle.dj_names.specs.declared.members.ClassMembers.{ClassMembers}
use Rattle.dj_syntax.specs.Trees.{Body}
use Rattle.dj_values.specs.Values.{Value, Answer, Show, IsBelow}
use Rattle.dj_values.specs.Outcomes.{State, opening}
use Rattle.dj_code.specs.MethodCode.{Code}
use Rattle.dj_meaning.specs.StaticTypes.{Context, Scope}
use Rattle.dj_meaning.specs.Runs.{Store}
use Rattle.dj_meaning.specs.Meaning.{context_of}
use Rattle.dj_graph.specs.Graphs.{Graph}
use Rattle.dj_graph.specs.GraphRuns.{Limits, graph_show, Suits}
use Rattle.dj_graph.specs.Keeping.{seldom, KeepsShows}
use Rattle.dj_bytecode.specs.SameShows.{MayRun, AreArgumentsOf}

-- what the runs of a method's graph have alike: the world with its members, the code, a body of its head, the variables in scope, and the store in which a call's arguments are as it begins
pub record Runs : Type 0 where
  pub world : List Header
  pub members : List ClassMembers
  pub code : Code
  pub body : Body
  pub scope : Scope
  pub start : List Value → Store

-- what a graph shows, by the classes that run, of a call with these arguments and answers
abbrev pub called_show : Runs → List Header → List Value → List Answer → Graph → Limits → Show
called_show runs headers arguments answers graph limits = graph_show (context_of headers runs.members runs.body arguments) runs.scope graph limits (record { store = runs.start arguments; world = opening answers })

-- at these limits a graph shows no more than another one at those, whatever classes may run, whatever arguments fit, and whatever the answers
abbrev pub ShowsNoMore : Runs → Graph → Limits → Graph → Limits → Type 0
ShowsNoMore runs graph limits other more =
    (headers : List Header) → MayRun runs.world headers → (arguments : List Value) → AreArgumentsOf headers runs.code arguments → (answers : List Answer)
    → IsBelow (called_show runs headers arguments answers graph limits) (called_show runs headers arguments answers other more)

-- what is made of a graph shows what the graph shows, each side at some limits where the other has some; a loop over a state may need more turns
pub record KeepsSomehow (runs : Runs) (before after : Graph) : Type 0 where
  pub forth : (limits : Limits) → (more : Limits) × ShowsNoMore runs before limits after more
  pub back : (limits : Limits) → (more : Limits) × ShowsNoMore runs after limits before more

-- and it needs no more turns: no less is shown where no node is entered, and no loop turns, more than so many times
pub record KeepsTurns (runs : Runs) (before after : Graph) : Type 0 where
  pub forth : (times entrances : ℕ) → ShowsNoMore runs before (seldom times entrances) after (seldom times entrances)
  pub back : (limits : Limits) → (more : Limits) × ShowsNoMore runs after limits before more

-- ---- the laws

-- limits that are no greater than others
pub record AreLess (limits more : Limits) : Type 0 where
  pub turns : limits.turns ≤ more.turns
  pub each : limits.each ≤ more.each
  pub entrances : limits.entrances ≤ more.entrances

-- a graph shows no less at greater limits
abbrev pub GraphsGrow : Type 0
GraphsGrow =
    (context : Context) (scope : Scope) (graph : Graph) (limits more : Limits) → AreLess limits more → (state : State Store) → IsBelow (graph_show context scope graph limits state) (graph_show context scope graph more state)

-- what keeps shows from every start keeps them from where a method begins
abbrev pub KeepingIsEnough : Type 0
KeepingIsEnough = (runs : Runs) (before after : Graph) → KeepsShows before after → Suits before runs.scope → KeepsTurns runs before after

-- what needs no more turns keeps shows somehow
abbrev pub SharpIsEnough : Type 0
SharpIsEnough = (runs : Runs) (before after : Graph) → KeepsTurns runs before after → KeepsSomehow runs before after

-- and one thing after another does
abbrev pub SomehowInTurn : Type 0
SomehowInTurn = (runs : Runs) (first second third : Graph) → KeepsSomehow runs first second → KeepsSomehow runs second third → KeepsSomehow runs first third
