-- From blocks to the graph: what shows each block shows the code, and so does what is made of the graph.
use Rattle.std.specs.Prelude.{◌≡◌, ◌≢◌, ◌<◌, ℕ, suc, ◌*◌, ◌≤◌, false, length, List, [], Option, Some, None, slice_get}
use Rattle.dj_names.specs.declared.header.Header.{Header}
use Rattle.dj_names.specs.declared.members.ClassMembers.{ClassMembers}
use Rattle.dj_names.specs.Types.{JType}
use Rattle.dj_syntax.specs.Trees.{Body}
use Rattle.dj_values.specs.Values.{Value, Answer, IsBelow}
use Rattle.dj_values.specs.Outcomes.{State, opening, shown, IsFront, actions_of}
use Rattle.dj_instructions.specs.Instructions.{Instructions, IsRising}
use Rattle.std.specs.List.{Contains, AllPairs}
use Rattle.dj_class.specs.Described.{MethodOf, ClassOf}
use Rattle.dj_code.specs.ReadCode.{SpellsCode}
use Rattle.dj_blocks_shown.specs.Walks.{AreStarts}
use Rattle.dj_code.specs.declared.method_code.Handler.{Handler}
use Rattle.dj_code.specs.MethodCode.{Code}
use Rattle.dj_meaning.specs.StaticTypes.{Context, Scope}
use Rattle.dj_meaning.specs.Runs.{Store, ◌>>=◌}
use Rattle.dj_meaning.specs.Monitors.{HoldsStill}
use Rattle.dj_meaning.specs.Ways.{all_ways}
use Rattle.dj_meaning.specs.Statements.{First}
use Rattle.dj_meaning.specs.Meaning.{ended, context_of, source_show}
use Rattle.dj_tags.specs.Laxly.{Laxly}
use Rattle.dj_verify.specs.Verified.{IsTyped}
use Rattle.dj_sound.specs.States.{IsStrict, RunsStrictly}
use Rattle.dj_graph.specs.Flows.{Flow, go}
use Rattle.dj_graph.specs.Graphs.{Node, Graph, node_at}
use Rattle.dj_graph.specs.GraphRuns.{local_variable, run_tree, Suits}
use Rattle.dj_bytecode.specs.Machine.{Locals, local_slots, code_from, steps, first_locals, bytecode_show}
use Rattle.dj_bytecode.specs.SameShows.{MayRun, AreArgumentsOf, SameShows}
use Rattle.dj_blocks.specs.Blocks.{block, entered}
use Rattle.dj_values.specs.Fits.{is_static, this_of, behind_this}
use Rattle.dj_vars.specs.Slots.{slot_value}
use Rattle.dj_vars.specs.Parameters.{parameter_slots}
use Rattle.dj_vars.specs.Naming.{AreVars, SaysReferences}
use Rattle.dj_vars.specs.Agreeing.{parameter_variable, HasParameters}
use Rattle.dj_blocks_shown.specs.Catching.{IsEven, AreCatchers}
use Rattle.dj_blocks_shown.specs.Keeping.{Runs, KeepsSomehow, KeepsTurns}
use Rattle.dj_blocks_shown.specs.Leaving.{Parts, is_start, Meets, Leaves, ShowsBlock}

-- ---- flows

-- what each node does shows the block of its number, in a run that holds no monitor; it gives back what it enters, and only adds actions
pub record ShowsBlocks (headers : List Header) (parts : Parts) (this : Option Value) (flow : Flow) : Type 0 where
  pub leaves : (number : ℕ) (stack : List Value) (state : State Locals) (store : Store) (meets : Meets headers parts this number stack state.store store) → store.held ≡ []
      → Leaves parts this number (block headers local_slots parts.typed.code (is_start parts.starts) (code_from meets.start parts.typed.code.instructions) stack state) (flow number (record { store = store; world = state.world }))
  pub holds : (number start : ℕ) → slice_get parts.starts number ≡ Some start → (state : State Store) → state.store.held ≡ [] → HoldsStill [] (flow number state)
  pub rises : (number : ℕ) (state : State Store) → IsFront state.world.actions (actions_of (flow number state))

-- so many steps from the first of these instructions come to the start of no block more often than is left of it
abbrev pub Seldom : List Header → Parts → ℕ → Instructions → List Value → State Locals → (ℕ → ℕ) → Type 0
Seldom headers parts bound rest stack state left =
    (number start : ℕ) → slice_get parts.starts number ≡ Some start → entered headers local_slots parts.typed.code start bound rest stack state ≤ left number

-- ---- graphs

-- a node of a graph holds no monitor, its tree shows a block, and its handlers are the catchers of the block
pub record IsBlockNode (context : Context) (scope : Scope) (parts : Parts) (graph : Graph) (number start : ℕ) : Type 0 where
  pub node : Node
  pub there : node_at graph number ≡ Some node
  pub free : node.monitors ≡ []
  pub shows : ShowsBlock context scope parts number node.tree
  pub even : IsEven context.headers parts start (code_from start parts.typed.code.instructions)
  pub catchers : AreCatchers context.headers parts graph.catchers start node.handlers

-- a graph has a node for each block
pub record IsRebuilt (context : Context) (scope : Scope) (parts : Parts) (graph : Graph) : Type 0 where
  pub nodes : (number start : ℕ) → slice_get parts.starts number ≡ Some start → IsBlockNode context scope parts graph number start

-- a graph is one tree, which no jump leaves: no other node is there
pub record IsTree (graph : Graph) (node : Node) : Type 0 where
  pub alone : node_at graph 0 ≡ Some node
  pub only : (number : ℕ) → node_at graph (suc number) ≡ None
  pub uncaught : node.handlers ≡ []
  pub free : node.monitors ≡ []
  pub closed : (label : ℕ) → (all_ways node.tree).jumps label ≡ false

-- ---- the whole way

-- a store as a graph's run begins: the variable of each slot that an argument is in at the start has it, each parameter has its argument, and no monitor is held
pub record Begins (parts : Parts) (arguments : List Value) (store : Store) : Type 0 where
  pub slots : (slot variable : ℕ) → parts.vars.of 0 slot ≡ Some variable → store.variables (local_variable variable) ≡ slot_value parts.typed.code [] (first_locals parts.typed.code.max_locals arguments) slot
  pub parameters : HasParameters parts.typed.code (first_locals parts.typed.code.max_locals arguments) store
  pub free : store.held ≡ []

-- a body is of the method of code: of its class, its name and its head
pub record IsBodyOfCode (code : Code) (body : Body) : Type 0 where
  pub class : body.class ≡ code.class
  pub name : body.name ≡ code.name
  pub flags : body.flags ≡ code.flags
  pub descriptor : body.descriptor ≡ code.descriptor
  pub thrown : body.thrown ≡ code.thrown

-- the blocks of code, and its variables
pub record AreParts (parts : Parts) : Type 0 where
  pub first : slice_get parts.starts 0 ≡ Some 0
  pub begins : code_from 0 parts.typed.code.instructions ≡ parts.typed.code.instructions
  pub handlers : (handler : Handler) → Contains parts.typed.code.handlers handler → code_from handler.target parts.typed.code.instructions ≡ [] → ⊥
  pub vars : AreVars parts.typed parts.starts parts.vars
  pub says : SaysReferences parts.typed

-- the runs of the body of code, in this scope and from these stores
abbrev pub runs_of : List Header → List ClassMembers → Parts → Body → Scope → (List Value → Store) → Runs
runs_of world members parts body scope start = record { world = world; members = members; code = parts.typed.code; body = body; scope = scope; start = start }

-- a body comes from code: a graph with a node for each block, steps that keep what it shows, the tree that they leave, and a body that shows what that tree shows
pub record IsMadeOf (world : List Header) (members : List ClassMembers) (parts : Parts) (body : Body) : Type 0 where
  pub parted : AreParts parts
  pub of_code : IsBodyOfCode parts.typed.code body
  pub scope : Scope
  pub before : Graph
  pub after : Graph
  pub suits : Suits before scope
  pub rebuilt : (headers : List Header) → MayRun world headers → (arguments : List Value) → AreArgumentsOf headers parts.typed.code arguments → IsRebuilt (context_of headers members body arguments) scope parts before
  pub start : List Value → Store
  pub keeps : KeepsSomehow (runs_of world members parts body scope start) before after
  pub node : Node
  pub tree : IsTree after node
  pub begins : (headers : List Header) → MayRun world headers → (arguments : List Value) → AreArgumentsOf headers parts.typed.code arguments → Begins parts arguments (start arguments)
  pub declared : (headers : List Header) → MayRun world headers → (arguments : List Value) → AreArgumentsOf headers parts.typed.code arguments → (answers : List Answer) (turns : ℕ)
      → source_show headers members body arguments answers turns
      ≡ (let context = context_of headers members body arguments in shown ((run_tree context scope turns First node.tree >>= ended context.result) (record { store = start arguments; world = opening answers })))

-- ---- the laws

-- so many steps from the start of a block, which come to no block more often than is left of its node, show no more than the flow from that node on
abbrev pub ComposesForth : Type 0
ComposesForth =
    (world headers : List Header) (parts : Parts) → RunsStrictly world headers parts.typed → (this : Option Value) (flow : Flow) → ShowsBlocks headers parts this flow → (result : Option JType)
    → (bound entrances number : ℕ) (left : ℕ → ℕ) (stack : List Value) (state : State Locals) (store : Store) (meets : Meets headers parts this number stack state.store store) → store.held ≡ []
    → Seldom headers parts bound (code_from meets.start parts.typed.code.instructions) stack state left → bound ≤ entrances
    → IsBelow (shown (steps headers local_slots parts.typed.code bound (code_from meets.start parts.typed.code.instructions) stack state))
    (shown ((go flow left entrances number >>= ended result) (record { store = store; world = state.world })))

-- and the flow shows no more than steps enough
abbrev pub ComposesBack : Type 0
ComposesBack =
    (world headers : List Header) (parts : Parts) → RunsStrictly world headers parts.typed → (this : Option Value) (flow : Flow) → ShowsBlocks headers parts this flow → (result : Option JType)
    → (entrances number : ℕ) (left : ℕ → ℕ) (stack : List Value) (state : State Locals) (store : Store) (meets : Meets headers parts this number stack state.store store) → store.held ≡ []
    → IsBelow (shown ((go flow left entrances number >>= ended result) (record { store = store; world = state.world })))
    (shown (steps headers local_slots parts.typed.code (entrances * suc (length parts.typed.code.instructions)) (code_from meets.start parts.typed.code.instructions) stack state))

-- no loop of the body needs more turns than some block has entrances
abbrev pub NeedsFewTurns : List Header → List ClassMembers → Parts → Body → Type 0
NeedsFewTurns world members parts body =
    (headers : List Header) → MayRun world headers → (arguments : List Value) → AreArgumentsOf headers parts.typed.code arguments → (answers : List Answer) (bound times : ℕ)
    → Seldom headers parts bound parts.typed.code.instructions [] (record { store = first_locals parts.typed.code.max_locals arguments; world = opening answers }) (λ number. times)
    → IsBelow (bytecode_show headers parts.typed.code arguments answers bound) (source_show headers members body arguments answers times)

-- so it is where what is made of the graph needs no more turns than the graph
abbrev pub FewTurns : Type 0
FewTurns =
    (world : List Header) (members : List ClassMembers) (parts : Parts) (body : Body) → parts.typed.code.instructions ≢ [] → IsStrict world parts.typed
    → (made : IsMadeOf world members parts body) → KeepsTurns (runs_of world members parts body made.scope made.start) made.before made.after → NeedsFewTurns world members parts body

-- the body shows what the code shows, in both directions
abbrev pub BodyShowsCode : Type 0
BodyShowsCode =
    (world : List Header) (members : List ClassMembers) (parts : Parts) (body : Body) → parts.typed.code.instructions ≢ [] → IsStrict world parts.typed → IsMadeOf world members parts body
    → SameShows world members parts.typed.code body

-- a body shows at each bound no less than another, and no more than that at some bound
pub record IsTidied (world : List Header) (members : List ClassMembers) (code : Code) (before after : Body) : Type 0 where
  pub forth : (headers : List Header) → MayRun world headers → (arguments : List Value) → AreArgumentsOf headers code arguments → (answers : List Answer) (turns : ℕ)
      → IsBelow (source_show headers members before arguments answers turns) (source_show headers members after arguments answers turns)
  pub back : (headers : List Header) → MayRun world headers → (arguments : List Value) → AreArgumentsOf headers code arguments → (answers : List Answer) (turns : ℕ)
      → (more : ℕ) × IsBelow (source_show headers members after arguments answers turns) (source_show headers members before arguments answers more)

-- a tidied body shows what the code shows
abbrev pub TidiedShow : Type 0
TidiedShow =
    (world : List Header) (members : List ClassMembers) (parts : Parts) (body tidied : Body) → parts.typed.code.instructions ≢ [] → IsStrict world parts.typed → IsMadeOf world members parts body
    → IsTidied world members parts.typed.code body tidied → SameShows world members parts.typed.code tidied

-- with turns as few
abbrev pub TidiedFew : Type 0
TidiedFew =
    (world : List Header) (members : List ClassMembers) (parts : Parts) (body tidied : Body) → parts.typed.code.instructions ≢ [] → IsStrict world parts.typed
    → (made : IsMadeOf world members parts body) → KeepsTurns (runs_of world members parts body made.scope made.start) made.before made.after → IsTidied world members parts.typed.code body tidied → NeedsFewTurns world members parts tidied

-- code that is read from a class file, with a table of frames, where its blocks start, and its variables, is in parts
abbrev pub ReadCodeParted : Type 0
ReadCodeParted =
    (world : List Header) (class : ClassOf) (method : MethodOf) (parts : Parts) → SpellsCode class method parts.typed.code → IsTyped (Laxly world) world parts.typed
    → IsRising parts.typed.code.instructions → parts.typed.code.instructions ≢ [] → AreStarts parts.typed parts.starts → AllPairs (λ x y. x < y) parts.starts → AreVars parts.typed parts.starts parts.vars → AreParts parts

-- a store in which each variable that block 0 has for the slot of an argument has that argument, as each parameter has, and no monitor is held
pub record HoldsArguments (parts : Parts) (arguments : List Value) (store : Store) : Type 0 where
  pub parameters : (number slot variable : ℕ) → slice_get (parameter_slots parts.typed.code) number ≡ Some slot → parts.vars.of 0 slot ≡ Some variable
      → store.variables (local_variable variable) ≡ slice_get (behind_this (is_static parts.typed.code.flags) arguments) number
  pub given : (number slot : ℕ) → slice_get (parameter_slots parts.typed.code) number ≡ Some slot → store.variables (parameter_variable number) ≡ slice_get (behind_this (is_static parts.typed.code.flags) arguments) number
  pub itself : is_static parts.typed.code.flags ≡ false → (variable : ℕ) → parts.vars.of 0 0 ≡ Some variable → store.variables (local_variable variable) ≡ this_of false arguments
  pub free : store.held ≡ []

-- is one as a graph's run begins: no other slot has a variable there
abbrev pub ArgumentsBegin : Type 0
ArgumentsBegin =
    (world headers : List Header) (parts : Parts) → parts.typed.code.instructions ≢ [] → IsTyped (Laxly world) world parts.typed → AreParts parts
    → (arguments : List Value) → AreArgumentsOf headers parts.typed.code arguments → (store : Store) → HoldsArguments parts arguments store → Begins parts arguments store
