-- What each part owes of the way from a method's code to its body, one record for each: the code that is read, verified and cut, with its variables; the graph that is rebuilt; the tree that is left of it; the body that is declared.
use Rattle.std.specs.Prelude.{◌≡◌, ◌≢◌, ℕ, ◌<◌, true, false, List, [], map, Some, None, if◌then◌else◌, slice_get}
use Rattle.std.specs.List.{AllPairs}
use Rattle.dj_names.specs.declared.header.Header.{Header}
use Rattle.dj_names.specs.declared.members.ClassMembers.{ClassMembers}
use Rattle.dj_names.specs.MethodNames.{is_constructor}
use Rattle.dj_names.specs.Types.{parameters_of}
use Rattle.dj_syntax.specs.Trees.{Body, Stms}
use Rattle.dj_values.specs.Values.{Value}
use Rattle.dj_values.specs.Fits.{is_static, this_of, behind_this}
use Rattle.dj_class.specs.Described.{MethodOf, ClassOf}
use Rattle.dj_code.specs.ReadCode.{SpellsCode}
use Rattle.dj_loaded.specs.Loaded.{HasCore}
use Rattle.dj_tags.specs.Laxly.{Laxly}
use Rattle.dj_verify.specs.Verified as verified
use Rattle.dj_sound.specs.States.{IsStrict}
use Rattle.dj_meaning.specs.StaticTypes.{Scope}
use Rattle.dj_meaning.specs.Members.{view_members}
use Rattle.dj_meaning.specs.Meaning.{context_of}
use Rattle.dj_places.specs.Surroundings.{around_body}
use Rattle.dj_declaring.specs.Bodies.{Writing}
use Rattle.dj_declaring.specs.Running.{AreMembers}
use Rattle.dj_graph.specs.Graphs.{Node, Graph, node_at}
use Rattle.dj_bytecode.specs.SameShows.{MayRun, AreArgumentsOf}
use Rattle.dj_vars.specs.Naming.{AreVars}
use Rattle.dj_vars.specs.Parameters.{parameter_slots}
use Rattle.dj_blocks_shown.specs.Leaving.{Parts, ShowsBlock}
use Rattle.dj_blocks_shown.specs.Catching.{AreCatchers}
use Rattle.dj_blocks_shown.specs.Walks.{AreStarts, RangesEnd}
use Rattle.dj_blocks_shown.specs.Keeping.{Runs, KeepsSomehow}
use Rattle.dj_blocks_shown.specs.Composing.{IsTree, runs_of, IsBodyOfCode}
use Rattle.dj_declaring.specs.declared.entry.Entry.{Entry}
use Rattle.dj_declaring.specs.Entries.{first_store}
use Rattle.dj_declaring.specs.Starting.{tree_scope}
use Rattle.dj_declaring.specs.Declaring.{declared_body, IsReady}

-- ---- the code

-- code that is read from a class file, verified, by a table that keeps Java's rules too, and cut into blocks, with its variables
pub record IsCut (world : List Header) (class : ClassOf) (method : MethodOf) (parts : Parts) : Type 0 where
  pub spells : SpellsCode class method parts.typed.code
  pub verified : verified.IsTyped (Laxly world) world parts.typed
  pub strict : IsStrict world parts.typed
  pub some : parts.typed.code.instructions ≢ []
  pub starts : AreStarts parts.typed parts.starts
  pub rise : AllPairs (λ x y. x < y) parts.starts
  pub vars : AreVars parts.typed parts.starts parts.vars

-- ---- the graph

-- the variables of the graph's trees
abbrev pub method_scope : Body → Parts → Scope
method_scope method parts = tree_scope (parameters_of method.descriptor) parts.vars.kinds

-- the node of a block holds no monitor; whatever classes run, and whatever the arguments, its tree shows the block, and its handlers are the block's
pub record IsNodeOf (world : List Header) (members : List ClassMembers) (method : Body) (parts : Parts) (graph : Graph) (number start : ℕ) : Type 0 where
  pub node : Node
  pub there : node_at graph number ≡ Some node
  pub shows : (headers : List Header) → MayRun world headers → (arguments : List Value) → AreArgumentsOf headers parts.typed.code arguments
      → ShowsBlock (context_of headers members method arguments) (method_scope method parts) parts number node.tree
  pub catchers : (headers : List Header) → MayRun world headers → AreCatchers headers parts graph.catchers start node.handlers

-- a graph has a node for each block, and the kinds of the code's variables
pub record IsGraphOf (world : List Header) (members : List ClassMembers) (method : Body) (parts : Parts) (graph : Graph) : Type 0 where
  pub nodes : (number start : ℕ) → slice_get parts.starts number ≡ Some start → IsNodeOf world members method parts graph number start
  pub free : (number : ℕ) (node : Node) → node_at graph number ≡ Some node → node.monitors ≡ []
  pub kinds : graph.kinds ≡ parts.vars.kinds
  pub ranges : RangesEnd parts.typed.code

-- ---- the tree

-- one tree is left of a graph, which no jump leaves, and what was done to the graph keeps what it shows of the method
pub record IsLeft (runs : Runs) (before after : Graph) (tree : Stms) : Type 0 where
  pub keeps : KeepsSomehow runs before after
  pub node : Node
  pub alone : IsTree after node
  pub is : node.tree ≡ tree

-- ---- the body

-- the variables that hold `this` and the parameters as the method begins
abbrev pub entry_of : Parts → Entry
entry_of parts = record { itself = if is_static parts.typed.code.flags then None else parts.vars.of 0 0; parameters = map (parts.vars.of 0) (parameter_slots parts.typed.code) }

-- the runs of the method's graph: from the store in which the variables of `this` and of the parameters have the arguments
abbrev pub method_runs : List Header → List ClassMembers → Body → Parts → Runs
method_runs world members method parts =
    runs_of world members parts method (method_scope method parts)
    (λ arguments. first_store parts.vars.kinds (this_of (is_static parts.typed.code.flags) arguments) (behind_this (is_static parts.typed.code.flags) arguments) (entry_of parts))

-- the body of a method with this head, a label that the tree lacks, and a tree
abbrev pub method_body : List Header → List ClassMembers → Body → Parts → ℕ → Stms → Body
method_body world members method parts own tree = declared_body (around_body world members method) method parts.vars.kinds (entry_of parts) own tree

-- the head is that of the code, which has `this` where it is a constructor's; the tree may be declared; the world has the core of classes, and its members are those of its classes
pub record IsDeclared (world : List Header) (members : List ClassMembers) (writing : Writing) (method : Body) (parts : Parts) (own : ℕ) (tree : Stms) : Type 0 where
  pub of_code : IsBodyOfCode parts.typed.code method
  pub constructor : is_constructor method.name ≡ true → is_static method.flags ≡ false
  pub ready : IsReady world members writing method parts.vars.kinds (entry_of parts) own tree
  pub core : HasCore world
  pub lawful : AreMembers world (map view_members members)
