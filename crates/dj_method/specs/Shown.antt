-- A method's body shows what its code shows, and is typed where what it throws is lawful: from what each part owes.
use Rattle.std.specs.Prelude.{◌≡◌, ℕ, false, List, [], ◌∷◌, Some}
use Rattle.dj_names.specs.declared.header.Header.{Header}
use Rattle.dj_names.specs.declared.members.ClassMembers.{ClassMembers}
use Rattle.dj_syntax.specs.Trees.{Body, Stms}
use Rattle.dj_values.specs.Values.{Value}
use Rattle.dj_class.specs.Described.{MethodOf, ClassOf}
use Rattle.dj_meaning.specs.Meaning.{context_of}
use Rattle.dj_meaning.specs.Ways.{all_ways}
use Rattle.dj_places.specs.Rules.{Holds}
use Rattle.dj_declaring.specs.ThrownBodies.{body_thrown}
use Rattle.dj_declaring.specs.Bodies.{Writing, IsTyped}
use Rattle.dj_graph.specs.Graphs.{Node, Graph}
use Rattle.dj_bytecode.specs.SameShows.{MayRun, AreArgumentsOf, SameShows}
use Rattle.dj_blocks_shown.specs.Keeping.{KeepsTurns}
use Rattle.dj_blocks_shown.specs.Leaving.{Parts, ShowsBlock}
use Rattle.dj_blocks_shown.specs.Composing.{IsMadeOf, NeedsFewTurns}
use Rattle.dj_method.specs.Parts.{IsCut, method_scope, IsGraphOf, IsLeft, method_runs, method_body, IsDeclared}

-- the body comes from the code, is typed where what it throws is lawful, and shows what the code shows; it needs few turns, where what was done to the graph needs no more
pub record IsDone (world : List Header) (members : List ClassMembers) (method : Body) (parts : Parts) (before after : Graph) (body : Body) : Type 0 where
  pub made : IsMadeOf world members parts body
  pub typed : Holds (body_thrown world members body) → IsTyped world members body
  pub same : SameShows world members parts.typed.code body
  pub turns : KeepsTurns (method_runs world members method parts) before after → NeedsFewTurns world members parts body

-- where each part has done its share
abbrev pub MethodsAreShown : Type 0
MethodsAreShown =
    (world : List Header) (members : List ClassMembers) (class : ClassOf) (found : MethodOf) (writing : Writing) (method : Body) (parts : Parts) (before after : Graph) (own : ℕ) (tree : Stms)
    → IsCut world class found parts → IsGraphOf world members method parts before → IsLeft (method_runs world members method parts) before after tree → IsDeclared world members writing method parts own tree
    → IsDone world members method parts before after (method_body world members method parts own tree)

-- ---- one block

-- the node of a tree by itself, and its graph
abbrev pub alone : Stms → Node
alone tree = record { tree = tree; handlers = []; monitors = [] }

abbrev pub alone_in : Parts → Stms → Graph
alone_in parts tree = record { nodes = Some (alone tree) ∷ []; catchers = []; kinds = parts.vars.kinds }

-- the tree of the one block of code without exception table, which no jump leaves, shows it
pub record IsOnlyTree (world : List Header) (members : List ClassMembers) (method : Body) (parts : Parts) (tree : Stms) : Type 0 where
  pub one : parts.starts ≡ 0 ∷ []
  pub uncaught : parts.typed.code.handlers ≡ []
  pub shows : (headers : List Header) → MayRun world headers → (arguments : List Value) → AreArgumentsOf headers parts.typed.code arguments
      → ShowsBlock (context_of headers members method arguments) (method_scope method parts) parts 0 tree
  pub closed : (label : ℕ) → (all_ways tree).jumps label ≡ false

-- so is a method of one block
abbrev pub OneBlockIsShown : Type 0
OneBlockIsShown =
    (world : List Header) (members : List ClassMembers) (class : ClassOf) (found : MethodOf) (writing : Writing) (method : Body) (parts : Parts) (own : ℕ) (tree : Stms)
    → IsCut world class found parts → IsOnlyTree world members method parts tree → IsDeclared world members writing method parts own tree
    → IsDone world members method parts (alone_in parts tree) (alone_in parts tree) (method_body world members method parts own tree)
