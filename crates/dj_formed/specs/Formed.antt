-- Formed trees: what the steps of a graph keep of its trees, and what a body is made from (JLS 14, 16; 8.8.7). The rules are those of a typed body, at another
-- start: each variable of the graph is in scope and assigned, and open jumps are among the jumps that are taken.
use Rattle.std.specs.Prelude.{◌≡◌, ℕ, Bool, true, false, ◌&&◌, List, slice_get, Option, Some, None, if◌then◌else◌}
use Rattle.dj_names.specs.Types as types
use Rattle.dj_names.specs.Types.{JType, Class}
use Rattle.dj_names.specs.Assignable.{object_name}
use Rattle.dj_syntax.specs.declared.variable.VarKind.{VarKind}
use Rattle.dj_syntax.specs.declared.variable.VarKind.TheVariants as kind
use Rattle.dj_syntax.specs.declared.variable.Var.{Var}
use Rattle.dj_syntax.specs.Trees.{Exps, Stm, Block, Labelled, Declare, Set, SetField, SetStatic, SetElement, Run, If, While, Switch, Break, Continue, Return, Throw, Rethrow, Try, Synchronized, Construct, Do, For, Finally, Stms, Empty, And}
use Rattle.dj_meaning.specs.StaticTypes.{Scope}
use Rattle.dj_places.specs.Constants.{Surroundings}
use Rattle.dj_places.specs.Rules.{Holds, Rule, ◌and◌}
use Rattle.dj_places.specs.declared.kind.TypeKind.TheVariants as kinds
use Rattle.dj_reach.specs.Reach.{list_completes}
use Rattle.dj_variables.specs.Sets.{everything}
use Rattle.dj_conditions.specs.Reads.{reads_each}
use Rattle.dj_typed.specs.Assigned.{list_reads}
use Rattle.dj_typing.specs.Sites.{Site}
use Rattle.dj_typing.specs.Expressions.{exps_types}
use Rattle.dj_typed.specs.Statements.{Around, means_constructor, without_this, list_types}

-- ---- where a tree stands

-- what the constant expressions of a tree rest on
abbrev pub constants_of : Site → Surroundings
constants_of site = record { headers = site.headers; members = site.members; class = site.class }

-- the type of a local variable: that of its kind, or, past the kinds, java/lang/Object where it holds a monitor
abbrev pub local_type : Option JType → Bool → Option JType
local_type (Some kind) monitor = Some kind
local_type None monitor = if monitor then Some (Class object_name) else None

-- the variables of a graph: the method's parameters, those that have kinds, those that hold monitors, and those that hold states; what a tree declares is none
abbrev pub graph_scope : List JType → List JType → (ℕ → Bool) → Scope
graph_scope parameters has_kinds is_monitor variable = by_kind variable.kind
  where
    by_kind : VarKind → Option JType
    by_kind kind.Param = slice_get parameters variable.number
    by_kind kind.Local = local_type (slice_get has_kinds variable.number) (is_monitor variable.number)
    by_kind kind.Caught = None
    by_kind kind.State = Some types.Int

-- ---- formed

-- a tree is formed among the jumps that are taken around it, which for a tree of a graph are its open ones, and with these variables in scope: it keeps the
-- rules of types, each variable that it declares is assigned where it is read, and it can't complete normally
pub record IsFormed (around : Around) (scope : Scope) (tree : Stms) : Type 0 where
  pub types : Holds (list_types around scope 0 tree)
  pub reads : Holds (list_reads (constants_of around.site) everything 0 tree)
  pub ends : list_completes (constants_of around.site) tree ≡ false

-- ---- constructors

-- the call of another constructor with which a statement begins, first in Blocks and under labels that stand first: whether it is one of this class, and its arguments
abbrev mutual
  pub first_call : Stm → Option (Bool × Exps)
  first_call (Block list) = list_first_call list
  first_call (Labelled label statement) = first_call statement
  first_call (Declare variable kind initial) = None
  first_call (Set variable new) = None
  first_call (SetField object name new) = None
  first_call (SetStatic class name new) = None
  first_call (SetElement array index new) = None
  first_call (Run call) = None
  first_call (If test first second) = None
  first_call (While test body) = None
  first_call (Switch on arms) = None
  first_call (Break label) = None
  first_call (Continue label) = None
  first_call (Return value) = None
  first_call (Throw exception) = None
  first_call (Rethrow variable) = None
  first_call (Try body clauses) = None
  first_call (Synchronized monitor body) = None
  first_call (Construct own arguments) = Some (own, arguments)
  first_call (Do body test) = None
  first_call (For test variable step body) = None
  first_call (Finally body last) = None

  -- the same of a list
  pub list_first_call : Stms → Option (Bool × Exps)
  list_first_call Empty = None
  list_first_call (And first rest) = first_call first

abbrev mutual
  -- a statement without that call
  pub without_call : Stm → Stm
  without_call (Block list) = Block (list_without_call list)
  without_call (Labelled label statement) = Labelled label (without_call statement)
  without_call (Declare variable kind initial) = Declare variable kind initial
  without_call (Set variable new) = Set variable new
  without_call (SetField object name new) = SetField object name new
  without_call (SetStatic class name new) = SetStatic class name new
  without_call (SetElement array index new) = SetElement array index new
  without_call (Run call) = Run call
  without_call (If test first second) = If test first second
  without_call (While test body) = While test body
  without_call (Switch on groups) = Switch on groups
  without_call (Break label) = Break label
  without_call (Continue label) = Continue label
  without_call (Return value) = Return value
  without_call (Throw exception) = Throw exception
  without_call (Rethrow variable) = Rethrow variable
  without_call (Try body clauses) = Try body clauses
  without_call (Synchronized monitor body) = Synchronized monitor body
  without_call (Construct own arguments) = Block Empty
  without_call (Do body test) = Do body test
  without_call (For test variable step body) = For test variable step body
  without_call (Finally body last) = Finally body last

  -- the same of a list
  pub list_without_call : Stms → Stms
  list_without_call Empty = Empty
  list_without_call (And first rest) = And (without_call first) rest

-- such a call is formed: in a constructor, with the parameters alone in scope; where none stands, the method is no constructor
abbrev pub CallIsFormed : Around → Scope → Option (Bool × Exps) → Type 0
CallIsFormed around parameters None = around.constructs ≡ false
CallIsFormed around parameters (Some call) =
    Holds (Rule 0 kinds.Call (around.constructs && means_constructor around.site parameters call.0 call.1)
    and exps_types (without_this around.site) parameters 0 call.1 and reads_each (constants_of around.site) everything 0 call.1)

-- the tree with which a run begins is formed: its call by itself, in the scope of the parameters, and what is left as any other
pub record IsFormedFirst (around : Around) (parameters scope : Scope) (tree : Stms) : Type 0 where
  pub call : CallIsFormed around parameters (list_first_call tree)
  pub rest : IsFormed around scope (list_without_call tree)
