-- The body of a method from the tree of its graph (JLS 8.4, 8.7, 8.8.7): its variables at the head, behind the call of another constructor where the tree begins with
-- one, and then the tree, made lawful. It is typed, and shows at each bound what the tree shows from the state in which the run of the graph begins.
use Rattle.std.specs.Prelude.{◌≡◌, ◌≤◌, ℕ, Bool, true, false, if◌then◌else◌, List, length, Option, Some, None}
use Rattle.dj_names.specs.declared.header.Header.{Header}
use Rattle.dj_names.specs.declared.members.ClassMembers.{ClassMembers}
use Rattle.dj_names.specs.MethodNames.{is_constructor}
use Rattle.dj_names.specs.Types.{JType, parameters_of, result_of}
use Rattle.dj_syntax.specs.declared.variable.Var.{Var}
use Rattle.dj_syntax.specs.Trees.{Exps, Construct, Stms, And, Body}
use Rattle.dj_syntax.specs.UnitText.{is_initialiser}
use Rattle.dj_values.specs.Values.{Value, Answer}
use Rattle.dj_values.specs.Fits.{is_static, behind_this}
use Rattle.dj_values.specs.Outcomes.{shown}
use Rattle.dj_meaning.specs.Runs.{◌>>=◌}
use Rattle.dj_meaning.specs.Meaning.{run_statements, ended, context_of, source_show}
use Rattle.dj_places.specs.Constants.{Surroundings}
use Rattle.dj_places.specs.Surroundings.{around_body}
use Rattle.dj_places.specs.Rules.{Holds}
use Rattle.dj_declare.specs.ThrownBodies.{scope_in, body_thrown}
use Rattle.dj_typing.specs.Sites.{may_name}
use Rattle.dj_declare.specs.Bodies.{Writing, IsRight, site_in, around_in, IsTyped}
use Rattle.dj_declare.specs.Running.{IsInOrder}
use Rattle.dj_declare.specs.Formed.{IsFormed, CallIsFormed}
use Rattle.dj_declare.specs.Laws.{running_in}
use Rattle.dj_declare.specs.Lawful.{all_lawful}
use Rattle.dj_declare.specs.Heads.{Head, headed}
use Rattle.dj_declare.specs.Declared.{left_out}
use Rattle.dj_declare.specs.Initialisers.{wrapped}
use Rattle.dj_declare.specs.Breaking.{list_lacks}
use Rattle.dj_declare.specs.Escapes.{HaveNoTry}
use Rattle.dj_rebuilding.specs.Pending.{assigns_any}
use Rattle.dj_declaring.specs.declared.entry.Entry.{Entry}
use Rattle.dj_declaring.specs.Starting.{tree_scope, heads_for, first_state, MayEnter, IsGiven}
use Rattle.dj_declaring.specs.Returning.{opening_call, behind_call, not_returning}

-- ---- the body

-- the statements behind the head of a body, where no call stands before it, given a label that the tree lacks
abbrev pub list_with : Surroundings → Body → ℕ → Stms → Stms
list_with known method own tree =
    if is_initialiser method.name then wrapped known (all_lawful known (not_returning own tree)) else left_out (result_of method.descriptor) (all_lawful known tree)

-- the statements of a body, given the declarations at its head, and the call with which the tree begins, where it does
abbrev pub statements_with : Surroundings → Body → List Head → ℕ → Stms → Option (Bool × Exps) → Stms
statements_with known method heads own tree None = headed heads (list_with known method own tree)
statements_with known method heads own tree (Some call) = And (Construct call.0 call.1) (headed heads (left_out None (all_lawful known (behind_call tree))))

-- the body of a method with this head
abbrev pub body_with : Surroundings → Body → List Head → ℕ → Stms → Option (Bool × Exps) → Body
body_with known method heads own tree call = record method { statements = statements_with known method heads own tree call }

-- the body, given the kinds of the variables, and those that hold `this` and parameters as the method begins
abbrev pub declared_body : Surroundings → Body → List JType → Entry → ℕ → Stms → Body
declared_body known method kinds entry own tree =
    body_with known method (heads_for kinds (parameters_of method.descriptor) entry tree) own tree (opening_call tree)

-- ---- what is asked

-- a tree is formed where it begins as the tree of a method has to: with the call of another constructor in a constructor alone, which assigns nothing and stands in the scope
-- of the parameters
abbrev pub IsFormedBehind : List Header → List ClassMembers → Writing → Body → List JType → Stms → Option (Bool × Exps) → Type 0
IsFormedBehind headers members writing method kinds tree None =
    (is_constructor method.name ≡ false) × IsFormed (around_in writing headers members method) (tree_scope (parameters_of method.descriptor) kinds) tree
IsFormedBehind headers members writing method kinds tree (Some call) =
    CallIsFormed (around_in writing headers members method) (scope_in method) (Some call) × (is_initialiser method.name ≡ false)
    × IsFormed (around_in writing headers members method) (tree_scope (parameters_of method.descriptor) kinds) (behind_call tree) × ((variable : Var) → assigns_any call.1 variable ≡ false)

-- what is asked of a tree without `try`, which no jump leaves, for the method that it is to be the body of
pub record IsReady (headers : List Header) (members : List ClassMembers) (writing : Writing) (method : Body) (kinds : List JType) (entry : Entry) (own : ℕ) (tree : Stms) : Type 0 where
  pub right : IsRight headers members method.class writing
  pub named : may_name (site_in writing headers members method) method.class ≡ true
  pub few : length (parameters_of method.descriptor) ≤ 4294967295
  pub initialises : is_initialiser method.name ≡ true → result_of method.descriptor ≡ None
  pub constructs : is_constructor method.name ≡ true → result_of method.descriptor ≡ None
  pub enters : MayEnter (site_in writing headers members method) (parameters_of method.descriptor) kinds entry
  pub formed : IsFormedBehind headers members writing method kinds tree (opening_call tree)
  pub quiet : HaveNoTry tree
  pub lacks : list_lacks own tree ≡ true

-- ---- the laws

-- the body is typed, where what it throws may escape and each of its clauses is right, which without `try` is what the tree throws
abbrev pub DeclareIsTyped : Type 0
DeclareIsTyped =
    (headers : List Header) (members : List ClassMembers) (writing : Writing) (method : Body) (kinds : List JType) (entry : Entry) (own : ℕ) (tree : Stms)
    → IsReady headers members writing method kinds entry own tree
    → Holds (body_thrown headers members (declared_body (around_body headers members method) method kinds entry own tree))
    → IsTyped headers members (declared_body (around_body headers members method) method kinds entry own tree)

-- and shows what the tree shows, whatever classes run besides, from the state in which the run of the graph begins, at the same bound
abbrev pub DeclareShows : Type 0
DeclareShows =
    (headers wider : List Header) (members : List ClassMembers) (writing : Writing) (method : Body) (kinds : List JType) (entry : Entry) (own : ℕ) (tree : Stms) (arguments : List Value) (answers : List Answer) (bound : ℕ)
    → IsReady headers members writing method kinds entry own tree
    → IsInOrder (running_in wider (context_of wider members method arguments).this (around_in writing headers members method))
    → IsGiven wider method.class (parameters_of method.descriptor) entry (context_of wider members method arguments).this (behind_this (is_static method.flags) arguments)
    → source_show wider members (declared_body (around_body headers members method) method kinds entry own tree) arguments answers bound
    ≡ shown ((run_statements (context_of wider members method arguments) (tree_scope (parameters_of method.descriptor) kinds) bound tree >>= ended (result_of method.descriptor))
    (first_state kinds (context_of wider members method arguments).this (behind_this (is_static method.flags) arguments) entry answers))
