-- A tree with parameters in place of their copies is ready where the tree is, and shows the same; so the body that is printed is typed, and shows what the tree shows.
use Rattle.std.specs.Prelude.{◌≡◌, ℕ, List}
use Rattle.dj_names.specs.declared.header.Header.{Header}
use Rattle.dj_names.specs.declared.members.ClassMembers.{ClassMembers}
use Rattle.dj_names.specs.Types.{JType, parameters_of, result_of}
use Rattle.dj_syntax.specs.Trees.{Stms, Body}
use Rattle.dj_values.specs.Values.{Value, Answer}
use Rattle.dj_values.specs.Fits.{is_static, behind_this}
use Rattle.dj_values.specs.Outcomes.{shown}
use Rattle.dj_meaning.specs.Runs.{◌>>=◌}
use Rattle.dj_meaning.specs.Meaning.{run_statements, ended, context_of, source_show}
use Rattle.dj_places.specs.Rules.{Holds}
use Rattle.dj_places.specs.Surroundings.{around_body}
use Rattle.dj_thrown.specs.Bodies.{body_thrown}
use Rattle.dj_typed.specs.Bodies.{Writing, around_in, IsTyped}
use Rattle.dj_held.specs.Running.{IsInOrder}
use Rattle.dj_declare.specs.Laws.{running_in}
use Rattle.dj_declaring.specs.declared.entry.Entry.{Entry}
use Rattle.dj_declaring.specs.Starting.{tree_scope, first_state, IsGiven}
use Rattle.dj_declaring.specs.Declaring.{IsReady}
use Rattle.dj_parameters.specs.Parameters.{with_parameters, printed_body}

-- it is ready
abbrev pub ReadyWithParameters : Type 0
ReadyWithParameters =
    (headers : List Header) (members : List ClassMembers) (writing : Writing) (method : Body) (kinds : List JType) (entry : Entry) (own : ℕ) (tree : Stms)
    → IsReady headers members writing method kinds entry own tree
    → IsReady headers members writing method kinds entry own (with_parameters (parameters_of method.descriptor) kinds entry tree)

-- what a tree shows from the state in which the run of the graph begins
abbrev pub ShowsWithParameters : Type 0
ShowsWithParameters =
    (headers wider : List Header) (members : List ClassMembers) (writing : Writing) (method : Body) (kinds : List JType) (entry : Entry) (own : ℕ) (tree : Stms) (arguments : List Value) (answers : List Answer) (bound : ℕ)
    → IsReady headers members writing method kinds entry own tree
    → IsGiven wider method.class (parameters_of method.descriptor) entry (context_of wider members method arguments).this (behind_this (is_static method.flags) arguments)
    → shown ((run_statements (context_of wider members method arguments) (tree_scope (parameters_of method.descriptor) kinds) bound (with_parameters (parameters_of method.descriptor) kinds entry tree) >>= ended (result_of method.descriptor))
    (first_state kinds (context_of wider members method arguments).this (behind_this (is_static method.flags) arguments) entry answers))
    ≡ shown ((run_statements (context_of wider members method arguments) (tree_scope (parameters_of method.descriptor) kinds) bound tree >>= ended (result_of method.descriptor))
    (first_state kinds (context_of wider members method arguments).this (behind_this (is_static method.flags) arguments) entry answers))

-- the printed body is typed, where what it throws may escape and each of its clauses is right
abbrev pub PrintedIsTyped : Type 0
PrintedIsTyped =
    (headers : List Header) (members : List ClassMembers) (writing : Writing) (method : Body) (kinds : List JType) (entry : Entry) (own : ℕ) (tree : Stms)
    → IsReady headers members writing method kinds entry own tree
    → Holds (body_thrown headers members (printed_body (around_body headers members method) method kinds entry own tree))
    → IsTyped headers members (printed_body (around_body headers members method) method kinds entry own tree)

-- and shows what the tree shows, at the same bound
abbrev pub PrintedShows : Type 0
PrintedShows =
    (headers wider : List Header) (members : List ClassMembers) (writing : Writing) (method : Body) (kinds : List JType) (entry : Entry) (own : ℕ) (tree : Stms) (arguments : List Value) (answers : List Answer) (bound : ℕ)
    → IsReady headers members writing method kinds entry own tree
    → IsInOrder (running_in wider (context_of wider members method arguments).this (around_in writing headers members method))
    → IsGiven wider method.class (parameters_of method.descriptor) entry (context_of wider members method arguments).this (behind_this (is_static method.flags) arguments)
    → source_show wider members (printed_body (around_body headers members method) method kinds entry own tree) arguments answers bound
    ≡ shown ((run_statements (context_of wider members method arguments) (tree_scope (parameters_of method.descriptor) kinds) bound tree >>= ended (result_of method.descriptor))
    (first_state kinds (context_of wider members method arguments).this (behind_this (is_static method.flags) arguments) entry answers))
