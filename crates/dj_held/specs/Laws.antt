-- An expression that keeps the rules never is stuck (JLS 15, 16.1).
use Rattle.std.specs.Prelude.{ℕ}
use Rattle.dj_syntax.specs.Trees.{Exp}
use Rattle.dj_values.specs.Values.{Value}
use Rattle.dj_values.specs.Outcomes.{State}
use Rattle.dj_meaning.specs.StaticTypes.{Scope, type_of}
use Rattle.dj_meaning.specs.Runs.{Store}
use Rattle.dj_meaning.specs.Expressions.{value}
use Rattle.dj_places.specs.Rules.{Holds}
use Rattle.dj_typing.specs.Sites.{context_of}
use Rattle.dj_typing.specs.Expressions.{exp_types}
use Rattle.dj_variables.specs.Sets.{Set}
use Rattle.dj_conditions.specs.Conditions.{when}
use Rattle.dj_conditions.specs.Reads.{reads}
use Rattle.dj_held.specs.Replies.{Ends}
use Rattle.dj_held.specs.Running.{Running, context, surroundings, IsInOrder}
use Rattle.dj_held.specs.Reaching.{Reaches, Leaves, Values}

-- where control comes to an expression that keeps the rules of types and of assignment, its run gives a value of its type, with what is then assigned,
-- or throws an exception, or is cut
abbrev pub TypedExpressionsHold : Type 0
TypedExpressionsHold =
    (body : Running) → IsInOrder body → (scope : Scope) (set : Set) (place other : ℕ) (start state : State Store) (exp : Exp)
    → Holds (exp_types body.site scope place exp) → Holds (reads (surroundings body.site) set other exp) → Reaches body.headers scope set start state
    → Ends Value (Values body.headers (type_of (context_of body.site) scope exp) scope (when (surroundings body.site) exp set) start) (Leaves body.headers scope start) (value (context body) scope exp state)
