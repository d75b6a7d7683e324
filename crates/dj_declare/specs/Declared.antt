-- A body from a formed tree (JLS 8.4, 8.7, 14.17): its variables at the head, the tree made lawful behind them, and the last return left out where it is plain.
use Rattle.std.specs.Prelude.{◌≡◌, ◌≤◌, ℕ, Bool, true, false, not, if◌then◌else◌, List, [], map, length, Option, Some, None}
use Rattle.dj_names.specs.declared.header.Header.{Header}
use Rattle.dj_names.specs.declared.members.ClassMembers.{ClassMembers}
use Rattle.dj_names.specs.MethodNames.{is_constructor}
use Rattle.dj_names.specs.Types.{JType, parameters_of, result_of}
use Rattle.dj_syntax.specs.Trees.{Exp, Exps, Stm, Block, Labelled, Declare, Set, SetField, SetStatic, SetElement, Run, If, While, Switch, Break, Continue, Return, Throw, Rethrow, Try, Synchronized, Construct, Do, For, Finally, Stms, Empty, And, Body}
use Rattle.dj_syntax.specs.UnitText.{is_initialiser}
use Rattle.dj_values.specs.Values.{Value, Answer, Show}
use Rattle.dj_values.specs.Fits.{is_static, behind_this}
use Rattle.dj_values.specs.Outcomes.{State, bind, shown}
use Rattle.dj_meaning.specs.Members.{view_members}
use Rattle.dj_meaning.specs.StaticTypes.{Context, Scope}
use Rattle.dj_meaning.specs.Runs.{Store, Meaning, ◌>>=◌}
use Rattle.dj_meaning.specs.Completions.{Completion, sequence}
use Rattle.dj_meaning.specs.Statements.{First}
use Rattle.dj_meaning.specs.Meaning.{run, run_all, of_parameter, ended, context_of, entered, source_show}
use Rattle.dj_places.specs.Constants.{Surroundings}
use Rattle.dj_places.specs.Surroundings.{around_body}
use Rattle.dj_places.specs.Rules.{Holds}
use Rattle.dj_reach.specs.Bodies.{site_of}
use Rattle.dj_thrown.specs.Bodies.{scope_in, body_thrown}
use Rattle.dj_typing.specs.Sites.{may_name}
use Rattle.dj_typed.specs.Bodies.{Writing, IsRight, site_in, around_in, IsTyped}
use Rattle.dj_widened.specs.Widens.{Widens}
use Rattle.dj_held.specs.Running.{AreMembers, IsInOrder}
use Rattle.dj_formed.specs.Formed.{IsFormed}
use Rattle.dj_declare.specs.Lawful.{all_lawful}
use Rattle.dj_declare.specs.Laws.{AreOrdered, running_in}
use Rattle.dj_declare.specs.Heads.{Head, headed, behind_heads, CanStand, started, Start}

-- ---- the last return

-- there is no value
abbrev pub is_plain : Option Exp → Bool
is_plain None = true
is_plain (Some value) = false

-- a return without a value
abbrev pub is_plain_return : Stm → Bool
is_plain_return (Block list) = false
is_plain_return (Labelled label statement) = false
is_plain_return (Declare variable kind initial) = false
is_plain_return (Set variable new) = false
is_plain_return (SetField object name new) = false
is_plain_return (SetStatic class name new) = false
is_plain_return (SetElement array index new) = false
is_plain_return (Run call) = false
is_plain_return (If test first second) = false
is_plain_return (While test body) = false
is_plain_return (Switch on arms) = false
is_plain_return (Break label) = false
is_plain_return (Continue label) = false
is_plain_return (Return value) = is_plain value
is_plain_return (Throw exception) = false
is_plain_return (Rethrow variable) = false
is_plain_return (Try body clauses) = false
is_plain_return (Synchronized monitor body) = false
is_plain_return (Construct own arguments) = false
is_plain_return (Do body test) = false
is_plain_return (For test variable step body) = false
is_plain_return (Finally body last) = false

-- one statement, or nothing in place of a plain return
abbrev pub unless_plain : Stm → Stms
unless_plain only = if is_plain_return only then Empty else And only Empty

-- a statement and those behind it, without the last one where that is a return without a value
abbrev pub but_last : Stm → Stms → Stms
but_last first Empty = unless_plain first
but_last first (And second rest) = And first (but_last second rest)

-- the same of a list
abbrev pub without_last : Stms → Stms
without_last Empty = Empty
without_last (And first rest) = but_last first rest

-- so it is left out in a method without a result
abbrev pub left_out : Option JType → Stms → Stms
left_out None list = without_last list
left_out (Some result) list = list

-- ---- bodies

-- the body of a method that is neither a constructor nor a static initialiser, given its head
abbrev pub made_body : Surroundings → Body → List Head → Stms → Body
made_body known method heads tree = record method { statements = headed heads (left_out (result_of method.descriptor) (all_lawful known tree)) }

-- it is typed, where the tree is formed and nothing that has to be declared or caught escapes it
abbrev pub MadeIsTyped : Type 0
MadeIsTyped =
    (headers : List Header) (members : List ClassMembers) (method : Body) (writing : Writing) (heads : List Head) (tree : Stms) → IsRight headers members method.class writing
    → may_name (site_in writing headers members method) method.class ≡ true → is_constructor method.name ≡ false → is_initialiser method.name ≡ false
    → CanStand (site_in writing headers members method) (scope_in method) heads
    → IsFormed (around_in writing headers members method) (behind_heads heads (scope_in method)) tree → AreOrdered (site_of headers members method) tree
    → Holds (body_thrown headers members (made_body (around_body headers members method) method heads tree))
    → IsTyped headers members (made_body (around_body headers members method) method heads tree)

-- what a tree shows, run in a scope from a state
abbrev pub tree_show : Context → Scope → ℕ → Stms → State Store → Show
tree_show context scope bound tree state = shown (bind (run_all context scope bound tree state) (ended context.result))

-- the body shows what the tree shows, at each bound, whatever classes run besides: the tree from the state that the heads make
abbrev pub MadeShows : Type 0
MadeShows =
    (headers wider : List Header) (members : List ClassMembers) (method : Body) (writing : Writing) (heads : List Head) (given : List Value) (tree : Stms) (arguments : List Value) (answers : List Answer) (bound : ℕ)
    → IsInOrder (running_in wider (context_of wider members method arguments).this (around_in writing headers members method)) → length (parameters_of method.descriptor) ≤ 4294967295
    → CanStand (site_in writing headers members method) (scope_in method) heads
    → IsFormed (around_in writing headers members method) (behind_heads heads (scope_in method)) tree
    → Start (context_of wider members method arguments) (of_parameter (parameters_of method.descriptor)) heads given (entered (behind_this (is_static method.flags) arguments) answers)
    → source_show wider members (made_body (around_body headers members method) method heads tree) arguments answers bound
    ≡ tree_show (context_of wider members method arguments) (behind_heads heads (of_parameter (parameters_of method.descriptor))) bound tree
    (started heads given (entered (behind_this (is_static method.flags) arguments) answers))
