-- The rules on a whole body (JLS 8.4.5, 8.8.7): those of types, of reachability, of definite assignment and of exceptions; a body is typed that keeps each.
use Rattle.std.specs.Prelude.{◌↔◌, Bool, true, false, not, ◌||◌, IsTrue, ℕ, List, [], map, Contains}
use Rattle.dj_names.specs.declared.header.Header.{Header}
use Rattle.dj_names.specs.declared.members.ClassMembers.{ClassMembers}
use Rattle.dj_names.specs.Headers.{Name, names}
use Rattle.dj_names.specs.Identifiers.{IsIdentifier}
use Rattle.dj_names.specs.MethodNames.{is_constructor}
use Rattle.dj_names.specs.Types.{result_of}
use Rattle.dj_syntax.specs.Trees.{Stm, Block, Labelled, Declare, Set, SetField, SetStatic, SetElement, Run, If, While, Switch, Break, Continue, Return, Throw, Rethrow, Try, Synchronized, Construct, Do, For, Finally, Stms, Empty, And, Body}
use Rattle.dj_values.specs.Fits.{is_static}
use Rattle.dj_sayable.specs.Saying.{CanBeSaid}
use Rattle.dj_meaning.specs.Members.{view_members}
use Rattle.dj_places.specs.Rules.{Rules, Rule, ◌and◌, Holds}
use Rattle.dj_places.specs.declared.kind.TypeKind.TheVariants as kinds
use Rattle.dj_faults.specs.declared.fault.Fault.{Fault}
use Rattle.dj_faults.specs.declared.body_fault.BodyFault.{BodyFault}
use Rattle.dj_faults.specs.declared.body_fault.BodyFault.TheVariants.{TypeFault, Memory}
use Rattle.dj_faults.specs.FirstFault.{IsFirstFault}
use Rattle.dj_reach.specs.Bodies.{body_reach}
use Rattle.dj_assigned.specs.Bodies.{body_reads}
use Rattle.dj_thrown.specs.Bodies.{scope_in, body_thrown}
use Rattle.dj_typing.specs.Sites.{Site, may_name}
use Rattle.dj_typed.specs.Statements.{Around, all_types}

-- tests of what can be written in a class: names of classes, and identifiers
pub record Writing : Type 0 where
  pub can_say : Name → Bool
  pub can_name : List ℕ → Bool

-- the tests are right: a name of a class can be written where there is such a class and the text can say its name
pub record IsRight (headers : List Header) (members : List ClassMembers) (class : Name) (writing : Writing) : Type 0 where
  pub says : (name : Name) → IsTrue (writing.can_say name) ↔ (Contains (names headers) name × CanBeSaid headers members class name)
  pub spells : (name : List ℕ) → IsTrue (writing.can_name name) ↔ IsIdentifier name

-- where the expressions of a body stand
abbrev pub site_in : Writing → List Header → List ClassMembers → Body → Site
site_in writing headers members body = record {
  headers = headers;
  members = map view_members members;
  class = body.class;
  has_this = not (is_static body.flags);
  can_say = writing.can_say;
  can_name = writing.can_name;
}

-- where its statements do
abbrev pub around_in : Writing → List Header → List ClassMembers → Body → Around
around_in writing headers members body = record {
  site = site_in writing headers members body;
  result = result_of body.descriptor;
  constructs = is_constructor body.name;
  targets = [];
}

-- a statement calls another constructor
abbrev pub is_construct : Stm → Bool
is_construct (Block list) = false
is_construct (Labelled label statement) = false
is_construct (Declare variable kind initial) = false
is_construct (Set variable new) = false
is_construct (SetField object name new) = false
is_construct (SetStatic class name new) = false
is_construct (SetElement array index new) = false
is_construct (Run call) = false
is_construct (If test first second) = false
is_construct (While test body) = false
is_construct (Switch on some) = false
is_construct (Break label) = false
is_construct (Continue label) = false
is_construct (Return value) = false
is_construct (Throw exception) = false
is_construct (Rethrow variable) = false
is_construct (Try body clauses) = false
is_construct (Synchronized monitor body) = false
is_construct (Construct own arguments) = true
is_construct (Do body test) = false
is_construct (For test variable step body) = false
is_construct (Finally body last) = false

-- the first of some statements does
abbrev pub begins_with_construct : Stms → Bool
begins_with_construct Empty = false
begins_with_construct (And first rest) = is_construct first

-- the rules of types: the body's class can be named, a constructor calls another one first, and its statements keep theirs
abbrev pub body_types : Writing → List Header → List ClassMembers → Body → Rules
body_types writing headers members body =
    Rule 0 kinds.Name (may_name (site_in writing headers members body) body.class)
    and Rule 0 kinds.Call (not (is_constructor body.name) || begins_with_construct body.statements)
    and all_types (around_in writing headers members body) (scope_in body) body.statements

-- all the rules on a body
abbrev pub body_rules : Writing → List Header → List ClassMembers → Body → Rules
body_rules writing headers members body =
    body_types writing headers members body and body_reach headers members body and body_reads headers members body and body_thrown headers members body

-- a body is typed: by tests that are right, each rule is kept
pub record IsTyped (headers : List Header) (members : List ClassMembers) (body : Body) : Type 0 where
  pub writing : Writing
  pub right : IsRight headers members body.class writing
  pub holds : Holds (body_rules writing headers members body)

-- a body isn't: by tests that are right, this fault is the first
pub record IsUntyped (headers : List Header) (members : List ClassMembers) (body : Body) (fault : Fault) : Type 0 where
  pub writing : Writing
  pub right : IsRight headers members body.class writing
  pub first : IsFirstFault (body_rules writing headers members body) fault

-- what is answered of a body that isn't typed; want of memory says nothing
abbrev pub IsTypeFault : List Header → List ClassMembers → Body → BodyFault → Type 0
IsTypeFault headers members body (TypeFault place kind) = IsUntyped headers members body (record { place = place; kind = kind })
IsTypeFault headers members body (Memory error) = Unit {0}
