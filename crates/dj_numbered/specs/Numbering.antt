-- The numbers that the text of a body gives its variables and labels: v0, v1 and so on, e0, s0 and l0 likewise, each in the order in which the text uses them first (JLS 6.2, 14.7).
use Rattle.std.specs.Prelude.{◌≡◌, ℕ, suc, ◌==◌, Bool, false, ◌||◌, if◌then◌else◌, List, [], ◌∷◌, ◌++◌, Option, Some, None}
use Rattle.dj_names.specs.declared.header.Header.{Header}
use Rattle.dj_names.specs.declared.members.ClassMembers.{ClassMembers}
use Rattle.dj_syntax.specs.declared.variable.VarKind.{VarKind}
use Rattle.dj_syntax.specs.declared.variable.VarKind.TheVariants as kind
use Rattle.dj_syntax.specs.declared.variable.Var.{Var}
use Rattle.dj_syntax.specs.Trees.{Exp, Text, Truth, This, Variable, ClassOf, Field, Static, Element, Call, StaticCall, SuperCall, New, NewArray, Cast, InstanceOf, Negative, Not, Binary, Choice, Assign, Exps, NoExps, AndExp, Stm, Block, Labelled, Declare, Set, SetField, SetStatic, SetElement, Run, If, While, Switch, Break, Continue, Return, Throw, Rethrow, Try, Synchronized, Construct, Do, For, Finally, Stms, Empty, And, Groups, NoGroups, AndGroup, Catches, NoCatches, AndCatch, Body}
use Rattle.dj_syntax.specs.Trees as trees
use Rattle.dj_values.specs.Values.{Value, Answer}
use Rattle.dj_meaning.specs.Meaning.{source_show}
use Rattle.dj_typed.specs.Bodies.{IsTyped}
use Rattle.dj_renaming.specs.Renaming.{Names, AreApart, all_renamed}

-- ---- what a text uses

-- the numbers of variables of each kind, and of labels, that a text uses, each once, in the order in which it uses them first; those of parameters stay as they are
pub record Used : Type 0 where
  pub locals : List ℕ
  pub caught : List ℕ
  pub states : List ℕ
  pub labels : List ℕ

-- nothing is used yet
abbrev pub nothing_used : Used
nothing_used = record { locals = []; caught = []; states = []; labels = [] }

-- a number is one of these
abbrev pub is_listed : ℕ → List ℕ → Bool
is_listed number [] = false
is_listed number (first ∷ rest) = (number == first) || is_listed number rest

-- with a number more, if it is new
abbrev pub listed : ℕ → List ℕ → List ℕ
listed number list = if is_listed number list then list else list ++ number ∷ []

-- a variable is used
abbrev pub variable_used : Var → Used → Used
variable_used variable used = by_kind variable.kind
  where
    by_kind : VarKind → Used
    by_kind kind.Param = used
    by_kind kind.Local = record used { locals = listed variable.number used.locals }
    by_kind kind.Caught = record used { caught = listed variable.number used.caught }
    by_kind kind.State = record used { states = listed variable.number used.states }

-- a label is
abbrev pub label_used : ℕ → Used → Used
label_used label used = record used { labels = listed label used.labels }

abbrev mutual
  -- what is used behind an expression
  pub exp_used : Exp → Used → Used
  exp_used (trees.Int number) used = used
  exp_used (trees.Long number) used = used
  exp_used (Text units) used = used
  exp_used (Truth known) used = used
  exp_used trees.Null used = used
  exp_used This used = used
  exp_used (Variable variable) used = variable_used variable used
  exp_used (ClassOf type) used = used
  exp_used (Field object name) used = exp_used object used
  exp_used (Static class name) used = used
  exp_used (Element array index) used = exp_used index (exp_used array used)
  exp_used (Call object name arguments) used = exps_used arguments (exp_used object used)
  exp_used (StaticCall class name arguments) used = exps_used arguments used
  exp_used (SuperCall above name arguments) used = exps_used arguments used
  exp_used (New class arguments) used = exps_used arguments used
  exp_used (NewArray type sizes more) used = exps_used sizes used
  exp_used (Cast type operand) used = exp_used operand used
  exp_used (InstanceOf operand type) used = exp_used operand used
  exp_used (Negative operand) used = exp_used operand used
  exp_used (Not operand) used = exp_used operand used
  exp_used (Binary operator left right) used = exp_used right (exp_used left used)
  exp_used (Choice test first second) used = exp_used second (exp_used first (exp_used test used))
  exp_used (Assign variable new) used = exp_used new (variable_used variable used)

  -- what is used behind expressions
  pub exps_used : Exps → Used → Used
  exps_used NoExps used = used
  exps_used (AndExp first rest) used = exps_used rest (exp_used first used)

-- what is used behind an expression that may be left out
abbrev pub option_used : Option Exp → Used → Used
option_used None used = used
option_used (Some exp) used = exp_used exp used

abbrev mutual
  -- what is used behind a statement
  pub stm_used : Stm → Used → Used
  stm_used (Block list) used = stms_used list used
  stm_used (Labelled label statement) used = stm_used statement (label_used label used)
  stm_used (Declare variable type initial) used = option_used initial (variable_used variable used)
  stm_used (Set variable new) used = exp_used new (variable_used variable used)
  stm_used (SetField object name new) used = exp_used new (exp_used object used)
  stm_used (SetStatic class name new) used = exp_used new used
  stm_used (SetElement array index new) used = exp_used new (exp_used index (exp_used array used))
  stm_used (Run call) used = exp_used call used
  stm_used (If test first second) used = stms_used second (stms_used first (exp_used test used))
  stm_used (While test body) used = stms_used body (exp_used test used)
  stm_used (Switch on arms) used = groups_used arms (exp_used on used)
  stm_used (Break label) used = label_used label used
  stm_used (Continue label) used = label_used label used
  stm_used (Return result) used = option_used result used
  stm_used (Throw exception) used = exp_used exception used
  stm_used (Rethrow variable) used = variable_used variable used
  stm_used (Try body clauses) used = catches_used clauses (stms_used body used)
  stm_used (Synchronized monitor body) used = stms_used body (exp_used monitor used)
  stm_used (Construct own arguments) used = exps_used arguments used
  stm_used (Do body test) used = exp_used test (stms_used body used)
  stm_used (For test variable step body) used = stms_used body (exp_used step (variable_used variable (exp_used test used)))
  stm_used (Finally body last) used = stms_used last (stms_used body used)

  -- what is used behind statements
  pub stms_used : Stms → Used → Used
  stms_used Empty used = used
  stms_used (And first rest) used = stms_used rest (stm_used first used)

  -- what is used behind groups
  pub groups_used : Groups → Used → Used
  groups_used NoGroups used = used
  groups_used (AndGroup labels body rest) used = groups_used rest (stms_used body used)

  -- what is used behind catch clauses
  pub catches_used : Catches → Used → Used
  catches_used NoCatches used = used
  catches_used (AndCatch class variable body rest) used = catches_used rest (stms_used body (variable_used variable used))

-- ---- numbers

-- the new number of one: its place in a list where it stands there, and else one behind those
abbrev pub place_of : List ℕ → ℕ → ℕ
place_of [] number = number
place_of (first ∷ rest) number = if number == first then 0 else suc (place_of rest number)

-- the new name of a variable, and of a label
abbrev pub variable_named : Used → Var → Var
variable_named used variable = by_kind variable.kind
  where
    by_kind : VarKind → Var
    by_kind kind.Param = variable
    by_kind kind.Local = record { kind = kind.Local; number = place_of used.locals variable.number }
    by_kind kind.Caught = record { kind = kind.Caught; number = place_of used.caught variable.number }
    by_kind kind.State = record { kind = kind.State; number = place_of used.states variable.number }

-- the names of a text that uses this
abbrev pub names_for : Used → Names
names_for used = record { variable = variable_named used; label = place_of used.labels }

-- a body whose numbers stand in the order of its text
abbrev pub numbered : Body → Body
numbered body = record body { statements = all_renamed (names_for (stms_used body.statements nothing_used)) body.statements }

-- ---- laws

-- no two variables get one name, nor two labels
abbrev pub NumbersAreApart : Type 0
NumbersAreApart = (used : Used) → AreApart (names_for used)

-- numbers that count up from one
abbrev pub CountUp : ℕ → List ℕ → Type 0
CountUp place [] = Unit {0}
CountUp place (first ∷ rest) = (first ≡ place) × CountUp (suc place) rest

-- the text of the numbered body uses 0, 1 and so on, in this order, for the variables of each kind and for the labels
abbrev pub CountsUp : Used → Type 0
CountsUp used = CountUp 0 used.locals × CountUp 0 used.caught × CountUp 0 used.states × CountUp 0 used.labels

abbrev pub NumbersCountUp : Type 0
NumbersCountUp = (body : Body) → CountsUp (stms_used (numbered body).statements nothing_used)

-- the numbered body is typed where the body is
abbrev pub NumberedIsTyped : Type 0
NumberedIsTyped = (headers : List Header) (members : List ClassMembers) (body : Body) → IsTyped headers members body → IsTyped headers members (numbered body)

-- and shows the same at the same bound, whatever classes run
abbrev pub NumberedShows : Type 0
NumberedShows =
    (headers : List Header) (members : List ClassMembers) (body : Body) (arguments : List Value) (answers : List Answer) (bound : ℕ)
    → source_show headers members (numbered body) arguments answers bound ≡ source_show headers members body arguments answers bound
