-- The call of another constructor with which a tree begins, and the returns that stand in a tree.
use Rattle.std.specs.Prelude.{ℕ, Bool, true, false, ◌||◌, if◌then◌else◌, Option, Some, None}
use Rattle.dj_syntax.specs.Trees.{Exps, Stm, Block, Labelled, Declare, Set, SetField, SetStatic, SetElement, Run, If, While, Switch, Break, Continue, Return, Throw, Rethrow, Try, Synchronized, Construct, Do, For, Finally, Stms, Empty, And, Groups, NoGroups, AndGroup, Catches, NoCatches, AndCatch}
use Rattle.dj_declare.specs.Declared.{without_last}
use Rattle.dj_declare.specs.Initialisers.{under_label}

-- ---- calls

-- the call that a statement is: whether it is one of this class, and its arguments
abbrev pub call_in : Stm → Option (Bool × Exps)
call_in (Block list) = None
call_in (Labelled label statement) = None
call_in (Declare variable kind initial) = None
call_in (Set variable new) = None
call_in (SetField object name new) = None
call_in (SetStatic class name new) = None
call_in (SetElement array index new) = None
call_in (Run call) = None
call_in (If test first second) = None
call_in (While test body) = None
call_in (Switch on arms) = None
call_in (Break label) = None
call_in (Continue label) = None
call_in (Return value) = None
call_in (Throw exception) = None
call_in (Rethrow variable) = None
call_in (Try body clauses) = None
call_in (Synchronized monitor body) = None
call_in (Construct own arguments) = Some (own, arguments)
call_in (Do body test) = None
call_in (For test variable step body) = None
call_in (Finally body last) = None

-- the call with which a tree begins: steps of a graph keep it the first statement
abbrev pub opening_call : Stms → Option (Bool × Exps)
opening_call Empty = None
opening_call (And first rest) = call_in first

-- what stands behind it
abbrev pub behind_call : Stms → Stms
behind_call Empty = Empty
behind_call (And first rest) = rest

-- ---- returns

abbrev mutual
  -- a return stands in a statement
  pub has_return : Stm → Bool
  has_return (Block list) = list_has_return list
  has_return (Labelled label statement) = has_return statement
  has_return (Declare variable kind initial) = false
  has_return (Set variable new) = false
  has_return (SetField object name new) = false
  has_return (SetStatic class name new) = false
  has_return (SetElement array index new) = false
  has_return (Run call) = false
  has_return (If test first second) = list_has_return first || list_has_return second
  has_return (While test body) = list_has_return body
  has_return (Switch on groups) = groups_have_return groups
  has_return (Break label) = false
  has_return (Continue label) = false
  has_return (Return value) = true
  has_return (Throw exception) = false
  has_return (Rethrow variable) = false
  has_return (Try body clauses) = list_has_return body || clauses_have_return clauses
  has_return (Synchronized monitor body) = list_has_return body
  has_return (Construct own arguments) = false
  has_return (Do body test) = list_has_return body
  has_return (For test variable step body) = list_has_return body
  has_return (Finally body last) = list_has_return body || list_has_return last

  -- or in statements
  pub list_has_return : Stms → Bool
  list_has_return Empty = false
  list_has_return (And first rest) = has_return first || list_has_return rest

  -- or in catch clauses
  pub clauses_have_return : Catches → Bool
  clauses_have_return NoCatches = false
  clauses_have_return (AndCatch class variable body rest) = list_has_return body || clauses_have_return rest

  -- or in groups
  pub groups_have_return : Groups → Bool
  groups_have_return NoGroups = false
  groups_have_return (AndGroup labels body rest) = list_has_return body || groups_have_return rest

-- statements without a return that do what these do: the last one is left out where it is a plain return, and a break of a label around stands in place of each other
abbrev pub not_returning : ℕ → Stms → Stms
not_returning own list = if list_has_return (without_last list) then under_label own (without_last list) else without_last list
