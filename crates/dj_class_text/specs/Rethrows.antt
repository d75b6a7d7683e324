-- Which bodies throw again what they caught, by the helper of their class.
use Rattle.std.specs.Prelude.{Bool, true, false, ◌||◌}
use Rattle.dj_syntax.specs.Trees.{Stm, Block, Labelled, Declare, Set, SetField, SetStatic, SetElement, Run, If, While, Switch, Break, Continue, Return, Throw, Rethrow, Try, Synchronized, Construct, Do, For, Finally, Stms, Empty, And, Groups, NoGroups, AndGroup, Catches, NoCatches, AndCatch}

abbrev mutual
  -- whether a statement, or one in it, is a rethrow
  pub has_rethrow : Stm → Bool
  has_rethrow (Block list) = have_rethrow list
  has_rethrow (Labelled label statement) = has_rethrow statement
  has_rethrow (Declare variable kind value) = false
  has_rethrow (Set variable value) = false
  has_rethrow (SetField object name value) = false
  has_rethrow (SetStatic class name value) = false
  has_rethrow (SetElement array index value) = false
  has_rethrow (Run call) = false
  has_rethrow (If test first second) = have_rethrow first || have_rethrow second
  has_rethrow (While test body) = have_rethrow body
  has_rethrow (Switch value groups) = groups_have_rethrow groups
  has_rethrow (Break label) = false
  has_rethrow (Continue label) = false
  has_rethrow (Return value) = false
  has_rethrow (Throw value) = false
  has_rethrow (Rethrow variable) = true
  has_rethrow (Try body catches) = have_rethrow body || catches_have_rethrow catches
  has_rethrow (Synchronized monitor body) = have_rethrow body
  has_rethrow (Construct own arguments) = false
  has_rethrow (Do body test) = have_rethrow body
  has_rethrow (For test variable step body) = have_rethrow body
  has_rethrow (Finally body last) = have_rethrow body || have_rethrow last

  -- whether one of these statements has a rethrow
  pub have_rethrow : Stms → Bool
  have_rethrow Empty = false
  have_rethrow (And first rest) = has_rethrow first || have_rethrow rest

  -- whether one of these groups has a rethrow
  pub groups_have_rethrow : Groups → Bool
  groups_have_rethrow NoGroups = false
  groups_have_rethrow (AndGroup labels body rest) = have_rethrow body || groups_have_rethrow rest

  -- whether one of these catch clauses has a rethrow
  pub catches_have_rethrow : Catches → Bool
  catches_have_rethrow NoCatches = false
  catches_have_rethrow (AndCatch class variable body rest) = have_rethrow body || catches_have_rethrow rest
