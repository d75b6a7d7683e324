-- How a statement may complete besides by a return, by its form alone (JLS 14.21).
use Rattle.std.specs.Prelude.{◌≡◌, ℕ, Bool, true, false, not, ◌&&◌, ◌||◌, ◌==◌, Option, Some, None}
use Rattle.dj_syntax.specs.Trees.{Exp, Text, Truth, This, Variable, ClassOf, Field, Static, Element, Call, StaticCall, SuperCall, New, NewArray, Cast, InstanceOf, Negative, Not, Binary, Choice, Assign, Stm, Block, Labelled, Declare, Set, SetField, SetStatic, SetElement, Run, If, While, Switch, Throw, Rethrow, Try, Synchronized, Construct, Do, For, Finally, Stms, Empty, And, Groups, NoGroups, AndGroup, Catches, NoCatches, AndCatch}
use Rattle.dj_syntax.specs.Trees as trees
use Rattle.dj_values.specs.Outcomes.{Outcome, Is, Stops}
use Rattle.dj_meaning.specs.Runs.{Store}
use Rattle.dj_meaning.specs.Completions.{Completion, Normal, Break, Continue, Return, Misfit, is_own}
use Rattle.dj_meaning.specs.Statements.{is_labelled}

-- normally, by a break to which labels, by a continue of which
pub record Ways : Type 0 where
  pub falls : Bool
  pub jumps : ℕ → Bool
  pub goes_on : ℕ → Bool

-- in no way but a return
abbrev pub no_way : Ways
no_way = record { falls = false; jumps = λ label. false; goes_on = λ label. false }

-- normally, where this is so
abbrev pub normally_if : Bool → Ways
normally_if falls = record { falls = falls; jumps = λ label. false; goes_on = λ label. false }

-- as one of two
abbrev pub one_of : Ways → Ways → Ways
one_of first second = record {
  falls = first.falls || second.falls;
  jumps = λ label. first.jumps label || second.jumps label;
  goes_on = λ label. first.goes_on label || second.goes_on label;
}

-- one, and where it completes normally another behind it
abbrev pub both_of : Ways → Ways → Ways
both_of first second = record {
  falls = first.falls && second.falls;
  jumps = λ label. first.jumps label || (first.falls && second.jumps label);
  goes_on = λ label. first.goes_on label || (first.falls && second.goes_on label);
}

-- under a label
abbrev pub labelled : ℕ → Ways → Ways
labelled own inner = record {
  falls = inner.falls || inner.jumps own;
  jumps = λ label. not (label == own) && inner.jumps label;
  goes_on = λ label. not (label == own) && inner.goes_on label;
}

-- a loop that ends normally where this is so, and takes the continues of its own label
abbrev pub repeated : Option ℕ → Bool → Ways → Ways
repeated own falls body = record { falls = falls; jumps = body.jumps; goes_on = λ label. not (is_own own label) && body.goes_on label }

-- the body of a loop comes to its end, or goes on by a continue of the loop's own label
abbrev pub comes_round : Option ℕ → Ways → Bool
comes_round None body = body.falls
comes_round (Some own) body = body.falls || body.goes_on own

-- the test is the literal `true`, which always holds
abbrev pub is_true : Exp → Bool
is_true (trees.Int number) = false
is_true (trees.Long number) = false
is_true (Text units) = false
is_true (Truth known) = known
is_true trees.Null = false
is_true This = false
is_true (Variable variable) = false
is_true (ClassOf kind) = false
is_true (Field object name) = false
is_true (Static class name) = false
is_true (Element array index) = false
is_true (Call object name arguments) = false
is_true (StaticCall class name arguments) = false
is_true (SuperCall above name arguments) = false
is_true (New class arguments) = false
is_true (NewArray kind sizes more) = false
is_true (Cast kind operand) = false
is_true (InstanceOf operand kind) = false
is_true (Negative operand) = false
is_true (Not operand) = false
is_true (Binary operator left right) = false
is_true (Choice test first second) = false
is_true (Assign variable new) = false

abbrev mutual
  -- given the label right before the statement
  pub ways : Option ℕ → Stm → Ways
  ways own (Block list) = all_ways list
  ways own (Labelled label statement) = labelled label (ways (Some label) statement)
  ways own (Declare variable kind initial) = normally_if true
  ways own (Set variable new) = normally_if true
  ways own (SetField object name new) = normally_if true
  ways own (SetStatic class name new) = normally_if true
  ways own (SetElement array index new) = normally_if true
  ways own (Run call) = normally_if true
  ways own (If test first second) = one_of (all_ways first) (all_ways second)
  ways own (While test body) = repeated own (not (is_true test)) (all_ways body)
  ways own (Switch on cases) = one_of (entered_ways cases) (normally_if (not (is_labelled None cases)))
  ways own (trees.Break label) = record { falls = false; jumps = λ other. other == label; goes_on = λ other. false }
  ways own (trees.Continue label) = record { falls = false; jumps = λ other. false; goes_on = λ other. other == label }
  ways own (trees.Return result) = no_way
  ways own (Throw exception) = no_way
  ways own (Rethrow variable) = no_way
  ways own (Try body clauses) = one_of (all_ways body) (clause_ways clauses)
  ways own (Synchronized monitor body) = all_ways body
  ways own (Construct this arguments) = normally_if true
  ways own (Do body test) = repeated own (comes_round own (all_ways body) && not (is_true test)) (all_ways body)
  ways own (For test variable step body) = repeated own (not (is_true test)) (all_ways body)
  ways own (Finally body last) = both_of (all_ways last) (all_ways body)

  -- statements in order
  pub all_ways : Stms → Ways
  all_ways Empty = normally_if true
  all_ways (And first rest) = both_of (ways None first) (all_ways rest)

  -- groups, one after another
  pub group_ways : Groups → Ways
  group_ways NoGroups = normally_if true
  group_ways (AndGroup labels body rest) = both_of (all_ways body) (group_ways rest)

  -- groups from one of them on
  pub entered_ways : Groups → Ways
  entered_ways NoGroups = no_way
  entered_ways (AndGroup labels body rest) = one_of (both_of (all_ways body) (group_ways rest)) (entered_ways rest)

  -- one of these catch clauses
  pub clause_ways : Catches → Ways
  clause_ways NoCatches = no_way
  clause_ways (AndCatch class variable body rest) = one_of (all_ways body) (clause_ways rest)

-- the completion is one of these
abbrev pub May : Ways → Completion → Type 0
May ways Normal = ways.falls ≡ true
May ways (Break label) = ways.jumps label ≡ true
May ways (Continue label) = ways.goes_on label ≡ true
May ways (Return result) = Unit {0}
May ways Misfit = Unit {0}

-- a run that completes does it in one of these; one that stops may
abbrev pub EndsSo : Ways → Outcome Store Completion → Type 0
EndsSo ways (Is completion state) = May ways completion
EndsSo ways (Stops why state) = Unit {0}
