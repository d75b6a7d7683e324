-- How the last statement goes on, and the labels of a switch (JLS 14.9.2, 14.11, 14.20).
use Rattle.std.specs.Prelude.{ℕ, ℤ, Bool, true, false, ◌&&◌, List, [], ◌∷◌, ◌++◌, Option, Some, None, option_map, is_none}
use Rattle.dj_syntax.specs.Trees.{Exp, Text, Truth, Null, This, Variable, ClassOf, Field, Static, Element, Call, StaticCall, SuperCall, New, NewArray, Cast, InstanceOf, Negative, Not, Binary, Choice, Assign, Stm, Block, Labelled, Declare, Set, SetField, SetStatic, SetElement, Run, If, While, Switch, Break, Continue, Return, Throw, Rethrow, Try, Synchronized, Construct, Do, For, Finally, Stms, Group, Catches}
use Rattle.dj_syntax.specs.Trees as trees
use Rattle.dj_grammar.specs.Readings.{Head}
use Rattle.dj_grammar.specs.Open.{Kind, InBlock, InIf, InElse, InWhile, InSwitch, InTry, InCatch, InSynchronized, InDo, InFor, InFinally, Frame, Listed, Clause, ElseOf, CatchOf, FinallyOf, flushed, no_statements}
use Rattle.dj_grammar.specs.Blocks.{Blocks, ready}
use Rattle.dj_grammar.specs.Braces.{with_group}

-- ---- `else`, `catch` and `finally` go on with the last statement

-- the test and the first statements of an `if`
abbrev pub reopened_if : Stm → Option (Exp × Stms)
reopened_if (Block list) = None
reopened_if (Labelled label statement) = None
reopened_if (Declare variable kind value) = None
reopened_if (Set variable value) = None
reopened_if (SetField object name value) = None
reopened_if (SetStatic class name value) = None
reopened_if (SetElement array index value) = None
reopened_if (Run call) = None
reopened_if (If test first second) = Some (test, first)
reopened_if (While test body) = None
reopened_if (Switch value cases) = None
reopened_if (Break label) = None
reopened_if (Continue label) = None
reopened_if (Return value) = None
reopened_if (Throw value) = None
reopened_if (Rethrow variable) = None
reopened_if (Try body clauses) = None
reopened_if (Synchronized monitor body) = None
reopened_if (Construct own arguments) = None
reopened_if (Do body test) = None
reopened_if (For test variable step body) = None
reopened_if (Finally body last) = None

-- the statements and the catch clauses of a `try`
abbrev pub reopened_try : Stm → Option (Stms × Catches)
reopened_try (Block list) = None
reopened_try (Labelled label statement) = None
reopened_try (Declare variable kind value) = None
reopened_try (Set variable value) = None
reopened_try (SetField object name value) = None
reopened_try (SetStatic class name value) = None
reopened_try (SetElement array index value) = None
reopened_try (Run call) = None
reopened_try (If test first second) = None
reopened_try (While test body) = None
reopened_try (Switch value cases) = None
reopened_try (Break label) = None
reopened_try (Continue label) = None
reopened_try (Return value) = None
reopened_try (Throw value) = None
reopened_try (Rethrow variable) = None
reopened_try (Try body clauses) = Some (body, clauses)
reopened_try (Synchronized monitor body) = None
reopened_try (Construct own arguments) = None
reopened_try (Do body test) = None
reopened_try (For test variable step body) = None
reopened_try (Finally body last) = None

-- the last statement goes on
abbrev pub goes_on : Blocks → List ℕ → Option Clause → Blocks
goes_on blocks labels None = ready blocks.outer (record { before = blocks.list.before; last = None })
goes_on blocks labels (Some clause) =
    record { outer = blocks.outer; list = record { before = blocks.list.before; last = None }; clause = clause; labels = labels; reading = Head [] }

-- the last statement goes on, where there is one
abbrev pub last_goes_on : Blocks → (Stm → Option Clause) → Option (Stm × List ℕ) → Blocks
last_goes_on blocks clause None = ready blocks.outer blocks.list
last_goes_on blocks clause (Some last) = goes_on blocks last.1 (clause last.0)

-- an `if` goes on with `else`
abbrev pub else_of : Stm → Option Clause
else_of statement = option_map (λ parts. ElseOf parts.0 parts.1) (reopened_if statement)

-- a `try` goes on with a `catch`
abbrev pub catch_clause : Stm → Option Clause
catch_clause statement = option_map (λ parts. CatchOf parts.0 parts.1) (reopened_try statement)

-- a `try` goes on with `finally`
abbrev pub finally_of : Stm → Option Clause
finally_of statement = option_map (λ parts. FinallyOf parts.0) (reopened_try statement)

-- ---- labels of a switch

-- whether there are no statements
abbrev pub are_none : List Stm → Bool
are_none [] = true
are_none (first ∷ rest) = false

-- whether no statement is read
abbrev pub is_none_read : Listed → Bool
is_none_read list = is_none list.last && are_none list.before

-- a label more: of the group that is begun, where it has no statement, or of the next
abbrev pub label_switch : Blocks → Frame → List Frame → Option ℤ → Exp → List Group → List (Option ℤ) → Bool → Blocks
label_switch blocks frame outer label value cases labels true =
    ready (record { kind = InSwitch value cases (labels ++ label ∷ []); labels = frame.labels; before = frame.before } ∷ outer) no_statements
label_switch blocks frame outer label value cases labels false =
    ready (record { kind = InSwitch value (with_group cases labels (flushed blocks.list)) (label ∷ []); labels = frame.labels; before = frame.before } ∷ outer) no_statements

-- the same, where a switch is open
abbrev pub label_kind : Blocks → Frame → List Frame → Option ℤ → Kind → Blocks
label_kind blocks frame outer label InBlock = ready blocks.outer blocks.list
label_kind blocks frame outer label (InIf test) = ready blocks.outer blocks.list
label_kind blocks frame outer label (InElse test first) = ready blocks.outer blocks.list
label_kind blocks frame outer label (InWhile test) = ready blocks.outer blocks.list
label_kind blocks frame outer label (InSwitch value cases labels) = label_switch blocks frame outer label value cases labels (is_none_read blocks.list)
label_kind blocks frame outer label InTry = ready blocks.outer blocks.list
label_kind blocks frame outer label (InCatch body clauses class variable) = ready blocks.outer blocks.list
label_kind blocks frame outer label (InSynchronized monitor) = ready blocks.outer blocks.list
label_kind blocks frame outer label InDo = ready blocks.outer blocks.list
label_kind blocks frame outer label (InFor test variable step) = ready blocks.outer blocks.list
label_kind blocks frame outer label (InFinally body) = ready blocks.outer blocks.list

-- the same, of the braces that are open
abbrev pub label_outer : Blocks → List Frame → Option ℤ → Blocks
label_outer blocks [] label = ready blocks.outer blocks.list
label_outer blocks (frame ∷ outer) label = label_kind blocks frame outer label frame.kind

-- the number of a `case`
abbrev pub case_number : Exp → Option ℤ
case_number (trees.Int value) = Some value
case_number (trees.Long value) = None
case_number (Text units) = None
case_number (Truth value) = None
case_number Null = None
case_number This = None
case_number (Variable variable) = None
case_number (ClassOf kind) = None
case_number (Field object name) = None
case_number (Static class name) = None
case_number (Element array index) = None
case_number (Call object name arguments) = None
case_number (StaticCall class name arguments) = None
case_number (SuperCall above name arguments) = None
case_number (New class arguments) = None
case_number (NewArray kind sizes more) = None
case_number (Cast kind operand) = None
case_number (InstanceOf operand kind) = None
case_number (Negative operand) = None
case_number (Not operand) = None
case_number (Binary operator left right) = None
case_number (Choice test first second) = None
case_number (Assign variable value) = None

-- a `case`, where it has a value; one that is no number is read as `default`
abbrev pub case_of : Blocks → Option Exp → Blocks
case_of blocks None = ready blocks.outer blocks.list
case_of blocks (Some value) = label_outer blocks blocks.outer (case_number value)
