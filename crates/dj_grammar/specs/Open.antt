-- What is open around a statement that is read (JLS 14).
use Rattle.std.specs.Prelude.{ℕ, ℤ, List, [], ◌∷◌, ◌++◌, Option, Some, None}
use Rattle.dj_syntax.specs.declared.variable.Var.{Var}
use Rattle.dj_syntax.specs.Trees.{Exp, Stm, Labelled, Stms, Group, Catches, stms_of}

-- what a brace that is open belongs to: a block; an `if`, or its `else`, with the test and the statements before; a
-- `while`; a `switch`, with its groups and the labels of the last one; a `try`; a `catch`, with the statements and
-- clauses before, its class and its variable; a `synchronized`; a `do`; a `for`; a `finally`
pub data Kind : Type 0 where
  InBlock : Kind
  InIf : Exp → Kind
  InElse : Exp → Stms → Kind
  InWhile : Exp → Kind
  InSwitch : Exp → List Group → List (Option ℤ) → Kind
  InTry : Kind
  InCatch : Stms → Catches → List ℕ → Var → Kind
  InSynchronized : Exp → Kind
  InDo : Kind
  InFor : Exp → Var → Exp → Kind
  InFinally : Stms → Kind

-- an open brace: what it belongs to, with its labels from the innermost out, and the statements before it
pub record Frame : Type 0 where
  pub kind : Kind
  pub labels : List ℕ
  pub before : List Stm

-- the statements of a list so far; the last one is kept apart with its labels, since it may go on with `else`,
-- `catch` or `finally`
pub record Listed : Type 0 where
  pub before : List Stm
  pub last : Option (Stm × List ℕ)

-- what the words of a statement are read for
pub data Clause : Type 0 where
  Simple : Clause
  ReturnOf : Clause
  ThrowOf : Clause
  BreakOf : Clause
  ContinueOf : Clause
  IfOf : Clause
  ElseOf : Exp → Stms → Clause
  WhileOf : Clause
  SwitchOf : Clause
  CaseOf : Clause
  DefaultOf : Clause
  TryOf : Clause
  CatchOf : Stms → Catches → Clause
  FinallyOf : Stms → Clause
  SynchronizedOf : Clause
  DoOf : Clause
  DoTest : Stms → Clause
  ForOf : Clause
  ForTest : Clause
  ForStep : Exp → Clause

-- a statement with its labels
abbrev pub wrapped : Stm → List ℕ → Stm
wrapped statement [] = statement
wrapped statement (label ∷ outer) = wrapped (Labelled label statement) outer

-- the last statement, where there is one
abbrev pub last_of : Option (Stm × List ℕ) → List Stm
last_of None = []
last_of (Some last) = wrapped last.0 last.1 ∷ []

-- all statements of a list
abbrev pub flushed : Listed → List Stm
flushed list = list.before ++ last_of list.last

-- no statements
abbrev pub no_statements : Listed
no_statements = record { before = []; last = None }

-- a statement more, with its labels
abbrev pub with_last : List Stm → Stm → List ℕ → Listed
with_last before statement labels = record { before = before; last = Some (statement, labels) }
