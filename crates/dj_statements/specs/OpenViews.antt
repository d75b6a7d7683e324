-- How the code's open statements are seen plainly. The code keeps what is innermost last.
use Rattle.std.specs.Prelude.{ℕ, ℤ, Bool, true, false, List, [], ◌∷◌, ◌++◌, map, reverse, Option, Some, None, option_map}
use Rattle.dj_syntax.specs.Trees.{Exp, Stm, Group, view_exp, view_stm, view_stms, view_group, view_catches}
use Rattle.dj_grammar.specs.Readings.{Reading, Head}
use Rattle.dj_expressions.specs.Views.{view_reading}
use Rattle.dj_statements.specs.declared.frames.Kind as code_kind
use Rattle.dj_statements.specs.declared.frames.Kind.TheVariants as kinds
use Rattle.dj_statements.specs.declared.frames.Frame as code_frame
use Rattle.dj_statements.specs.declared.frames.Last as code_last
use Rattle.dj_statements.specs.declared.frames.Listed as code_listed
use Rattle.dj_statements.specs.declared.frames.Clause as code_clause
use Rattle.dj_statements.specs.declared.frames.Clause.TheVariants as clauses
use Rattle.dj_statements.specs.declared.lists.Lists as code_lists
use Rattle.dj_statements.specs.declared.lists.Place as code_place
use Rattle.dj_statements.specs.declared.statements.Body as code_body
use Rattle.dj_grammar.specs.Open.{Kind, InBlock, InIf, InElse, InWhile, InSwitch, InTry, InCatch, InSynchronized, InDo, InFor, InFinally, Frame, Listed, Clause, Simple, ReturnOf, ThrowOf, BreakOf, ContinueOf, IfOf, ElseOf, WhileOf, SwitchOf, CaseOf, DefaultOf, TryOf, CatchOf, FinallyOf, SynchronizedOf, DoOf, DoTest, ForOf, ForTest, ForStep, flushed}
use Rattle.dj_grammar.specs.Blocks.{Blocks, beginning}
use Rattle.dj_grammar.specs.Braces.{with_group}

-- what a brace belongs to
abbrev pub view_kind : code_kind.Kind → Kind
view_kind kinds.InBlock = InBlock
view_kind (kinds.InIf test) = InIf (view_exp test)
view_kind (kinds.InElse test first) = InElse (view_exp test) (view_stms first)
view_kind (kinds.InWhile test) = InWhile (view_exp test)
view_kind (kinds.InSwitch value groups labels) = InSwitch (view_exp value) (map view_group groups) labels
view_kind kinds.InTry = InTry
view_kind (kinds.InCatch body catches class variable) = InCatch (view_stms body) (view_catches catches) class variable
view_kind (kinds.InSynchronized monitor) = InSynchronized (view_exp monitor)
view_kind kinds.InDo = InDo
view_kind (kinds.InFor test variable step) = InFor (view_exp test) variable (view_exp step)
view_kind (kinds.InFinally body) = InFinally (view_stms body)

-- an open brace
abbrev pub view_frame : code_frame.Frame → Frame
view_frame frame = record { kind = view_kind frame.kind; labels = reverse frame.labels; before = map view_stm frame.before }

-- a statement and its labels
abbrev pub view_last : code_last.Last → Stm × List ℕ
view_last last = (view_stm last.statement, reverse last.labels)

-- the statements of a list so far
abbrev pub view_listed : code_listed.Listed → Listed
view_listed list = record { before = map view_stm list.before; last = option_map view_last list.last }

-- what the words of a statement are read for
abbrev pub view_clause : code_clause.Clause → Clause
view_clause clauses.Simple = Simple
view_clause clauses.ReturnOf = ReturnOf
view_clause clauses.ThrowOf = ThrowOf
view_clause clauses.BreakOf = BreakOf
view_clause clauses.ContinueOf = ContinueOf
view_clause clauses.IfOf = IfOf
view_clause (clauses.ElseOf test first) = ElseOf (view_exp test) (view_stms first)
view_clause clauses.WhileOf = WhileOf
view_clause clauses.SwitchOf = SwitchOf
view_clause clauses.CaseOf = CaseOf
view_clause clauses.DefaultOf = DefaultOf
view_clause clauses.TryOf = TryOf
view_clause (clauses.CatchOf body catches) = CatchOf (view_stms body) (view_catches catches)
view_clause (clauses.FinallyOf body) = FinallyOf (view_stms body)
view_clause clauses.SynchronizedOf = SynchronizedOf
view_clause clauses.DoOf = DoOf
view_clause (clauses.DoTest body) = DoTest (view_stms body)
view_clause clauses.ForOf = ForOf
view_clause clauses.ForTest = ForTest
view_clause (clauses.ForStep test) = ForStep (view_exp test)

-- all braces that are open, from the innermost out
abbrev pub view_outer : List code_frame.Frame → List Frame
view_outer outer = map view_frame (reverse outer)

-- what is read of the next statement: what its words are read for, its labels, and how far its expression is read
abbrev pub Rest : Type 0
Rest = Clause × List ℕ × Reading

-- the same of the code
abbrev pub view_place : code_place.Place → Rest
view_place place = (view_clause place.clause, reverse place.labels, view_reading place.reading)

-- statements, of which the last one isn't kept apart
abbrev pub only_before : List Stm → Listed
only_before before = record { before = before; last = None }

-- an open brace of these parts
abbrev pub brace : Kind → List ℕ → List Stm → Frame
brace kind labels before = record { kind = kind; labels = labels; before = before }

-- a switch with a label more: of the group that is begun, where it has no statement, or of the next
abbrev pub labelled : Exp → List Group → List (Option ℤ) → Option ℤ → Listed → Bool → Kind
labelled value groups labels label list true = InSwitch value groups (labels ++ label ∷ [])
labelled value groups labels label list false = InSwitch value (with_group groups labels (flushed list)) (label ∷ [])

-- what is read where the last statement goes on, where it may
abbrev pub gone_on : Option Clause → List ℕ → Rest
gone_on None labels = (Simple, [], beginning [])
gone_on (Some clause) labels = (clause, labels, Head [])

-- how far a body is read, given its braces and lists, and what is read of the next statement
abbrev pub put : List Frame → Listed → Rest → Blocks
put outer list place = record { outer = outer; list = list; clause = place.0; labels = place.1; reading = place.2 }

-- the same of the code's lists
abbrev pub with_place : code_lists.Lists → Rest → Blocks
with_place lists place = put (view_outer lists.outer) (view_listed lists.list) place

-- how far a body is read
abbrev pub view_blocks : code_lists.Lists → code_place.Place → Blocks
view_blocks lists place = with_place lists (view_place place)

-- the same of a body
abbrev pub view_body : code_body.Body → Blocks
view_body body = view_blocks body.lists body.place
