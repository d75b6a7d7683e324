-- What a brace opens and ends (JLS 14.2, 14.9, 14.11 to 14.14, 14.19, 14.20).
use Rattle.std.specs.Prelude.{ℕ, ℤ, List, [], ◌∷◌, ◌++◌, Option, Some, None, option_map}
use Rattle.dj_names.specs.Types.{JType, Boolean, Byte, Char, Short, Int, Long, Float, Double, Class, Array}
use Rattle.dj_syntax.specs.declared.variable.Var.{Var}
use Rattle.dj_syntax.specs.Trees.{Exp, Stm, Block, If, While, Switch, Try, Synchronized, For, Finally, Stms, Empty, stms_of, Group, groups_of, Catch, Catches, NoCatches, AndCatch}
use Rattle.dj_grammar.specs.Frames.{Opener, Parenthesis, Bracket, NameBracket, TypeBracket, Arguments, Size, Start, Stored, Initial, Pending, opened}
use Rattle.dj_grammar.specs.Readings.{Reading, Wanted, Negation, Head, Named, Behind, Typed, Sized, Called, Declared, Selecting, Stands, Helping, Lost, ended}
use Rattle.dj_grammar.specs.Steps.{variable_in_value}
use Rattle.dj_grammar.specs.Open.{Kind, InBlock, InIf, InElse, InWhile, InSwitch, InTry, InCatch, InSynchronized, InDo, InFor, InFinally, Frame, Clause, Simple, ReturnOf, ThrowOf, BreakOf, ContinueOf, IfOf, ElseOf, WhileOf, SwitchOf, CaseOf, DefaultOf, TryOf, CatchOf, FinallyOf, SynchronizedOf, DoOf, DoTest, ForOf, ForTest, ForStep, flushed, no_statements, with_last}
use Rattle.dj_grammar.specs.Blocks.{Blocks, ready, labels_of}
use Rattle.dj_grammar.specs.StatementEnds.{value_in}

-- ---- braces

-- a brace opens
abbrev pub opens : Blocks → Kind → List ℕ → Blocks
opens blocks kind labels = ready (record { kind = kind; labels = labels; before = flushed blocks.list } ∷ blocks.outer) no_statements

-- a brace opens, where it is known what it belongs to
abbrev pub opens_or : Blocks → Option Kind → Blocks
opens_or blocks None = ready blocks.outer blocks.list
opens_or blocks (Some kind) = opens blocks kind blocks.labels

-- a `for`, where its step stores to a variable
abbrev pub for_of : Exp → Exp → Opener → Option Kind
for_of test step Parenthesis = None
for_of test step (Bracket array) = None
for_of test step (NameBracket name) = None
for_of test step (TypeBracket kind) = None
for_of test step (Arguments callee arguments) = None
for_of test step (Size kind sizes more) = None
for_of test step (Start labels) = None
for_of test step (Stored labels target) = option_map (λ variable. InFor test variable step) (variable_in_value target)
for_of test step (Initial labels kind variable) = None

-- the same, where something was opened
abbrev pub for_opened : Exp → Exp → Option (Opener × List Pending) → Option Kind
for_opened test step None = None
for_opened test step (Some opened) = for_of test step opened.0

-- the same, of a value that ends, where one does
abbrev pub for_value : Exp → Option (Exp × List Pending) → Option Kind
for_value test None = None
for_value test (Some ended) = for_opened test ended.0 (opened ended.1)

-- a `catch` of a class
abbrev pub catch_type : Stms → Catches → JType → Var → Option Kind
catch_type body clauses Boolean variable = None
catch_type body clauses Byte variable = None
catch_type body clauses Char variable = None
catch_type body clauses Short variable = None
catch_type body clauses Int variable = None
catch_type body clauses Long variable = None
catch_type body clauses Float variable = None
catch_type body clauses Double variable = None
catch_type body clauses (Class class) variable = Some (InCatch body clauses class variable)
catch_type body clauses (Array element) variable = None

-- a `catch`, where a class and a variable stand
abbrev pub catch_of : Stms → Catches → Reading → Option Kind
catch_of body clauses (Wanted pending) = None
catch_of body clauses (Negation pending) = None
catch_of body clauses (Head pending) = None
catch_of body clauses (Named name pending) = None
catch_of body clauses (Behind name pending) = None
catch_of body clauses (Typed kind pending) = None
catch_of body clauses (Sized kind sizes more pending) = None
catch_of body clauses (Called callee arguments pending) = None
catch_of body clauses (Declared kind variable pending) = catch_type body clauses kind variable
catch_of body clauses (Selecting object pending) = None
catch_of body clauses (Stands value pending) = None
catch_of body clauses (Helping pending) = None
catch_of body clauses Lost = None

-- a `switch` begins with no group
abbrev pub switch_of : Exp → Kind
switch_of value = InSwitch value [] []

-- a brace opens
abbrev pub open_brace : Blocks → Clause → Blocks
open_brace blocks Simple = opens blocks InBlock (labels_of blocks.reading)
open_brace blocks ReturnOf = ready blocks.outer blocks.list
open_brace blocks ThrowOf = ready blocks.outer blocks.list
open_brace blocks BreakOf = ready blocks.outer blocks.list
open_brace blocks ContinueOf = ready blocks.outer blocks.list
open_brace blocks IfOf = opens_or blocks (option_map InIf (value_in blocks.reading))
open_brace blocks (ElseOf test first) = opens blocks (InElse test first) blocks.labels
open_brace blocks WhileOf = opens_or blocks (option_map InWhile (value_in blocks.reading))
open_brace blocks SwitchOf = opens_or blocks (option_map switch_of (value_in blocks.reading))
open_brace blocks CaseOf = ready blocks.outer blocks.list
open_brace blocks DefaultOf = ready blocks.outer blocks.list
open_brace blocks TryOf = opens blocks InTry blocks.labels
open_brace blocks (CatchOf body clauses) = opens_or blocks (catch_of body clauses blocks.reading)
open_brace blocks (FinallyOf body) = opens blocks (InFinally body) blocks.labels
open_brace blocks SynchronizedOf = opens_or blocks (option_map InSynchronized (value_in blocks.reading))
open_brace blocks DoOf = opens blocks InDo blocks.labels
open_brace blocks (DoTest body) = ready blocks.outer blocks.list
open_brace blocks ForOf = ready blocks.outer blocks.list
open_brace blocks ForTest = ready blocks.outer blocks.list
open_brace blocks (ForStep test) = opens_or blocks (for_value test (ended blocks.reading))

-- the groups of a switch, with the one that is begun
abbrev pub with_group : List Group → List (Option ℤ) → List Stm → List Group
with_group cases labels body = cases ++ (labels, stms_of body) ∷ []

-- catch clauses and one more
abbrev pub with_catch : Catches → Catch → Catches
with_catch NoCatches catch = AndCatch catch.0 catch.1 catch.2 NoCatches
with_catch (AndCatch class variable body rest) catch = AndCatch class variable body (with_catch rest catch)

-- the statement that a brace ends, with these statements in it; a `do` goes on
abbrev pub ended_kind : Kind → List Stm → Option Stm
ended_kind InBlock body = Some (Block (stms_of body))
ended_kind (InIf test) body = Some (If test (stms_of body) Empty)
ended_kind (InElse test first) body = Some (If test first (stms_of body))
ended_kind (InWhile test) body = Some (While test (stms_of body))
ended_kind (InSwitch value cases labels) body = Some (Switch value (groups_of (with_group cases labels body)))
ended_kind InTry body = Some (Try (stms_of body) NoCatches)
ended_kind (InCatch before clauses class variable) body = Some (Try before (with_catch clauses (class, variable, stms_of body)))
ended_kind (InSynchronized monitor) body = Some (Synchronized monitor (stms_of body))
ended_kind InDo body = None
ended_kind (InFor test variable step) body = Some (For test variable step (stms_of body))
ended_kind (InFinally before) body = Some (Finally before (stms_of body))

-- the statements before a brace, and the one that it ends
abbrev pub behind_brace : List Frame → Frame → List Stm → Option Stm → Blocks
behind_brace outer frame body None =
    record { outer = outer; list = record { before = frame.before; last = None }; clause = DoTest (stms_of body); labels = frame.labels; reading = Head [] }
behind_brace outer frame body (Some statement) = ready outer (with_last frame.before statement frame.labels)

-- a brace closes
abbrev pub close_brace : Blocks → List Frame → Blocks
close_brace blocks [] = ready [] blocks.list
close_brace blocks (frame ∷ outer) = behind_brace outer frame (flushed blocks.list) (ended_kind frame.kind (flushed blocks.list))
