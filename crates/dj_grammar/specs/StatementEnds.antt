-- What a semicolon ends (JLS 8.8.7.1, 14.4, 14.8, 14.13 to 14.18).
use Rattle.std.specs.Prelude.{ℕ, Bool, true, false, if◌then◌else◌, List, [], ◌∷◌, Option, Some, None, option_map}
use Rattle.dj_syntax.specs.Trees.{Exp, Text, Truth, Null, This, Variable, ClassOf, Field, Static, Element, Call, StaticCall, SuperCall, New, NewArray, Cast, InstanceOf, Negative, Not, Binary, Choice, Assign, Exps, exps_of, Stm, Declare, Set, SetField, SetStatic, SetElement, Run, Break, Continue, Return, Throw, Rethrow, Construct, Do}
use Rattle.dj_syntax.specs.Trees as trees
use Rattle.dj_grammar.specs.Frames.{Callee, OfObject, OfClass, Above, Creation, Own, Helper, Opener, Parenthesis, Bracket, NameBracket, TypeBracket, Arguments, Size, Start, Stored, Initial, Pending, opened}
use Rattle.dj_grammar.specs.Readings.{Reading, Wanted, Negation, Head, Named, Behind, Typed, Sized, Called, Declared, Selecting, Stands, Helping, Lost, ended}
use Rattle.dj_grammar.specs.Steps.{starting, variable_in_value}
use Rattle.dj_grammar.specs.Open.{Clause, Simple, ReturnOf, ThrowOf, BreakOf, ContinueOf, IfOf, ElseOf, WhileOf, SwitchOf, CaseOf, DefaultOf, TryOf, CatchOf, FinallyOf, SynchronizedOf, DoOf, DoTest, ForOf, ForTest, ForStep}
use Rattle.dj_grammar.specs.Blocks.{Blocks, beginning, ready, completed, completed_or}

-- ---- a semicolon

-- a store to what a value tells: a variable, a field, a static field or an element
abbrev pub store : Exp → Exp → Option Stm
store (trees.Int value) stored = None
store (trees.Long value) stored = None
store (Text units) stored = None
store (Truth value) stored = None
store Null stored = None
store This stored = None
store (Variable variable) stored = Some (Set variable stored)
store (ClassOf kind) stored = None
store (Field object name) stored = Some (SetField object name stored)
store (Static class name) stored = Some (SetStatic class name stored)
store (Element array index) stored = Some (SetElement array index stored)
store (Call object name arguments) stored = None
store (StaticCall class name arguments) stored = None
store (SuperCall above name arguments) stored = None
store (New class arguments) stored = None
store (NewArray kind sizes more) stored = None
store (Cast kind operand) stored = None
store (InstanceOf operand kind) stored = None
store (Negative operand) stored = None
store (Not operand) stored = None
store (Binary operator left right) stored = None
store (Choice test first second) stored = None
store (Assign variable value) stored = None

-- a statement of a value: a call, a store, or the first value of a variable
abbrev pub end_opener : Blocks → Exp → Opener → Blocks
end_opener blocks value Parenthesis = ready blocks.outer blocks.list
end_opener blocks value (Bracket array) = ready blocks.outer blocks.list
end_opener blocks value (NameBracket name) = ready blocks.outer blocks.list
end_opener blocks value (TypeBracket kind) = ready blocks.outer blocks.list
end_opener blocks value (Arguments callee arguments) = ready blocks.outer blocks.list
end_opener blocks value (Size kind sizes more) = ready blocks.outer blocks.list
end_opener blocks value (Start labels) = completed blocks (Run value) labels
end_opener blocks value (Stored labels target) = completed_or blocks (store target value) labels
end_opener blocks value (Initial labels kind variable) = completed blocks (Declare variable kind (Some value)) labels

-- the same, where something was opened
abbrev pub end_opened : Blocks → Exp → Option (Opener × List Pending) → Blocks
end_opened blocks value None = ready blocks.outer blocks.list
end_opened blocks value (Some opened) = end_opener blocks value opened.0

-- the same, of a value that ends, where one does
abbrev pub end_value : Blocks → Option (Exp × List Pending) → Blocks
end_value blocks None = ready blocks.outer blocks.list
end_value blocks (Some ended) = end_opened blocks ended.0 (opened ended.1)

-- the call of a constructor
abbrev pub constructed : Callee → Exps → Option Stm
constructed (OfObject object name) arguments = None
constructed (OfClass class name) arguments = None
constructed (Above above name) arguments = None
constructed (Creation class) arguments = None
constructed (Own own) arguments = Some (Construct own arguments)
constructed Helper arguments = None

-- a statement with the labels of its beginning, where it begins
abbrev pub end_start : Blocks → Stm → Option (List ℕ × List Pending) → Blocks
end_start blocks statement None = ready blocks.outer blocks.list
end_start blocks statement (Some start) = completed blocks statement start.0

-- a call of a constructor, or of something else
abbrev pub end_call : Blocks → Reading → Option Stm → List Pending → Blocks
end_call blocks reading None pending = end_value blocks (ended reading)
end_call blocks reading (Some statement) pending = end_start blocks statement (starting pending)

-- a statement without a keyword ends
abbrev pub end_simple : Blocks → Reading → Blocks
end_simple blocks (Wanted pending) = ready blocks.outer blocks.list
end_simple blocks (Negation pending) = ready blocks.outer blocks.list
end_simple blocks (Head pending) = ready blocks.outer blocks.list
end_simple blocks (Named name pending) = end_value blocks (ended (Named name pending))
end_simple blocks (Behind name pending) = ready blocks.outer blocks.list
end_simple blocks (Typed kind pending) = end_value blocks (ended (Typed kind pending))
end_simple blocks (Sized kind sizes more pending) = end_value blocks (ended (Sized kind sizes more pending))
end_simple blocks (Called callee arguments pending) = end_call blocks (Called callee arguments pending) (constructed callee (exps_of arguments)) pending
end_simple blocks (Declared kind variable pending) = end_start blocks (Declare variable kind None) (starting pending)
end_simple blocks (Selecting object pending) = ready blocks.outer blocks.list
end_simple blocks (Stands value pending) = end_value blocks (ended (Stands value pending))
end_simple blocks (Helping pending) = ready blocks.outer blocks.list
end_simple blocks Lost = ready blocks.outer blocks.list

-- the value that ends, where one does
abbrev pub value_in : Reading → Option Exp
value_in reading = option_map (λ ended. ended.0) (ended reading)

-- the variable that a call of the helper throws
abbrev pub rethrown : List Exp → Option Stm
rethrown [] = None
rethrown (first ∷ rest) = option_map Rethrow (variable_in_value first)

-- whether it is the helper
abbrev pub is_helper : Callee → Bool
is_helper (OfObject object name) = false
is_helper (OfClass class name) = false
is_helper (Above above name) = false
is_helper (Creation class) = false
is_helper (Own own) = false
is_helper Helper = true

-- a `throw`, of a value or through the helper
abbrev pub thrown : Reading → Option Stm
thrown (Wanted pending) = None
thrown (Negation pending) = None
thrown (Head pending) = None
thrown (Named name pending) = option_map Throw (value_in (Named name pending))
thrown (Behind name pending) = None
thrown (Typed kind pending) = option_map Throw (value_in (Typed kind pending))
thrown (Sized kind sizes more pending) = option_map Throw (value_in (Sized kind sizes more pending))
thrown (Called callee arguments pending) = if is_helper callee then rethrown arguments else option_map Throw (value_in (Called callee arguments pending))
thrown (Declared kind variable pending) = None
thrown (Selecting object pending) = None
thrown (Stands value pending) = option_map Throw (value_in (Stands value pending))
thrown (Helping pending) = None
thrown Lost = None

-- the number of the label that a name is, where a name stands
abbrev pub label_in : Reading → Option ℕ
label_in (Wanted pending) = None
label_in (Negation pending) = None
label_in (Head pending) = None
label_in (Named name pending) = Some name.number
label_in (Behind name pending) = None
label_in (Typed kind pending) = None
label_in (Sized kind sizes more pending) = None
label_in (Called callee arguments pending) = None
label_in (Declared kind variable pending) = None
label_in (Selecting object pending) = None
label_in (Stands value pending) = None
label_in (Helping pending) = None
label_in Lost = None

-- the step of a `for` is read behind its test, where there is one
abbrev pub to_step : Blocks → Option Exp → Blocks
to_step blocks None = ready blocks.outer blocks.list
to_step blocks (Some test) =
    record { outer = blocks.outer; list = blocks.list; clause = ForStep test; labels = blocks.labels; reading = beginning [] }

-- the test of a `for` is read
abbrev pub to_test : Blocks → Blocks
to_test blocks = record { outer = blocks.outer; list = blocks.list; clause = ForTest; labels = blocks.labels; reading = Wanted [] }

-- a semicolon
abbrev pub end_clause : Blocks → Clause → Blocks
end_clause blocks Simple = end_simple blocks blocks.reading
end_clause blocks ReturnOf = completed blocks (Return (value_in blocks.reading)) blocks.labels
end_clause blocks ThrowOf = completed_or blocks (thrown blocks.reading) blocks.labels
end_clause blocks BreakOf = completed_or blocks (option_map Break (label_in blocks.reading)) blocks.labels
end_clause blocks ContinueOf = completed_or blocks (option_map Continue (label_in blocks.reading)) blocks.labels
end_clause blocks IfOf = ready blocks.outer blocks.list
end_clause blocks (ElseOf test first) = ready blocks.outer blocks.list
end_clause blocks WhileOf = ready blocks.outer blocks.list
end_clause blocks SwitchOf = ready blocks.outer blocks.list
end_clause blocks CaseOf = ready blocks.outer blocks.list
end_clause blocks DefaultOf = ready blocks.outer blocks.list
end_clause blocks TryOf = ready blocks.outer blocks.list
end_clause blocks (CatchOf body clauses) = ready blocks.outer blocks.list
end_clause blocks (FinallyOf body) = ready blocks.outer blocks.list
end_clause blocks SynchronizedOf = ready blocks.outer blocks.list
end_clause blocks DoOf = ready blocks.outer blocks.list
end_clause blocks (DoTest body) = completed_or blocks (option_map (Do body) (value_in blocks.reading)) blocks.labels
end_clause blocks ForOf = to_test blocks
end_clause blocks ForTest = to_step blocks (value_in blocks.reading)
end_clause blocks (ForStep test) = ready blocks.outer blocks.list
