-- Expressions read a word at a time (JLS 15). The reading is liberal: what no expression has is read somehow, or lost,
-- since the text of what was read is compared afterwards.
use Rattle.std.specs.Prelude.{ℕ, true, false, List, [], ◌∷◌, Option, Some, None, option_map}
use Rattle.dj_names.specs.Types.{JType}
use Rattle.dj_syntax.specs.declared.operator.Op.{Op}
use Rattle.dj_syntax.specs.declared.operator.Op.TheVariants as op
use Rattle.dj_syntax.specs.declared.variable.Var.{Var}
use Rattle.dj_syntax.specs.Trees.{Exp, Text, Truth, Null, This, Variable, ClassOf, Field, Static, Element, Call, StaticCall, SuperCall, New, NewArray, Cast, InstanceOf, Negative, Not, Binary, Choice, Assign}
use Rattle.dj_syntax.specs.Trees as trees
use Rattle.dj_tokens.specs.declared.tokens.Token.{Token}
use Rattle.dj_tokens.specs.declared.tokens.Token.TheVariants as token
use Rattle.dj_tokens.specs.Words.{Words}
use Rattle.dj_tokens.specs.Tokens.{token_of}
use Rattle.dj_tokens.specs.Literals.{literal_of, variable_of, unquoted}
use Rattle.dj_tokens.specs.Dotted.{DottedName, begun, extended, value_of, type_of_name}
use Rattle.dj_grammar.specs.Frames.{Joint, Sign, Negated, Inverted, Enclosed, Converted, LeftOf, TypeTested, Asked, Answered, Assigned, Created, Opener, Parenthesis, Bracket, NameBracket, TypeBracket, Arguments, Size, Start, Stored, Initial, Pending, Joins, Opens, waiting}
use Rattle.dj_grammar.specs.Readings.{Reading, Wanted, Negation, Head, Named, Behind, Typed, Sized, Called, Declared, Selecting, Stands, Helping, Lost, wanted, standing}
use Rattle.dj_grammar.specs.Brackets.{open_parenthesis, close_parenthesis, open_bracket, close_bracket, next}

-- ---- operands and what stands before them

-- an operand, where one is wanted
abbrev pub stand : Exp → Option (List Pending) → Reading
stand value None = Lost
stand value (Some pending) = Stands value pending

-- `!` or `new`, where an operand is wanted
abbrev pub wait : Joint → Option (List Pending) → Reading
wait joint None = Lost
wait joint (Some pending) = Wanted (Joins joint ∷ pending)

-- ---- what stands behind a value

-- an operator, `instanceof` or `?` behind a value
abbrev pub join : (Exp → Joint) → Option (Exp × List Pending) → Reading
join joint None = Lost
join joint (Some stands) = Wanted (Joins (joint stands.0) ∷ stands.1)

-- a minus sign where an operand is wanted
abbrev pub minus_or : Op → List Pending → Reading
minus_or op.Mul pending = Lost
minus_or op.Div pending = Lost
minus_or op.Rem pending = Lost
minus_or op.Add pending = Lost
minus_or op.Sub pending = Negation pending
minus_or op.Shl pending = Lost
minus_or op.Shr pending = Lost
minus_or op.Ushr pending = Lost
minus_or op.Lt pending = Lost
minus_or op.Le pending = Lost
minus_or op.Gt pending = Lost
minus_or op.Ge pending = Lost
minus_or op.Eq pending = Lost
minus_or op.Ne pending = Lost
minus_or op.And pending = Lost
minus_or op.Xor pending = Lost
minus_or op.Or pending = Lost
minus_or op.AndAlso pending = Lost
minus_or op.OrElse pending = Lost

-- an operator, or the bracket before the type of the helper
abbrev pub operate : Op → Reading → Reading
operate operator (Wanted pending) = minus_or operator pending
operate operator (Negation pending) = Lost
operate operator (Head pending) = Lost
operate operator (Named name pending) = join (λ left. LeftOf left operator) (standing (Named name pending))
operate operator (Behind name pending) = Helping pending
operate operator (Typed kind pending) = join (λ left. LeftOf left operator) (standing (Typed kind pending))
operate operator (Sized kind sizes more pending) = join (λ left. LeftOf left operator) (standing (Sized kind sizes more pending))
operate operator (Called callee arguments pending) = join (λ left. LeftOf left operator) (standing (Called callee arguments pending))
operate operator (Declared kind variable pending) = Lost
operate operator (Selecting object pending) = Lost
operate operator (Stands value pending) = join (λ left. LeftOf left operator) (standing (Stands value pending))
operate operator (Helping pending) = Helping pending
operate operator Lost = Lost

-- ---- dots and names

-- a name in parentheses that a dot follows is a static field (JLS 15.11)
abbrev pub select_joint : Joint → List Pending → Reading
select_joint Sign outer = Lost
select_joint Negated outer = Lost
select_joint Inverted outer = Lost
select_joint (Enclosed name) outer = Selecting (value_of name) outer
select_joint (Converted kind) outer = Lost
select_joint (LeftOf left operator) outer = Lost
select_joint (TypeTested operand) outer = Lost
select_joint (Asked test) outer = Lost
select_joint (Answered test first) outer = Lost
select_joint (Assigned variable) outer = Lost
select_joint Created outer = Lost

-- what comes of what waits, where something does
abbrev pub at_joint : (Joint → List Pending → Reading) → Option (Joint × List Pending) → Reading
at_joint next None = Lost
at_joint next (Some waiting) = next waiting.0 waiting.1

-- a dot behind a value
abbrev pub select : Option (Exp × List Pending) → Reading
select None = Lost
select (Some stands) = Selecting stands.0 stands.1

-- a dot
abbrev pub dot : Reading → Reading
dot (Wanted pending) = at_joint select_joint (waiting pending)
dot (Negation pending) = Lost
dot (Head pending) = Lost
dot (Named name pending) = Behind name pending
dot (Behind name pending) = Lost
dot (Typed kind pending) = Typed kind pending
dot (Sized kind sizes more pending) = Lost
dot (Called callee arguments pending) = select (standing (Called callee arguments pending))
dot (Declared kind variable pending) = Lost
dot (Selecting object pending) = Lost
dot (Stands value pending) = Selecting value pending
dot (Helping pending) = Helping pending
dot Lost = Lost

-- a name: of a variable, a class, a field or a method; behind a type that of a variable that is declared
abbrev pub name : List ℕ → Reading → Reading
name word (Wanted pending) = Named (begun word) pending
name word (Negation pending) = Named (begun word) (Joins Negated ∷ pending)
name word (Head pending) = Lost
name word (Named before pending) = Declared (type_of_name before) (variable_of word) pending
name word (Behind before pending) = Named (extended before word) pending
name word (Typed kind pending) = Declared kind (variable_of word) pending
name word (Sized kind sizes more pending) = Lost
name word (Called callee arguments pending) = Lost
name word (Declared kind variable pending) = Lost
name word (Selecting object pending) = Stands (Field object word) pending
name word (Stands value pending) = Lost
name word (Helping pending) = Helping pending
name word Lost = Lost

-- `class` behind a type and a dot
abbrev pub class_literal : Reading → Reading
class_literal (Wanted pending) = Lost
class_literal (Negation pending) = Lost
class_literal (Head pending) = Lost
class_literal (Named name pending) = Lost
class_literal (Behind name pending) = Stands (ClassOf (type_of_name name)) pending
class_literal (Typed kind pending) = Stands (ClassOf kind) pending
class_literal (Sized kind sizes more pending) = Lost
class_literal (Called callee arguments pending) = Lost
class_literal (Declared kind variable pending) = Lost
class_literal (Selecting object pending) = Lost
class_literal (Stands value pending) = Lost
class_literal (Helping pending) = Lost
class_literal Lost = Lost

-- ---- colons and `=`

-- the test of a choice whose first part is wanted
abbrev pub asked : Joint → Option Exp
asked Sign = None
asked Negated = None
asked Inverted = None
asked (Enclosed name) = None
asked (Converted kind) = None
asked (LeftOf left operator) = None
asked (TypeTested operand) = None
asked (Asked test) = Some test
asked (Answered test first) = None
asked (Assigned variable) = None
asked Created = None

-- the second part of a choice is wanted behind its test and first part
abbrev pub answer_test : Exp → List Pending → Option Exp → Reading
answer_test first outer None = Lost
answer_test first outer (Some test) = Wanted (Joins (Answered test first) ∷ outer)

-- a colon behind the first part of a choice
abbrev pub answer_joint : Exp → Joint → List Pending → Reading
answer_joint first joint outer = answer_test first outer (asked joint)

-- a colon behind a value
abbrev pub answer : Option (Exp × List Pending) → Reading
answer None = Lost
answer (Some stands) = at_joint (answer_joint stands.0) (waiting stands.1)

-- the labels that a statement has so far, where it begins
abbrev pub labels_in : Opener → Option (List ℕ)
labels_in Parenthesis = None
labels_in (Bracket array) = None
labels_in (NameBracket name) = None
labels_in (TypeBracket kind) = None
labels_in (Arguments callee arguments) = None
labels_in (Size kind sizes more) = None
labels_in (Start labels) = Some labels
labels_in (Stored labels target) = None
labels_in (Initial labels kind variable) = None

-- the beginning of a statement, and what is open around it
abbrev pub starting : List Pending → Option (List ℕ × List Pending)
starting [] = None
starting (Joins joint ∷ outer) = None
starting (Opens opener ∷ outer) = option_map (λ labels. (labels, outer)) (labels_in opener)

-- a label where a statement begins, and else the colon of a choice
abbrev pub label_or : ℕ → Option (List ℕ × List Pending) → Reading → Reading
label_or number None other = other
label_or number (Some start) other = Wanted (Opens (Start (number ∷ start.0)) ∷ start.1)

-- a colon
abbrev pub colon : Reading → Reading
colon (Wanted pending) = Lost
colon (Negation pending) = Lost
colon (Head pending) = Lost
colon (Named name pending) = label_or name.number (starting pending) (answer (standing (Named name pending)))
colon (Behind name pending) = Lost
colon (Typed kind pending) = Lost
colon (Sized kind sizes more pending) = Lost
colon (Called callee arguments pending) = answer (standing (Called callee arguments pending))
colon (Declared kind variable pending) = Lost
colon (Selecting object pending) = Lost
colon (Stands value pending) = answer (standing (Stands value pending))
colon (Helping pending) = Lost
colon Lost = Lost

-- the variable that a value is
abbrev pub variable_in_value : Exp → Option Var
variable_in_value (trees.Int value) = None
variable_in_value (trees.Long value) = None
variable_in_value (Text units) = None
variable_in_value (Truth value) = None
variable_in_value Null = None
variable_in_value This = None
variable_in_value (Variable variable) = Some variable
variable_in_value (ClassOf kind) = None
variable_in_value (Field object name) = None
variable_in_value (Static class name) = None
variable_in_value (Element array index) = None
variable_in_value (Call object name arguments) = None
variable_in_value (StaticCall class name arguments) = None
variable_in_value (SuperCall above name arguments) = None
variable_in_value (New class arguments) = None
variable_in_value (NewArray kind sizes more) = None
variable_in_value (Cast kind operand) = None
variable_in_value (InstanceOf operand kind) = None
variable_in_value (Negative operand) = None
variable_in_value (Not operand) = None
variable_in_value (Binary operator left right) = None
variable_in_value (Choice test first second) = None
variable_in_value (Assign variable value) = None

-- an assignment to a variable
abbrev pub assign_variable : Option Var → List Pending → Reading
assign_variable None pending = Lost
assign_variable (Some variable) pending = Wanted (Joins (Assigned variable) ∷ pending)

-- an assignment: a store where a statement begins
abbrev pub assign_value : Exp → List Pending → Option (List ℕ × List Pending) → Reading
assign_value target pending None = assign_variable (variable_in_value target) pending
assign_value target pending (Some start) = Wanted (Opens (Stored start.0 target) ∷ start.1)

-- `=` behind a value
abbrev pub assign : Option (Exp × List Pending) → Reading
assign None = Lost
assign (Some stands) = assign_value stands.0 stands.1 (starting stands.1)

-- `=` behind the variable of a declaration
abbrev pub initialise : JType → Var → Option (List ℕ × List Pending) → Reading
initialise kind variable None = Lost
initialise kind variable (Some start) = Wanted (Opens (Initial start.0 kind variable) ∷ start.1)

-- `=`
abbrev pub assigns : Reading → Reading
assigns (Wanted pending) = Lost
assigns (Negation pending) = Lost
assigns (Head pending) = Lost
assigns (Named name pending) = assign (standing (Named name pending))
assigns (Behind name pending) = Lost
assigns (Typed kind pending) = Lost
assigns (Sized kind sizes more pending) = Lost
assigns (Called callee arguments pending) = Lost
assigns (Declared kind variable pending) = initialise kind variable (starting pending)
assigns (Selecting object pending) = Lost
assigns (Stands value pending) = assign (standing (Stands value pending))
assigns (Helping pending) = Lost
assigns Lost = Lost

-- ---- a word

-- a word more, given what it is; keywords of statements are no words of an expression
abbrev pub read_token : Token → List ℕ → Reading → Reading
read_token token.Open word reading = open_parenthesis reading
read_token token.Close word reading = close_parenthesis reading
read_token token.OpenBracket word reading = open_bracket reading
read_token token.CloseBracket word reading = close_bracket reading
read_token token.Comma word reading = next reading
read_token token.Dot word reading = dot reading
read_token token.Colon word reading = colon reading
read_token token.Question word reading = join Asked (standing reading)
read_token token.Semicolon word reading = Lost
read_token token.OpenBrace word reading = Lost
read_token token.CloseBrace word reading = Lost
read_token token.Assigns word reading = assigns reading
read_token token.Bang word reading = wait Inverted (wanted Negated reading)
read_token (token.Operator operator) word reading = operate operator reading
read_token token.Number word reading = stand (literal_of word) (wanted Sign reading)
read_token token.Text word reading = stand (Text (unquoted word)) (wanted Negated reading)
read_token token.True word reading = stand (Truth true) (wanted Negated reading)
read_token token.False word reading = stand (Truth false) (wanted Negated reading)
read_token token.Null word reading = stand Null (wanted Negated reading)
read_token token.This word reading = stand This (wanted Negated reading)
read_token token.New word reading = wait Created (wanted Negated reading)
read_token token.InstanceOf word reading = join TypeTested (standing reading)
read_token token.Class word reading = class_literal reading
read_token token.Name word reading = name word reading
read_token token.Return word reading = Lost
read_token token.If word reading = Lost
read_token token.Else word reading = Lost
read_token token.While word reading = Lost
read_token token.Do word reading = Lost
read_token token.For word reading = Lost
read_token token.Switch word reading = Lost
read_token token.Case word reading = Lost
read_token token.Default word reading = Lost
read_token token.Break word reading = Lost
read_token token.Continue word reading = Lost
read_token token.Throw word reading = Lost
read_token token.Try word reading = Lost
read_token token.Catch word reading = Lost
read_token token.Finally word reading = Lost
read_token token.Synchronized word reading = Lost

-- a word more is read
abbrev pub read_word : Reading → List ℕ → Reading
read_word reading word = read_token (token_of word) word reading

-- words, read one after another
abbrev pub read_words : Reading → Words → Reading
read_words reading [] = reading
read_words reading (word ∷ rest) = read_words (read_word reading word) rest
