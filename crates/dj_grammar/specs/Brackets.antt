-- Parentheses, brackets and commas of an expression (JLS 15.8.5, 15.9, 15.10, 15.12, 15.16).
use Rattle.std.specs.Prelude.{ℕ, ◌-◌, ◌+◌, Bool, true, false, min, nat_le, if◌then◌else◌, List, [], ◌∷◌, ◌++◌, length, take, Option, Some, None}
use Rattle.dj_names.specs.Types.{JType, Array}
use Rattle.dj_syntax.specs.Trees.{Exp, Text, Truth, Null, This, Variable, ClassOf, Field, Static, Element, Call, StaticCall, SuperCall, New, NewArray, Cast, InstanceOf, Negative, Not, Binary, Choice, Assign, exps_of}
use Rattle.dj_syntax.specs.Trees as trees
use Rattle.dj_tokens.specs.Dotted.{DottedName, whole, value_of, type_of_name}
use Rattle.dj_grammar.specs.Frames.{Callee, OfObject, OfClass, Above, Creation, Own, Helper, Joint, Negated, Enclosed, Converted, Opener, Parenthesis, Bracket, NameBracket, TypeBracket, Arguments, Size, Start, Stored, Initial, Pending, Joins, Opens, called, creating, opened}
use Rattle.dj_grammar.specs.Readings.{Reading, Wanted, Negation, Head, Named, Behind, Typed, Sized, Called, Declared, Selecting, Stands, Helping, Lost, wanted_open, ended}

-- ---- a parenthesis opens

-- what a value calls: a method of its object, where it is a field, or a constructor, where it is `this`
abbrev pub called_by : Exp → Option Callee
called_by (trees.Int value) = None
called_by (trees.Long value) = None
called_by (Text units) = None
called_by (Truth value) = None
called_by Null = None
called_by This = Some (Own true)
called_by (Variable variable) = None
called_by (ClassOf kind) = None
called_by (Field object name) = Some (OfObject object name)
called_by (Static class name) = None
called_by (Element array index) = None
called_by (Call object name arguments) = None
called_by (StaticCall class name arguments) = None
called_by (SuperCall above name arguments) = None
called_by (New class arguments) = None
called_by (NewArray kind sizes more) = None
called_by (Cast kind operand) = None
called_by (InstanceOf operand kind) = None
called_by (Negative operand) = None
called_by (Not operand) = None
called_by (Binary operator left right) = None
called_by (Choice test first second) = None
called_by (Assign variable value) = None

-- what stands before `super` in a prefix that ends with it: an interface, where more does
abbrev pub above_in : List ℕ → Option (List ℕ)
above_in prefix = if nat_le (length prefix) 5 then None else Some (take (length prefix - 6) prefix)

-- what a name of one word calls: a constructor above
abbrev pub called_plainly : Option (List ℕ) → Bool → List ℕ → Callee
called_plainly None behind_super last = Own false
called_plainly (Some prefix) behind_super last = if behind_super then Above (above_in prefix) last else OfClass prefix last

-- what a name calls: by its value, where it begins with a variable
abbrev pub callee_or : Callee → Option Exp → Option Callee
callee_or plain None = Some plain
callee_or plain (Some value) = called_by value

-- what a name calls
abbrev pub callee_of : DottedName → Option Callee
callee_of name = callee_or (called_plainly name.prefix name.behind_super name.last) name.value

-- arguments of what is called begin, where something is
abbrev pub open_arguments : Option Callee → List Pending → Reading
open_arguments None pending = Lost
open_arguments (Some callee) pending = Wanted (Opens (Arguments callee []) ∷ pending)

-- arguments behind a name: those of a new object behind `new`
abbrev pub open_named : DottedName → List Pending → Option (List Pending) → Reading
open_named name pending None = open_arguments (callee_of name) pending
open_named name pending (Some outer) = open_arguments (Some (Creation (whole name))) outer

-- a parenthesis opens
abbrev pub open_parenthesis : Reading → Reading
open_parenthesis (Wanted pending) = Wanted (Opens Parenthesis ∷ pending)
open_parenthesis (Negation pending) = Wanted (Opens Parenthesis ∷ Joins Negated ∷ pending)
open_parenthesis (Head pending) = Wanted pending
open_parenthesis (Named name pending) = open_named name pending (creating pending)
open_parenthesis (Behind name pending) = Lost
open_parenthesis (Typed kind pending) = Lost
open_parenthesis (Sized kind sizes more pending) = Lost
open_parenthesis (Called callee arguments pending) = Lost
open_parenthesis (Declared kind variable pending) = Lost
open_parenthesis (Selecting object pending) = Lost
open_parenthesis (Stands value pending) = open_arguments (called_by value) pending
open_parenthesis (Helping pending) = Wanted (Opens (Arguments Helper []) ∷ pending)
open_parenthesis Lost = Lost

-- ---- a parenthesis closes

-- what closes behind a value: a parenthesis around it, or arguments; a statement's own parenthesis closes unseen
abbrev pub close_opener : Exp → Opener → List Pending → Reading
close_opener value Parenthesis outer = Stands value outer
close_opener value (Bracket array) outer = Lost
close_opener value (NameBracket name) outer = Lost
close_opener value (TypeBracket kind) outer = Lost
close_opener value (Arguments callee arguments) outer = Called callee (arguments ++ value ∷ []) outer
close_opener value (Size kind sizes more) outer = Lost
close_opener value (Start labels) outer = Lost
close_opener value (Stored labels target) outer = Stands value (Opens (Stored labels target) ∷ outer)
close_opener value (Initial labels kind variable) outer = Lost

-- what closes behind a value, where something was opened
abbrev pub close_opened : Exp → Option (Opener × List Pending) → Reading
close_opened value None = Stands value []
close_opened value (Some opened) = close_opener value opened.0 opened.1

-- a parenthesis closes behind a value that ends
abbrev pub close_ended : Option (Exp × List Pending) → Reading
close_ended None = Lost
close_ended (Some ended) = close_opened ended.0 (opened ended.1)

-- the arguments that are open without one
abbrev pub no_arguments : Opener → List Pending → Reading
no_arguments Parenthesis outer = Lost
no_arguments (Bracket array) outer = Lost
no_arguments (NameBracket name) outer = Lost
no_arguments (TypeBracket kind) outer = Lost
no_arguments (Arguments callee arguments) outer = Called callee arguments outer
no_arguments (Size kind sizes more) outer = Lost
no_arguments (Start labels) outer = Lost
no_arguments (Stored labels target) outer = Lost
no_arguments (Initial labels kind variable) outer = Lost

-- what comes of what was opened, where something was
abbrev pub at_opener : (Opener → List Pending → Reading) → Option (Opener × List Pending) → Reading
at_opener next None = Lost
at_opener next (Some opened) = next opened.0 opened.1

-- whether it is a parenthesis
abbrev pub is_parenthesis : Opener → Bool
is_parenthesis Parenthesis = true
is_parenthesis (Bracket array) = false
is_parenthesis (NameBracket name) = false
is_parenthesis (TypeBracket kind) = false
is_parenthesis (Arguments callee arguments) = false
is_parenthesis (Size kind sizes more) = false
is_parenthesis (Start labels) = false
is_parenthesis (Stored labels target) = false
is_parenthesis (Initial labels kind variable) = false

-- what is open around a parenthesis that was just opened
abbrev pub enclosing : List Pending → Option (List Pending)
enclosing [] = None
enclosing (Joins joint ∷ outer) = None
enclosing (Opens opener ∷ outer) = if is_parenthesis opener then Some outer else None

-- a parenthesis closes: around a type alone it is a conversion, which waits for its operand
abbrev pub convert_or : Joint → Option (List Pending) → Reading → Reading
convert_or conversion None closed = closed
convert_or conversion (Some outer) closed = Wanted (Joins conversion ∷ outer)

-- a parenthesis closes
abbrev pub close_parenthesis : Reading → Reading
close_parenthesis (Wanted pending) = at_opener no_arguments (opened pending)
close_parenthesis (Negation pending) = close_ended (ended (Negation pending))
close_parenthesis (Head pending) = close_ended (ended (Head pending))
close_parenthesis (Named name pending) = convert_or (Enclosed name) (enclosing pending) (close_ended (ended (Named name pending)))
close_parenthesis (Behind name pending) = close_ended (ended (Behind name pending))
close_parenthesis (Typed kind pending) = convert_or (Converted kind) (enclosing pending) (close_ended (ended (Typed kind pending)))
close_parenthesis (Sized kind sizes more pending) = close_ended (ended (Sized kind sizes more pending))
close_parenthesis (Called callee arguments pending) = close_ended (ended (Called callee arguments pending))
close_parenthesis (Declared kind variable pending) = Declared kind variable pending
close_parenthesis (Selecting object pending) = close_ended (ended (Selecting object pending))
close_parenthesis (Stands value pending) = close_ended (ended (Stands value pending))
close_parenthesis (Helping pending) = close_ended (ended (Helping pending))
close_parenthesis Lost = close_ended (ended Lost)

-- ---- brackets

-- a bracket behind a name: a size of a new array behind `new`
abbrev pub bracket_name : DottedName → List Pending → Option (List Pending) → Reading
bracket_name name pending None = Wanted (Opens (NameBracket name) ∷ pending)
bracket_name name pending (Some outer) = Wanted (Opens (Size (type_of_name name) [] 0) ∷ outer)

-- a bracket opens
abbrev pub open_bracket : Reading → Reading
open_bracket (Wanted pending) = Lost
open_bracket (Negation pending) = Lost
open_bracket (Head pending) = Lost
open_bracket (Named name pending) = bracket_name name pending (creating pending)
open_bracket (Behind name pending) = Lost
open_bracket (Typed kind pending) = Wanted (Opens (TypeBracket kind) ∷ pending)
open_bracket (Sized kind sizes more pending) = Wanted (Opens (Size kind sizes more) ∷ pending)
open_bracket (Called callee arguments pending) = Wanted (Opens (Bracket (called callee (exps_of arguments))) ∷ pending)
open_bracket (Declared kind variable pending) = Lost
open_bracket (Selecting object pending) = Lost
open_bracket (Stands value pending) = Wanted (Opens (Bracket value) ∷ pending)
open_bracket (Helping pending) = Lost
open_bracket Lost = Lost

-- a pair of brackets with nothing between them, behind a name, a type or sizes
abbrev pub pair_opener : Opener → List Pending → Reading
pair_opener Parenthesis outer = Lost
pair_opener (Bracket array) outer = Lost
pair_opener (NameBracket name) outer = Typed (Array (type_of_name name)) outer
pair_opener (TypeBracket kind) outer = Typed (Array kind) outer
pair_opener (Arguments callee arguments) outer = Lost
pair_opener (Size kind sizes more) outer = Sized kind sizes (min (more + 1) 4294967295) outer
pair_opener (Start labels) outer = Lost
pair_opener (Stored labels target) outer = Lost
pair_opener (Initial labels kind variable) outer = Lost

-- what closes behind an index or a size
abbrev pub index_opener : Exp → Opener → List Pending → Reading
index_opener index Parenthesis outer = Lost
index_opener index (Bracket array) outer = Stands (Element array index) outer
index_opener index (NameBracket name) outer = Stands (Element (value_of name) index) outer
index_opener index (TypeBracket kind) outer = Lost
index_opener index (Arguments callee arguments) outer = Lost
index_opener index (Size kind sizes more) outer = Sized kind (sizes ++ index ∷ []) more outer
index_opener index (Start labels) outer = Lost
index_opener index (Stored labels target) outer = Lost
index_opener index (Initial labels kind variable) outer = Lost

-- a bracket closes behind a value that ends
abbrev pub index_ended : Option (Exp × List Pending) → Reading
index_ended None = Lost
index_ended (Some ended) = at_opener (index_opener ended.0) (opened ended.1)

-- a bracket closes: a pair where an operand is wanted, and else behind a value that ends
abbrev pub close_or : Option (List Pending) → Option (Exp × List Pending) → Reading
close_or None end = index_ended end
close_or (Some pending) end = at_opener pair_opener (opened pending)

-- a bracket closes
abbrev pub close_bracket : Reading → Reading
close_bracket reading = close_or (wanted_open reading) (ended reading)

-- ---- commas

-- an argument more, where arguments are open
abbrev pub next_opener : Exp → Opener → List Pending → Reading
next_opener value Parenthesis outer = Lost
next_opener value (Bracket array) outer = Lost
next_opener value (NameBracket name) outer = Lost
next_opener value (TypeBracket kind) outer = Lost
next_opener value (Arguments callee arguments) outer = Wanted (Opens (Arguments callee (arguments ++ value ∷ [])) ∷ outer)
next_opener value (Size kind sizes more) outer = Lost
next_opener value (Start labels) outer = Lost
next_opener value (Stored labels target) outer = Lost
next_opener value (Initial labels kind variable) outer = Lost

-- a comma behind a value that ends
abbrev pub next_ended : Option (Exp × List Pending) → Reading
next_ended None = Lost
next_ended (Some ended) = at_opener (next_opener ended.0) (opened ended.1)

-- a comma
abbrev pub next : Reading → Reading
next reading = next_ended (ended reading)
