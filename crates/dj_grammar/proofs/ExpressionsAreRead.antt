-- An expression is read from its words, whatever follows (JLS 15).
use Rattle.std.proofs.Common.{◌≡◌, ◌⊎◌, ℕ, zero, suc, ◌+◌, ◌-◌, ◌<◌, ◌≤◌, ◌^◌, Bool, true, false, List, [], ◌∷◌, ◌++◌, length, take, refl, sym, ap, ◌∙◌, subst, inl, inr, arith, append_assoc, append-nil, length-append}
use Rattle.std.specs.Prelude.{codes, ℤ, pos, negsuc, Option, Some, None, IfSome, min, nat_le}
use Rattle.std.specs.Fmt.{decimal}
use Rattle.std.proofs.lemmas.Bool.{false≢true}
use Rattle.std.proofs.lemmas.Bool.Decides.{nat_tests}
use Rattle.dj_names.specs.Identifiers.{IsIdentifier}
use Rattle.dj_names.specs.Sayable.{IsSayable}
use Rattle.dj_names.specs.Types.{JType, Boolean, Byte, Char, Short, Float, Double, Class, Array}
use Rattle.dj_names.specs.Types as types
use Rattle.dj_syntax.specs.declared.operator.Op.{Op}
use Rattle.dj_syntax.specs.declared.variable.Var.{Var}
use Rattle.dj_syntax.specs.declared.shape.Shape.{Shape}
use Rattle.dj_syntax.specs.declared.shape.Shape.TheVariants.{Numeral, StaticField, Atom, Compound}
use Rattle.dj_syntax.specs.Trees.{Exp, Text, Truth, Null, This, Variable, ClassOf, Field, Static, Element, Call, StaticCall, SuperCall, New, NewArray, Cast, InstanceOf, Negative, Not, Binary, Choice, Assign, Exps, NoExps, AndExp, exps_of}
use Rattle.dj_syntax.specs.Trees as trees
use Rattle.dj_syntax.specs.UnitText.{variable_name, operator_text, number_shape, shape, is_atom, is_receiver, is_negated, truth_text}
use Rattle.dj_syntax.specs.WellFormed.{IsQualified, IsNamed, is_call, IsWellFormedExp, AreWellFormedExps}
use Rattle.dj_tokens.specs.declared.tokens.Token.TheVariants as token
use Rattle.dj_tokens.specs.Words.{Words}
use Rattle.dj_tokens.specs.Tokens.{token_of}
use Rattle.dj_tokens.specs.Dotted.{DottedName, begun, extended, value_of, value_or, field_of_value, variable_in}
use Rattle.dj_grammar.specs.Frames.{Callee, OfObject, OfClass, Above, Creation, Joint, Sign, Negated, Inverted, Enclosed, Converted, LeftOf, TypeTested, Asked, Answered, Assigned, Created, Parenthesis, Arguments, Size, Pending, Joins, Opens, signed, joined, collapsed, called}
use Rattle.dj_grammar.specs.Readings.{Reading, Wanted, Negation, Named, Behind, Sized, Called, Selecting, Stands, standing}
use Rattle.dj_grammar.specs.Brackets.{open_parenthesis, close_ended, enclosing, index_ended, next_ended, above_in}
use Rattle.dj_grammar.specs.Steps.{starting, read_word, read_words, join, operate, assigns, assign, assign_value, colon}
use Rattle.dj_grammar.proofs.IdentifiersAreWords.{token_of-identifier}
use Rattle.dj_grammar.proofs.NamesAreRead.{after_dots, dotted_words, name_words, parts_of}
use Rattle.dj_grammar.proofs.TypesAreRead.{type_words, first_segment}
use Rattle.dj_grammar.proofs.SayableNames.{first_is_plain}
use Rattle.dj_grammar.proofs.NamesStand.{read_words-append, read_as, name_stands, IsType, type_name_stands, type_stands}
use Rattle.dj_grammar.proofs.ExpressionWords.{enclosed, operand_words, int_words, long_words, super_words, pairs_words, exp_words, arguments_words, more_words, sizes_words}
use Rattle.dj_grammar.proofs.ExpressionsAreSpelled.{receiver_atom, negated_atom, sayable_name}
use Rattle.dj_grammar.proofs.ExpressionsStand.{is_special, IsPlain, IsOperand, IsWhole, IsGiven, IsEnded, operand_stands, operand_is_whole, whole_behind, joined_is_whole, bracket_opens, IsMember, member_stands, selected_stands, member_is_operand, member_is_called}
use Rattle.dj_grammar.proofs.QuotesAreRead.{unquoted-quoted}
use Rattle.dj_grammar.proofs.TokensAreRead.{int_is_read, long_is_read, negative_int_is_read, negative_long_is_read, variable_is_like, variable_is_read, number_token, long_token, variable_token, operator_token}

-- what is read of an expression: an atom, and a new object, is given as an operand, and each expression ends
pub record IsRead (e : Exp) : Type 0 where
  pub given : is_atom (shape e) ≡ true → IsGiven e (exp_words e)
  pub made : is_call e ≡ true → IsGiven e (exp_words e)
  pub ends : IsEnded e (exp_words e)
  pub selected : (name : List ℕ) → IsIdentifier name → is_receiver (shape e) ≡ false → (pending : List Pending) → IsMember e name pending (read_words (Wanted pending) (enclosed (exp_words e) ++ codes "." ∷ name ∷ []))

-- each of a list is read
abbrev pub AreRead : Exps → Type 0
AreRead NoExps = Unit {0}
AreRead (AndExp first rest) = IsRead first × AreRead rest

-- expressions as a list
abbrev pub list_of : Exps → List Exp
list_of NoExps = []
list_of (AndExp first rest) = first ∷ list_of rest

pub exps_of-list_of : (list : Exps) → exps_of (list_of list) ≡ list
exps_of-list_of NoExps = refl
exps_of-list_of (AndExp first rest) = ap (AndExp first) (exps_of-list_of rest)

-- ---- operands

in_parentheses : (e : Exp) (pending : List Pending) → IsEnded e (exp_words e) → is_negated (shape e) ≡ false → read_words (Wanted pending) (enclosed (exp_words e)) ≡ Stands e pending
in_parentheses e pending ends shape =
    let inside = ends (Opens Parenthesis ∷ pending) (refl, refl) refl (λ is. absurd (false≢true (sym shape ∙ is))) in
    read_words-append (Wanted (Opens Parenthesis ∷ pending)) (exp_words e) (codes ")" ∷ []) ∙ inside.closes ∙ ap close_ended inside.ends

compound_is_not_negated : (shape : Shape) → is_atom shape ≡ false → is_negated shape ≡ false
compound_is_not_negated Numeral bare = refl
compound_is_not_negated StaticField bare = absurd (false≢true (sym bare))
compound_is_not_negated Atom bare = absurd (false≢true (sym bare))
compound_is_not_negated Compound bare = refl

-- an operand is given by its words
operand_given : (e : Exp) → IsRead e → IsGiven e (operand_words (is_atom (shape e)) (exp_words e))
operand_given e read pending plain = go (is_atom (shape e)) refl
  where
    go : (bare : Bool) → is_atom (shape e) ≡ bare → IsOperand e pending (read_words (Wanted pending) (operand_words bare (exp_words e)))
    go true is = read.given is pending plain
    go false is = inl (in_parentheses e pending read.ends (compound_is_not_negated (shape e) is))

-- a member of an operand stands behind its words
receiver_stands : (e : Exp) (name : List ℕ) → IsRead e → IsIdentifier name → (pending : List Pending) → IsPlain pending → IsMember e name pending (read_words (Wanted pending) (operand_words (is_receiver (shape e)) (exp_words e) ++ codes "." ∷ name ∷ []))
receiver_stands e name read identifier pending plain = go (is_receiver (shape e)) refl
  where
    go : (bare : Bool) → is_receiver (shape e) ≡ bare → IsMember e name pending (read_words (Wanted pending) (operand_words bare (exp_words e) ++ codes "." ∷ name ∷ []))
    go true is =
        subst (IsMember e name pending) (sym (read_words-append (Wanted pending) (exp_words e) (codes "." ∷ name ∷ [])))
        (member_stands e name pending (read_words (Wanted pending) (exp_words e)) identifier is (read.given (receiver_atom (shape e) is) pending plain))
    go false is = read.selected name identifier is pending

-- ---- kinds of expressions

stands_is_whole : (e : Exp) (pending : List Pending) (reading : Reading) → reading ≡ Stands e pending → IsWhole e pending reading
stands_is_whole e pending reading is = subst (IsWhole e pending) (sym is) (record { ends = refl; closes = refl; indexes = refl; plainly = refl })

-- an atom that isn't a number
atom_read : (e : Exp) → is_negated (shape e) ≡ true → is_receiver (shape e) ≡ true → IsGiven e (exp_words e) → IsRead e
atom_read e negated receiver given = record {
  given = λ atom. given;
  made = λ call. given;
  ends = λ pending plain fresh outside. operand_is_whole e pending (read_words (Wanted pending) (exp_words e)) plain (outside negated) (given pending plain);
  selected = λ name identifier bare pending. absurd (false≢true (sym bare ∙ receiver));
}

enclosed_selected : (e : Exp) (name : List ℕ) (pending : List Pending) → IsEnded e (exp_words e) → is_negated (shape e) ≡ false → IsIdentifier name → IsMember e name pending (read_words (Wanted pending) (enclosed (exp_words e) ++ codes "." ∷ name ∷ []))
enclosed_selected e name pending ends shape identifier =
    subst (IsMember e name pending)
    (sym (read_words-append (Wanted pending) (enclosed (exp_words e)) (codes "." ∷ name ∷ []) ∙ ap (λ reading. read_words reading (codes "." ∷ name ∷ [])) (in_parentheses e pending ends shape)))
    (selected_stands e name pending (token_of-identifier name identifier))

-- an expression that stands in parentheses as an operand
compound_read : (e : Exp) → shape e ≡ Compound → is_call e ≡ false → IsEnded e (exp_words e) → IsRead e
compound_read e is no_call ends = record {
  given = λ atom. absurd (false≢true (sym (ap is_atom is) ∙ atom));
  made = λ call. absurd (false≢true (sym no_call ∙ call));
  ends = ends;
  selected = λ name identifier bare pending. enclosed_selected e name pending ends (ap is_negated is) identifier;
}

-- a value that stands at once
value_read : (e : Exp) → is_receiver (shape e) ≡ true → is_call e ≡ false → ((pending : List Pending) → read_words (Wanted pending) (exp_words e) ≡ Stands e pending) → IsRead e
value_read e receiver no_call stands = record {
  given = λ atom pending plain. inl (stands pending);
  made = λ call. absurd (false≢true (sym no_call ∙ call));
  ends = λ pending plain fresh outside. stands_is_whole e pending (read_words (Wanted pending) (exp_words e)) (stands pending);
  selected = λ name identifier bare pending. absurd (false≢true (sym bare ∙ receiver));
}

-- ---- literals

int_read : (value : ℤ) → IsWellFormedExp (trees.Int value) → IsRead (trees.Int value)
int_read (pos n) well = value_read (trees.Int (pos n)) refl refl (λ pending. read_as token.Number (Wanted pending) (decimal n) (number_token n) ∙ ap (λ e. Stands e pending) (int_is_read n (omega arith)))
int_read (negsuc n) well = compound_read (trees.Int (negsuc n)) refl refl (λ pending plain fresh outside.
    let read = negative_int_is_read n (omega arith) in
    joined_is_whole Sign (trees.Int read.0) (trees.Int (negsuc n)) pending (read_words (Wanted pending) (int_words (negsuc n))) (ap (λ value. collapsed (trees.Int value) pending) read.2) (refl, refl)
    (inl (read_as token.Number (Negation pending) (decimal (suc n)) (number_token (suc n)) ∙ ap (λ e. Stands e (Joins Sign ∷ pending)) read.1)))

long_read : (value : ℤ) → IsWellFormedExp (trees.Long value) → IsRead (trees.Long value)
long_read (pos n) well = value_read (trees.Long (pos n)) refl refl (λ pending. read_as token.Number (Wanted pending) (decimal n ++ codes "L") (long_token n) ∙ ap (λ e. Stands e pending) (long_is_read n (omega arith)))
long_read (negsuc n) well = compound_read (trees.Long (negsuc n)) refl refl (λ pending plain fresh outside.
    let read = negative_long_is_read n (omega arith) in
    joined_is_whole Sign (trees.Long read.0) (trees.Long (negsuc n)) pending (read_words (Wanted pending) (long_words (negsuc n))) (ap (λ value. collapsed (trees.Long value) pending) read.2) (refl, refl)
    (inl (read_as token.Number (Negation pending) (decimal (suc n) ++ codes "L") (long_token (suc n)) ∙ ap (λ e. Stands e (Joins Sign ∷ pending)) read.1)))

truth_read : (value : Bool) → IsRead (Truth value)
truth_read true = value_read (Truth true) refl refl (λ pending. refl)
truth_read false = value_read (Truth false) refl refl (λ pending. refl)

-- ---- names

-- a variable is read from its name as its value
pub variable_value : (variable : Var) → variable.number < 2 ^ 32 → variable_in (variable_name variable) ≡ Some (Variable variable)
variable_value variable fits = rw (variable_is_like variable) (ap (λ variable. Some (Variable variable)) (variable_is_read variable fits))

variable_given : (variable : Var) → variable.number < 2 ^ 32 → IsGiven (Variable variable) (variable_name variable ∷ [])
variable_given variable fits pending plain =
    inr (inl (begun (variable_name variable), ap (λ value. value_or value (Static [] (variable_name variable))) (variable_value variable fits), read_as token.Name (Wanted pending) (variable_name variable) (variable_token variable)))

class_given : (kind : JType) → IsNamed kind → IsGiven (ClassOf kind) (type_words kind ++ codes "." ∷ codes "class" ∷ [])
class_given kind named pending plain =
    inl (read_words-append (Wanted pending) (type_words kind) (codes "." ∷ codes "class" ∷ []) ∙ go (type_stands kind pending named plain.1))
  where
    go : IsType kind pending (read_words (Wanted pending) (type_words kind)) → read_words (read_words (Wanted pending) (type_words kind)) (codes "." ∷ codes "class" ∷ []) ≡ Stands (ClassOf kind) pending
    go (inl is) = rw is.2 (ap (λ kind. Stands (ClassOf kind) pending) is.1)
    go (inr is) = rw is refl

-- a member of a class stands as its name
class_member : (class name : List ℕ) (pending : List Pending) → IsSayable class → IsIdentifier name
    → (named : DottedName) × (named.value ≡ None) × (named.prefix ≡ Some class) × (named.last ≡ name) × (named.behind_super ≡ false) × (read_words (Wanted pending) (name_words class ++ codes "." ∷ name ∷ []) ≡ Named named pending)
class_member class name pending sayable identifier =
    let stands = name_stands class pending (sayable_name class sayable) in (
      extended stands.0 name,
      ap (λ value. field_of_value value name) (stands.1.plain (first_is_plain class sayable)),
      ap Some stands.1.is_whole,
      refl,
      stands.1.no_super,
      read_words-append (Wanted pending) (name_words class) (codes "." ∷ name ∷ [])
          ∙ ap (λ reading. read_words reading (codes "." ∷ name ∷ [])) stands.2
          ∙ read_as token.Name (Behind stands.0 pending) name (token_of-identifier name identifier),
    )

static_value : (class name : List ℕ) (named : DottedName) → named.value ≡ None → named.prefix ≡ Some class → named.last ≡ name → value_of named ≡ Static class name
static_value class name named none prefix last = rw (none, prefix, last) refl

static_read : (class name : List ℕ) → IsSayable class → IsIdentifier name → IsRead (Static class name)
static_read class name sayable identifier = record {
  given = λ atom. given;
  made = λ call. given;
  ends = λ pending plain fresh outside. operand_is_whole (Static class name) pending (read_words (Wanted pending) (name_words class ++ codes "." ∷ name ∷ [])) plain (outside refl) (given pending plain);
  selected = selected;
}
  where
    given : IsGiven (Static class name) (name_words class ++ codes "." ∷ name ∷ [])
    given pending plain =
        let stands = class_member class name pending sayable identifier in
        inr (inl (stands.0, static_value class name stands.0 stands.1 stands.2 stands.3, stands.5))

    selected : (member : List ℕ) → IsIdentifier member → is_receiver (shape (Static class name)) ≡ false → (pending : List Pending) → IsMember (Static class name) member pending (read_words (Wanted pending) (enclosed (name_words class ++ codes "." ∷ name ∷ []) ++ codes "." ∷ member ∷ []))
    selected member is_member bare pending =
        let stands = class_member class name (Opens Parenthesis ∷ pending) sayable identifier in
        inl (read_words-append (Wanted pending) (enclosed (name_words class ++ codes "." ∷ name ∷ [])) (codes "." ∷ member ∷ [])
        ∙ ap (λ reading. read_words reading (codes "." ∷ member ∷ []))
        (read_words-append (Wanted (Opens Parenthesis ∷ pending)) (name_words class ++ codes "." ∷ name ∷ []) (codes ")" ∷ []) ∙ ap (λ reading. read_words reading (codes ")" ∷ [])) stands.5)
        ∙ read_as token.Name (Selecting (value_of stands.0) pending) member (token_of-identifier member is_member)
        ∙ ap (λ object. Stands (Field object member) pending) (static_value class name stands.0 stands.1 stands.2 stands.3))

-- ---- arguments

more_stand : (list : Exps) → AreRead list → (callee : Callee) (before : List Exp) (e : Exp) (pending : List Pending) (reading : Reading) → IsWhole e (Opens (Arguments callee before) ∷ pending) reading → read_words reading (more_words list ++ codes ")" ∷ []) ≡ Called callee (before ++ e ∷ list_of list) pending
more_stand NoExps read callee before e pending reading whole = whole.closes ∙ ap close_ended whole.ends
more_stand (AndExp first rest) (here, there) callee before e pending reading whole =
    let inner = Opens (Arguments callee (before ++ e ∷ [])) ∷ pending in
    ap (λ reading. read_words reading ((exp_words first ++ more_words rest) ++ codes ")" ∷ [])) (ap next_ended whole.ends)
    ∙ ap (read_words (Wanted inner)) (append_assoc (exp_words first) (more_words rest) (codes ")" ∷ []))
    ∙ read_words-append (Wanted inner) (exp_words first) (more_words rest ++ codes ")" ∷ [])
    ∙ more_stand rest there callee (before ++ e ∷ []) first pending (read_words (Wanted inner) (exp_words first)) (here.ends inner (refl, refl) refl (λ is. refl))
    ∙ ap (λ arguments. Called callee arguments pending) (append_assoc before (e ∷ []) (first ∷ list_of rest))

-- arguments are read behind their parenthesis
pub arguments_stand : (list : Exps) → AreRead list → (callee : Callee) (pending : List Pending) → read_words (Wanted (Opens (Arguments callee []) ∷ pending)) (arguments_words list ++ codes ")" ∷ []) ≡ Called callee (list_of list) pending
arguments_stand NoExps read callee pending = refl
arguments_stand (AndExp first rest) (here, there) callee pending =
    let inner = Opens (Arguments callee []) ∷ pending in
    ap (read_words (Wanted inner)) (append_assoc (exp_words first) (more_words rest) (codes ")" ∷ []))
    ∙ read_words-append (Wanted inner) (exp_words first) (more_words rest ++ codes ")" ∷ [])
    ∙ more_stand rest there callee [] first pending (read_words (Wanted inner) (exp_words first)) (here.ends inner (refl, refl) refl (λ is. refl))

-- a call is given where what is called is told by the words before its parenthesis
call_given : (callee : Callee) (e : Exp) (arguments : Exps) (front : Words) (pending : List Pending) → AreRead arguments → called callee arguments ≡ e → is_special callee ≡ false
    → open_parenthesis (read_words (Wanted pending) front) ≡ Wanted (Opens (Arguments callee []) ∷ pending) → IsOperand e pending (read_words (Wanted pending) (front ++ enclosed (arguments_words arguments)))
call_given callee e arguments front pending read is plainly opens =
    inr (inr (
      callee,
      list_of arguments,
      ap (called callee) (exps_of-list_of arguments) ∙ is,
      read_words-append (Wanted pending) front (enclosed (arguments_words arguments))
          ∙ ap (λ reading. read_words reading (arguments_words arguments ++ codes ")" ∷ [])) opens
          ∙ arguments_stand arguments read callee pending,
      plainly,
    ))

-- words, a dot, a name and more, piece by piece
member_words : (front : Words) (name : List ℕ) (more : Words) → front ++ codes "." ∷ name ∷ more ≡ (front ++ codes "." ∷ name ∷ []) ++ more
member_words front name more = sym (append_assoc front (codes "." ∷ name ∷ []) more)

object_call_given : (object : Exp) (name : List ℕ) (arguments : Exps) → IsRead object → IsIdentifier name → AreRead arguments → IsGiven (Call object name arguments) (exp_words (Call object name arguments))
object_call_given object name arguments read identifier are pending plain =
    let front = operand_words (is_receiver (shape object)) (exp_words object) in
    subst (λ list. IsOperand (Call object name arguments) pending (read_words (Wanted pending) list)) (sym (member_words front name (enclosed (arguments_words arguments))))
    (call_given (OfObject object name) (Call object name arguments) arguments (front ++ codes "." ∷ name ∷ []) pending are refl refl
    (member_is_called object name pending (read_words (Wanted pending) (front ++ codes "." ∷ name ∷ [])) plain (receiver_stands object name read identifier pending plain)))

static_call_given : (class name : List ℕ) (arguments : Exps) → IsSayable class → IsIdentifier name → AreRead arguments → IsGiven (StaticCall class name arguments) (exp_words (StaticCall class name arguments))
static_call_given class name arguments sayable identifier are pending plain =
    let stands = class_member class name pending sayable identifier in
    subst (λ list. IsOperand (StaticCall class name arguments) pending (read_words (Wanted pending) list)) (sym (member_words (name_words class) name (enclosed (arguments_words arguments))))
    (call_given (OfClass class name) (StaticCall class name arguments) arguments (name_words class ++ codes "." ∷ name ∷ []) pending are refl refl
    (ap open_parenthesis stands.5 ∙ rw (plain.1, stands.1, stands.2, stands.3, stands.4) refl))

above_interface : (interface : List ℕ) → above_in (interface ++ 47 ∷ codes "super") ≡ Some interface
above_interface interface =
    let size : length (interface ++ 47 ∷ codes "super") ≡ length interface + 6 = length-append interface (47 ∷ codes "super") in
    let more : nat_le (length interface + 6) 5 ≡ false = grind (arith, nat_tests) in
    let cut : length interface + 6 - 6 ≡ length interface = omega arith in
    rw (size, more, cut) (ap Some (front_of interface))
  where
    front_of : (front : List ℕ) → take (length front) (front ++ 47 ∷ codes "super") ≡ front
    front_of [] = refl
    front_of (unit ∷ rest) = ap (λ rest. unit ∷ rest) (front_of rest)

super_value : (value : Option Exp) → field_of_value value (codes "super") ≡ None
super_value None = refl
super_value (Some object) = refl

-- the method above that words call
super_opens : (above : Option (List ℕ)) (name : List ℕ) (pending : List Pending) → IfSome above IsQualified → IsIdentifier name → IsPlain pending
    → open_parenthesis (read_words (Wanted pending) (super_words above ++ codes "." ∷ name ∷ [])) ≡ Wanted (Opens (Arguments (Above above name) []) ∷ pending)
super_opens None name pending named identifier plain =
    ap open_parenthesis (read_as token.Name (Behind (begun (codes "super")) pending) name (token_of-identifier name identifier))
    ∙ rw plain.1 refl
super_opens (Some interface) name pending named identifier plain =
    let stands = name_stands interface pending named in
    ap open_parenthesis
    (ap (read_words (Wanted pending)) (append_assoc (name_words interface) (codes "." ∷ codes "super" ∷ []) (codes "." ∷ name ∷ []))
    ∙ read_words-append (Wanted pending) (name_words interface) (codes "." ∷ codes "super" ∷ codes "." ∷ name ∷ [])
    ∙ ap (λ reading. read_words reading (codes "." ∷ codes "super" ∷ codes "." ∷ name ∷ [])) stands.2
    ∙ read_as token.Name (Behind (extended stands.0 (codes "super")) pending) name (token_of-identifier name identifier))
    ∙ rw (plain.1, super_value stands.0.value, stands.1.is_whole, above_interface interface) refl

super_call_given : (above : Option (List ℕ)) (name : List ℕ) (arguments : Exps) → IfSome above IsQualified → IsIdentifier name → AreRead arguments → IsGiven (SuperCall above name arguments) (exp_words (SuperCall above name arguments))
super_call_given above name arguments named identifier are pending plain =
    subst (λ list. IsOperand (SuperCall above name arguments) pending (read_words (Wanted pending) list)) (sym (member_words (super_words above) name (enclosed (arguments_words arguments))))
    (call_given (Above above name) (SuperCall above name arguments) arguments (super_words above ++ codes "." ∷ name ∷ []) pending are refl refl
    (super_opens above name pending named identifier plain))

-- a new object is a call
new_stands : (class : List ℕ) (arguments : Exps) (pending : List Pending) → IsQualified class → AreRead arguments → read_words (Wanted pending) (exp_words (New class arguments)) ≡ Called (Creation class) (list_of arguments) pending
new_stands class arguments pending named are =
    let stands = name_stands class (Joins Created ∷ pending) named in
    read_words-append (Wanted (Joins Created ∷ pending)) (name_words class) (enclosed (arguments_words arguments))
    ∙ ap (λ reading. read_words reading (enclosed (arguments_words arguments))) stands.2
    ∙ ap (λ class. read_words (Wanted (Opens (Arguments (Creation class) []) ∷ pending)) (arguments_words arguments ++ codes ")" ∷ [])) stands.1.is_whole
    ∙ arguments_stand arguments are (Creation class) pending

new_read : (class : List ℕ) (arguments : Exps) → IsQualified class → AreRead arguments → IsRead (New class arguments)
new_read class arguments named are = record {
  given = λ atom. absurd (false≢true atom);
  made = λ call pending plain. inr (inr (Creation class, list_of arguments, ap (New class) (exps_of-list_of arguments), new_stands class arguments pending named are, refl));
  ends = ends;
  selected = λ name identifier bare pending. enclosed_selected (New class arguments) name pending ends refl identifier;
}
  where
    ends : IsEnded (New class arguments) (exp_words (New class arguments))
    ends pending plain fresh outside =
        subst (IsWhole (New class arguments) pending) (sym (new_stands class arguments pending named are))
        (record { ends = ap (λ list. Some (collapsed (New class list) pending)) (exps_of-list_of arguments); closes = refl; indexes = refl; plainly = refl })

-- ---- new arrays

size_stands : (e : Exp) → IsRead e → (kind : JType) (before : List Exp) (pending : List Pending) (more : Words) → read_words (Wanted (Opens (Size kind before 0) ∷ pending)) (exp_words e ++ codes "]" ∷ more) ≡ read_words (Sized kind (before ++ e ∷ []) 0 pending) more
size_stands e read kind before pending more =
    let inner = Opens (Size kind before 0) ∷ pending in
    let whole = read.ends inner (refl, refl) refl (λ is. refl) in
    read_words-append (Wanted inner) (exp_words e) (codes "]" ∷ more)
    ∙ ap (λ reading. read_words reading more) (whole.indexes ∙ ap index_ended whole.ends)

sizes_stand : (list : Exps) → AreRead list → (kind : JType) (before : List Exp) (pending : List Pending) (more : Words) → read_words (Sized kind before 0 pending) (sizes_words list ++ more) ≡ read_words (Sized kind (before ++ list_of list) 0 pending) more
sizes_stand NoExps read kind before pending more = ap (λ sizes. read_words (Sized kind sizes 0 pending) more) (sym (append-nil before))
sizes_stand (AndExp first rest) (here, there) kind before pending more =
    ap (read_words (Wanted (Opens (Size kind before 0) ∷ pending))) (append_assoc (exp_words first) (codes "]" ∷ sizes_words rest) more)
    ∙ size_stands first here kind before pending (sizes_words rest ++ more)
    ∙ sizes_stand rest there kind (before ++ first ∷ []) pending more
    ∙ ap (λ sizes. read_words (Sized kind sizes 0 pending) more) (append_assoc before (first ∷ []) (list_of rest))

pairs_stand : (n more : ℕ) (kind : JType) (sizes : List Exp) (pending : List Pending) → more + n < 4294967296 → read_words (Sized kind sizes more pending) (pairs_words n) ≡ Sized kind sizes (more + n) pending
pairs_stand zero more kind sizes pending fits = ap (λ more. Sized kind sizes more pending) (omega arith)
pairs_stand (suc n) more kind sizes pending fits =
    let one : min (more + 1) 4294967295 ≡ more + 1 = omega arith in
    let same : more + 1 + n ≡ more + suc n = omega arith in
    ap (λ more. read_words (Sized kind sizes more pending) (pairs_words n)) one ∙ pairs_stand n (more + 1) kind sizes pending (omega arith) ∙ ap (λ more. Sized kind sizes more pending) same

new_array_stands : (kind : JType) (sizes : Exps) (more : ℕ) (pending : List Pending) → IsWellFormedExp (NewArray kind sizes more) → AreRead sizes → read_words (Wanted pending) (exp_words (NewArray kind sizes more)) ≡ Sized kind (list_of sizes) more pending
new_array_stands kind NoExps more pending well read = absurd (false≢true (sym well.2))
new_array_stands kind (AndExp first rest) more pending well (here, there) =
    let stands = type_name_stands kind (Joins Created ∷ pending) well.0 well.1 in
    let tail = codes "[" ∷ ((exp_words first ++ codes "]" ∷ sizes_words rest) ++ pairs_words more) in
    read_words-append (Wanted (Joins Created ∷ pending)) (type_words kind) tail
    ∙ ap (λ reading. read_words reading tail) stands.2
    ∙ ap (λ kind. read_words (Wanted (Opens (Size kind [] 0) ∷ pending)) ((exp_words first ++ codes "]" ∷ sizes_words rest) ++ pairs_words more)) stands.1
    ∙ ap (read_words (Wanted (Opens (Size kind [] 0) ∷ pending))) (append_assoc (exp_words first) (codes "]" ∷ sizes_words rest) (pairs_words more))
    ∙ size_stands first here kind [] pending (sizes_words rest ++ pairs_words more)
    ∙ sizes_stand rest there kind (first ∷ []) pending (pairs_words more)
    ∙ pairs_stand more 0 kind (first ∷ list_of rest) pending (omega arith)
    ∙ ap (λ more. Sized kind (first ∷ list_of rest) more pending) (omega arith)

new_array_ends : (kind : JType) (sizes : Exps) (more : ℕ) → IsWellFormedExp (NewArray kind sizes more) → AreRead sizes → IsEnded (NewArray kind sizes more) (exp_words (NewArray kind sizes more))
new_array_ends kind sizes more well read pending plain fresh outside =
    subst (IsWhole (NewArray kind sizes more) pending) (sym (new_array_stands kind sizes more pending well read))
    (record { ends = ap (λ list. Some (collapsed (NewArray kind list more) pending)) (exps_of-list_of sizes); closes = refl; indexes = refl; plainly = refl })

-- ---- operators

operand_operates : (operator : Op) (e : Exp) (pending : List Pending) (reading : Reading) → IsOperand e pending reading → operate operator reading ≡ join (λ left. LeftOf left operator) (standing reading)
operand_operates operator e pending reading (inl is) = rw is refl
operand_operates operator e pending reading (inr (inl is)) = rw is.2 refl
operand_operates operator e pending reading (inr (inr is)) = rw is.3 refl

-- an operator behind an operand waits for the right one
operator_joins : (operator : Op) (e : Exp) (pending : List Pending) (reading : Reading) → IsPlain pending → IsOperand e pending reading → read_word reading (operator_text operator) ≡ Wanted (Joins (LeftOf e operator) ∷ pending)
operator_joins operator e pending reading plain is =
    read_as (token.Operator operator) reading (operator_text operator) (operator_token operator)
    ∙ operand_operates operator e pending reading is
    ∙ ap (join (λ left. LeftOf left operator)) (operand_stands e pending reading plain is)

binary_ends : (operator : Op) (left right : Exp) → IsRead left → IsRead right → IsEnded (Binary operator left right) (exp_words (Binary operator left right))
binary_ends operator left right read_left read_right pending plain fresh outside =
    let l = operand_words (is_atom (shape left)) (exp_words left) in
    let r = operand_words (is_atom (shape right)) (exp_words right) in
    let inner = Joins (LeftOf left operator) ∷ pending in
    subst (IsWhole (Binary operator left right) pending)
    (sym (read_words-append (Wanted pending) l (operator_text operator ∷ r)
    ∙ ap (λ reading. read_words reading r) (operator_joins operator left pending (read_words (Wanted pending) l) plain (operand_given left read_left pending plain))))
    (joined_is_whole (LeftOf left operator) right (Binary operator left right) pending (read_words (Wanted inner) r) refl (refl, refl) (operand_given right read_right inner (refl, refl)))

not_ends : (e : Exp) → IsRead e → IsEnded (Not e) (exp_words (Not e))
not_ends e read pending plain fresh outside =
    let inner = Joins Inverted ∷ pending in
    joined_is_whole Inverted e (Not e) pending (read_words (Wanted inner) (operand_words (is_atom (shape e)) (exp_words e))) refl (refl, refl) (operand_given e read inner (refl, refl))

-- a type behind `instanceof`
test_is_whole : (e : Exp) (kind : JType) (pending : List Pending) (reading : Reading) → IsType kind (Joins (TypeTested e) ∷ pending) reading → IsWhole (InstanceOf e kind) pending reading
test_is_whole e kind pending reading (inl is) =
    subst (IsWhole (InstanceOf e kind) pending) (sym is.2)
    (record { ends = ap (λ kind. Some (collapsed (InstanceOf e kind) pending)) is.1; closes = refl; indexes = refl; plainly = refl })
test_is_whole e kind pending reading (inr is) =
    subst (IsWhole (InstanceOf e kind) pending) (sym is) (record { ends = refl; closes = refl; indexes = refl; plainly = refl })

test_ends : (e : Exp) (kind : JType) → IsRead e → IsNamed kind → IsEnded (InstanceOf e kind) (exp_words (InstanceOf e kind))
test_ends e kind read named pending plain fresh outside =
    let o = operand_words (is_atom (shape e)) (exp_words e) in
    let inner = Joins (TypeTested e) ∷ pending in
    subst (IsWhole (InstanceOf e kind) pending)
    (sym (read_words-append (Wanted pending) o (codes "instanceof" ∷ type_words kind)
    ∙ ap (λ reading. read_words reading (type_words kind)) (ap (join TypeTested) (operand_stands e pending (read_words (Wanted pending) o) plain (operand_given e read pending plain)))))
    (test_is_whole e kind pending (read_words (Wanted inner) (type_words kind)) (type_stands kind inner named refl))

-- a colon behind the first part of a choice
colon_answers : (test first : Exp) (pending : List Pending) (reading : Reading) → IsOperand first (Joins (Asked test) ∷ pending) reading → colon reading ≡ Wanted (Joins (Answered test first) ∷ pending)
colon_answers test first pending reading (inl is) = rw is refl
colon_answers test first pending reading (inr (inl is)) = rw is.2 (ap (λ first. Wanted (Joins (Answered test first) ∷ pending)) is.1)
colon_answers test first pending reading (inr (inr is)) = rw is.3 (ap (λ first. Wanted (Joins (Answered test first) ∷ pending)) is.2)

choice_ends : (test first second : Exp) → IsRead test → IsRead first → IsRead second → IsEnded (Choice test first second) (exp_words (Choice test first second))
choice_ends test first second read_test read_first read_second pending plain fresh outside =
    let a = operand_words (is_atom (shape test)) (exp_words test) in
    let b = operand_words (is_atom (shape first)) (exp_words first) in
    let c = operand_words (is_atom (shape second)) (exp_words second) in
    let asked = Joins (Asked test) ∷ pending in
    let answered = Joins (Answered test first) ∷ pending in
    subst (IsWhole (Choice test first second) pending)
    (sym (read_words-append (Wanted pending) a (codes "?" ∷ (b ++ codes ":" ∷ c))
    ∙ ap (λ reading. read_words reading (b ++ codes ":" ∷ c)) (ap (join Asked) (operand_stands test pending (read_words (Wanted pending) a) plain (operand_given test read_test pending plain)))
    ∙ read_words-append (Wanted asked) b (codes ":" ∷ c)
    ∙ ap (λ reading. read_words reading c) (colon_answers test first pending (read_words (Wanted asked) b) (operand_given first read_first asked (refl, refl)))))
    (joined_is_whole (Answered test first) second (Choice test first second) pending (read_words (Wanted answered) c) refl (refl, refl) (operand_given second read_second answered (refl, refl)))

assign_ends : (variable : Var) (e : Exp) → variable.number < 2 ^ 32 → IsRead e → IsEnded (Assign variable e) (exp_words (Assign variable e))
assign_ends variable e fits read pending plain fresh outside =
    let inner = Joins (Assigned variable) ∷ pending in
    subst (IsWhole (Assign variable e) pending)
    (sym (ap (λ reading. read_words (assigns reading) (exp_words e)) (read_as token.Name (Wanted pending) (variable_name variable) (variable_token variable))
    ∙ ap (λ stands. read_words (assign stands) (exp_words e)) (named_stands variable pending fits plain)
    ∙ ap (λ start. read_words (assign_value (Variable variable) pending start) (exp_words e)) fresh))
    (whole_behind (Assigned variable) e (Assign variable e) pending (read_words (Wanted inner) (exp_words e)) refl (read.ends inner (refl, refl) refl (λ is. refl)))
  where
    named_stands : (variable : Var) (pending : List Pending) → variable.number < 2 ^ 32 → IsPlain pending → standing (Named (begun (variable_name variable)) pending) ≡ Some (Variable variable, pending)
    named_stands variable pending fits plain =
        rw plain.0 (ap (λ value. Some (value_or value (Static [] (variable_name variable)), pending)) (variable_value variable fits))

-- ---- casts and minus signs

-- what a type in parentheses leaves to wait for its operand
cast_waits : (kind : JType) (pending : List Pending) (more : Words) → IsNamed kind → (joint : Joint) × ((e : Exp) → joined joint e ≡ Cast kind e) × (read_words (Wanted pending) (enclosed (type_words kind) ++ more) ≡ read_words (Wanted (Joins joint ∷ pending)) more) × IsPlain (Joins joint ∷ pending)
cast_waits kind pending more named = go (type_stands kind (Opens Parenthesis ∷ pending) named refl)
  where
    go : IsType kind (Opens Parenthesis ∷ pending) (read_words (Wanted (Opens Parenthesis ∷ pending)) (type_words kind)) → (joint : Joint) × ((e : Exp) → joined joint e ≡ Cast kind e) × (read_words (Wanted pending) (enclosed (type_words kind) ++ more) ≡ read_words (Wanted (Joins joint ∷ pending)) more) × IsPlain (Joins joint ∷ pending)
    go (inl is) = (
      Enclosed is.0,
      λ e. ap (λ kind. Cast kind e) is.1,
      read_words-append (Wanted pending) (enclosed (type_words kind)) more
          ∙ ap (λ reading. read_words reading more) (read_words-append (Wanted (Opens Parenthesis ∷ pending)) (type_words kind) (codes ")" ∷ []) ∙ ap (λ reading. read_words reading (codes ")" ∷ [])) is.2),
      (refl, refl),
    )
    go (inr is) = (
      Converted kind,
      λ e. refl,
      read_words-append (Wanted pending) (enclosed (type_words kind)) more
          ∙ ap (λ reading. read_words reading more) (read_words-append (Wanted (Opens Parenthesis ∷ pending)) (type_words kind) (codes ")" ∷ []) ∙ ap (λ reading. read_words reading (codes ")" ∷ [])) is),
      (refl, refl),
    )

cast_ends : (kind : JType) (e : Exp) → IsNamed kind → IsRead e → IsEnded (Cast kind e) (exp_words (Cast kind e))
cast_ends kind e named read pending plain fresh outside =
    let o = operand_words (is_atom (shape e)) (exp_words e) in
    let waits = cast_waits kind pending o named in
    let inner = Joins waits.0 ∷ pending in
    subst (IsWhole (Cast kind e) pending) (sym waits.2)
    (joined_is_whole waits.0 e (Cast kind e) pending (read_words (Wanted inner) o) (ap (λ value. collapsed value pending) (waits.1 e)) waits.3 (operand_given e read inner waits.3))

-- words behind a minus sign are read as behind one that waits: before a number it is a sign, and else an operator
abbrev StartsBehindMinus : Words → Type 0
StartsBehindMinus list =
    (pending : List Pending) → (read_words (Negation pending) list ≡ read_words (Wanted (Joins Sign ∷ pending)) list) ⊎ (read_words (Negation pending) list ≡ read_words (Wanted (Joins Negated ∷ pending)) list)

front_starts : (front back : Words) → StartsBehindMinus front → StartsBehindMinus (front ++ back)
front_starts front back starts pending = go (starts pending)
  where
    go : (read_words (Negation pending) front ≡ read_words (Wanted (Joins Sign ∷ pending)) front) ⊎ (read_words (Negation pending) front ≡ read_words (Wanted (Joins Negated ∷ pending)) front)
        → (read_words (Negation pending) (front ++ back) ≡ read_words (Wanted (Joins Sign ∷ pending)) (front ++ back)) ⊎ (read_words (Negation pending) (front ++ back) ≡ read_words (Wanted (Joins Negated ∷ pending)) (front ++ back))
    go (inl is) = inl (read_words-append (Negation pending) front back ∙ ap (λ reading. read_words reading back) is ∙ sym (read_words-append (Wanted (Joins Sign ∷ pending)) front back))
    go (inr is) = inr (read_words-append (Negation pending) front back ∙ ap (λ reading. read_words reading back) is ∙ sym (read_words-append (Wanted (Joins Negated ∷ pending)) front back))

number_starts : (word : List ℕ) (rest : Words) → token_of word ≡ token.Number → StartsBehindMinus (word ∷ rest)
number_starts word rest is pending =
    inl (ap (λ reading. read_words reading rest) (read_as token.Number (Negation pending) word is ∙ sym (read_as token.Number (Wanted (Joins Sign ∷ pending)) word is)))

name_starts : (word : List ℕ) (rest : Words) → token_of word ≡ token.Name → StartsBehindMinus (word ∷ rest)
name_starts word rest is pending =
    inr (ap (λ reading. read_words reading rest) (read_as token.Name (Negation pending) word is ∙ sym (read_as token.Name (Wanted (Joins Negated ∷ pending)) word is)))

class_starts : (class : List ℕ) → IsQualified class → StartsBehindMinus (name_words class)
class_starts class named =
    let parts = parts_of class in
    subst (λ segments. StartsBehindMinus (dotted_words segments)) (sym parts.are)
    (name_starts parts.first (after_dots parts.rest) (token_of-identifier parts.first (first_segment class parts named)))

type_starts : (kind : JType) → IsNamed kind → StartsBehindMinus (type_words kind)
type_starts Boolean named = λ pending. inr refl
type_starts Byte named = λ pending. inr refl
type_starts Char named = λ pending. inr refl
type_starts Short named = λ pending. inr refl
type_starts types.Int named = λ pending. inr refl
type_starts types.Long named = λ pending. inr refl
type_starts Float named = λ pending. inr refl
type_starts Double named = λ pending. inr refl
type_starts (Class class) named = class_starts class named
type_starts (Array element) named = front_starts (type_words element) (codes "[" ∷ codes "]" ∷ []) (type_starts element named)

operand_starts : (bare : Bool) (list : Words) → (bare ≡ true → StartsBehindMinus list) → StartsBehindMinus (operand_words bare list)
operand_starts true list starts = starts refl
operand_starts false list starts = λ pending. inr refl

super_starts : (above : Option (List ℕ)) → IfSome above IsQualified → StartsBehindMinus (super_words above)
super_starts None named = λ pending. inr refl
super_starts (Some interface) named = front_starts (name_words interface) (codes "." ∷ codes "super" ∷ []) (class_starts interface named)

int_starts : (value : ℤ) → is_atom (number_shape value) ≡ true → StartsBehindMinus (int_words value)
int_starts (pos n) atom = number_starts (decimal n) [] (number_token n)
int_starts (negsuc n) atom = absurd (false≢true atom)

long_starts : (value : ℤ) → is_atom (number_shape value) ≡ true → StartsBehindMinus (long_words value)
long_starts (pos n) atom = number_starts (decimal n ++ codes "L") [] (long_token n)
long_starts (negsuc n) atom = absurd (false≢true atom)

truth_starts : (value : Bool) → StartsBehindMinus (truth_text value ∷ [])
truth_starts true = λ pending. inr refl
truth_starts false = λ pending. inr refl

-- an atom behind a minus sign
atom_starts : (e : Exp) → IsWellFormedExp e → is_atom (shape e) ≡ true → StartsBehindMinus (exp_words e)
atom_starts (trees.Int value) well atom = int_starts value atom
atom_starts (trees.Long value) well atom = long_starts value atom
atom_starts (Text units) well atom = λ pending. inr refl
atom_starts (Truth value) well atom = truth_starts value
atom_starts Null well atom = λ pending. inr refl
atom_starts This well atom = λ pending. inr refl
atom_starts (Variable variable) well atom = name_starts (variable_name variable) [] (variable_token variable)
atom_starts (ClassOf kind) well atom = front_starts (type_words kind) (codes "." ∷ codes "class" ∷ []) (type_starts kind well)
atom_starts (Field object name) well atom =
    front_starts (operand_words (is_receiver (shape object)) (exp_words object)) (codes "." ∷ name ∷ [])
    (operand_starts (is_receiver (shape object)) (exp_words object) (λ is. atom_starts object well.0 (receiver_atom (shape object) is)))
atom_starts (Static class name) well atom = front_starts (name_words class) (codes "." ∷ name ∷ []) (class_starts class (sayable_name class well.0))
atom_starts (Element array index) well atom =
    front_starts (operand_words (is_atom (shape array)) (exp_words array)) (codes "[" ∷ (exp_words index ++ codes "]" ∷ []))
    (operand_starts (is_atom (shape array)) (exp_words array) (atom_starts array well.0))
atom_starts (Call object name arguments) well atom =
    front_starts (operand_words (is_receiver (shape object)) (exp_words object)) (codes "." ∷ name ∷ enclosed (arguments_words arguments))
    (operand_starts (is_receiver (shape object)) (exp_words object) (λ is. atom_starts object well.0 (receiver_atom (shape object) is)))
atom_starts (StaticCall class name arguments) well atom = front_starts (name_words class) (codes "." ∷ name ∷ enclosed (arguments_words arguments)) (class_starts class (sayable_name class well.0))
atom_starts (SuperCall above name arguments) well atom = front_starts (super_words above) (codes "." ∷ name ∷ enclosed (arguments_words arguments)) (super_starts above well.0)
atom_starts (New class arguments) well atom = absurd (false≢true atom)
atom_starts (NewArray kind sizes more) well atom = absurd (false≢true atom)
atom_starts (Cast kind value) well atom = absurd (false≢true atom)
atom_starts (InstanceOf value kind) well atom = absurd (false≢true atom)
atom_starts (Negative value) well atom = absurd (false≢true atom)
atom_starts (Not value) well atom = absurd (false≢true atom)
atom_starts (Binary operator left right) well atom = absurd (false≢true atom)
atom_starts (Choice test first second) well atom = absurd (false≢true atom)
atom_starts (Assign variable value) well atom = absurd (false≢true atom)

signed_number : (value : ℤ) → is_negated (number_shape value) ≡ true → ⊥
signed_number (pos n) is = false≢true is
signed_number (negsuc n) is = false≢true is

-- a sign before what is no number is an operator
signed_other : (e : Exp) → is_negated (shape e) ≡ true → signed e ≡ Negative e
signed_other (trees.Int value) is = absurd (signed_number value is)
signed_other (trees.Long value) is = absurd (signed_number value is)
signed_other (Text units) is = refl
signed_other (Truth value) is = refl
signed_other Null is = refl
signed_other This is = refl
signed_other (Variable variable) is = refl
signed_other (ClassOf kind) is = refl
signed_other (Field object name) is = refl
signed_other (Static class name) is = refl
signed_other (Element array index) is = refl
signed_other (Call object name arguments) is = refl
signed_other (StaticCall class name arguments) is = refl
signed_other (SuperCall above name arguments) is = refl
signed_other (New class arguments) is = refl
signed_other (NewArray kind sizes more) is = refl
signed_other (Cast kind value) is = refl
signed_other (InstanceOf value kind) is = refl
signed_other (Negative value) is = refl
signed_other (Not value) is = refl
signed_other (Binary operator left right) is = refl
signed_other (Choice test first second) is = refl
signed_other (Assign variable value) is = refl

negative_ends : (e : Exp) → IsWellFormedExp e → IsRead e → IsEnded (Negative e) (exp_words (Negative e))
negative_ends e well read pending plain fresh outside = go (is_negated (shape e)) refl
  where
    behind : is_negated (shape e) ≡ true → (read_words (Negation pending) (exp_words e) ≡ read_words (Wanted (Joins Sign ∷ pending)) (exp_words e)) ⊎ (read_words (Negation pending) (exp_words e) ≡ read_words (Wanted (Joins Negated ∷ pending)) (exp_words e)) → IsWhole (Negative e) pending (read_words (Negation pending) (exp_words e))
    behind is (inl same) =
        subst (IsWhole (Negative e) pending) (sym same)
        (joined_is_whole Sign e (Negative e) pending (read_words (Wanted (Joins Sign ∷ pending)) (exp_words e)) (ap (λ value. collapsed value pending) (signed_other e is)) (refl, refl) (read.given (negated_atom (shape e) is) (Joins Sign ∷ pending) (refl, refl)))
    behind is (inr same) =
        subst (IsWhole (Negative e) pending) (sym same)
        (joined_is_whole Negated e (Negative e) pending (read_words (Wanted (Joins Negated ∷ pending)) (exp_words e)) refl (refl, refl) (read.given (negated_atom (shape e) is) (Joins Negated ∷ pending) (refl, refl)))

    go : (bare : Bool) → is_negated (shape e) ≡ bare → IsWhole (Negative e) pending (read_words (Negation pending) (operand_words bare (exp_words e)))
    go true is = behind is (atom_starts e well (negated_atom (shape e) is) pending)
    go false is =
        joined_is_whole Negated e (Negative e) pending (read_words (Negation pending) (enclosed (exp_words e))) refl (refl, refl)
        (inl (in_parentheses e (Joins Negated ∷ pending) read.ends is))

-- ---- elements

element_given : (array index : Exp) → IsRead array → IsRead index → IsGiven (Element array index) (exp_words (Element array index))
element_given array index read_array read_index pending plain =
    let o = operand_words (is_atom (shape array)) (exp_words array) in
    let opens = bracket_opens array pending (read_words (Wanted pending) o) plain (operand_given array read_array pending plain) in
    let inner = Opens opens.0 ∷ pending in
    let whole = read_index.ends inner (refl, refl) (rw opens.4 refl) (λ is. rw opens.3 refl) in
    inl (read_words-append (Wanted pending) o (codes "[" ∷ (exp_words index ++ codes "]" ∷ []))
    ∙ ap (λ reading. read_words reading (exp_words index ++ codes "]" ∷ [])) opens.1
    ∙ read_words-append (Wanted inner) (exp_words index) (codes "]" ∷ [])
    ∙ whole.indexes ∙ ap index_ended whole.ends ∙ opens.2 index)

-- ---- expressions

mutual
  -- a well formed expression is read from its words
  pub exp_read : (e : Exp) → IsWellFormedExp e → IsRead e
  exp_read (trees.Int value) well = int_read value well
  exp_read (trees.Long value) well = long_read value well
  exp_read (Text units) well = value_read (Text units) refl refl (λ pending. ap (λ units. Stands (Text units) pending) (unquoted-quoted units well))
  exp_read (Truth value) well = truth_read value
  exp_read Null well = value_read Null refl refl (λ pending. refl)
  exp_read This well = value_read This refl refl (λ pending. refl)
  exp_read (Variable variable) well = atom_read (Variable variable) refl refl (variable_given variable well)
  exp_read (ClassOf kind) well = atom_read (ClassOf kind) refl refl (class_given kind well)
  exp_read (Field object name) well =
      let read = exp_read object well.0 in
      atom_read (Field object name) refl refl (λ pending plain.
      member_is_operand object name pending (read_words (Wanted pending) (exp_words (Field object name))) (receiver_stands object name read well.1 pending plain))
  exp_read (Static class name) well = static_read class name well.0 well.1
  exp_read (Element array index) well = atom_read (Element array index) refl refl (element_given array index (exp_read array well.0) (exp_read index well.1))
  exp_read (Call object name arguments) well = atom_read (Call object name arguments) refl refl (object_call_given object name arguments (exp_read object well.0) well.1 (exps_read arguments well.2))
  exp_read (StaticCall class name arguments) well = atom_read (StaticCall class name arguments) refl refl (static_call_given class name arguments well.0 well.1 (exps_read arguments well.2))
  exp_read (SuperCall above name arguments) well = atom_read (SuperCall above name arguments) refl refl (super_call_given above name arguments well.0 well.1 (exps_read arguments well.2))
  exp_read (New class arguments) well = new_read class arguments well.0 (exps_read arguments well.1)
  exp_read (NewArray kind sizes more) well = compound_read (NewArray kind sizes more) refl refl (new_array_ends kind sizes more well (exps_read sizes well.3))
  exp_read (Cast kind value) well = compound_read (Cast kind value) refl refl (cast_ends kind value well.0 (exp_read value well.1))
  exp_read (InstanceOf value kind) well = compound_read (InstanceOf value kind) refl refl (test_ends value kind (exp_read value well.0) well.1)
  exp_read (Negative value) well = compound_read (Negative value) refl refl (negative_ends value well (exp_read value well))
  exp_read (Not value) well = compound_read (Not value) refl refl (not_ends value (exp_read value well))
  exp_read (Binary operator left right) well = compound_read (Binary operator left right) refl refl (binary_ends operator left right (exp_read left well.0) (exp_read right well.1))
  exp_read (Choice test first second) well = compound_read (Choice test first second) refl refl (choice_ends test first second (exp_read test well.0) (exp_read first well.1) (exp_read second well.2))
  exp_read (Assign variable value) well = compound_read (Assign variable value) refl refl (assign_ends variable value well.0 (exp_read value well.1))

  -- expressions, each well formed, are read
  pub exps_read : (list : Exps) → AreWellFormedExps list → AreRead list
  exps_read NoExps well = tt
  exps_read (AndExp first rest) well = (exp_read first well.0, exps_read rest well.1)
