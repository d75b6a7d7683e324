-- No word of an expression ends or begins a statement: keywords of statements, semicolons and braces are none of its words.
use Rattle.std.proofs.Common.{◌≡◌, ℕ, zero, suc, Bool, true, false, List, [], ◌∷◌, ◌++◌, refl, sym, ap, ◌∙◌, subst}
use Rattle.std.specs.Prelude.{codes, ℤ, pos, negsuc, Option, Some, None, IfSome}
use Rattle.std.specs.List.{AllByRecursion}
use Rattle.std.specs.Fmt.{decimal}
use Rattle.dj_names.specs.ClassNames.{segments}
use Rattle.dj_names.specs.Identifiers.{IsIdentifier}
use Rattle.dj_names.specs.Types.{JType, Boolean, Byte, Char, Short, Float, Double, Class, Array}
use Rattle.dj_names.specs.Types as types
use Rattle.dj_syntax.specs.Trees.{Exp, Text, Truth, Null, This, Variable, ClassOf, Field, Static, Element, Call, StaticCall, SuperCall, New, NewArray, Cast, InstanceOf, Negative, Not, Binary, Choice, Assign, Exps, NoExps, AndExp}
use Rattle.dj_syntax.specs.Trees as trees
use Rattle.dj_syntax.specs.UnitText.{variable_name, operator_text, shape, is_atom, is_receiver, is_negated, truth_text}
use Rattle.dj_syntax.specs.WellFormed.{IsQualified, IsNamed, IsWellFormedExp, AreWellFormedExps}
use Rattle.dj_tokens.specs.declared.tokens.Token.{Token}
use Rattle.dj_tokens.specs.declared.tokens.Token.TheVariants as token
use Rattle.dj_tokens.specs.Words.{Words}
use Rattle.dj_tokens.specs.Tokens.{token_of}
use Rattle.dj_grammar.proofs.IdentifiersAreWords.{token_of-identifier}
use Rattle.dj_grammar.proofs.NamesAreRead.{after_dots, dotted_words, name_words, parts_of}
use Rattle.dj_grammar.proofs.TypesAreRead.{type_words}
use Rattle.dj_grammar.proofs.ExpressionWords.{enclosed, operand_words, int_words, long_words, super_words, pairs_words, exp_words, arguments_words, more_words, sizes_words}
use Rattle.dj_grammar.proofs.ExpressionsAreSpelled.{sayable_name}
use Rattle.dj_grammar.proofs.TokensAreRead.{number_token, long_token, variable_token, operator_token}

-- whether a token is one of expressions
abbrev pub is_plain : Token → Bool
is_plain token.Open = true
is_plain token.Close = true
is_plain token.OpenBracket = true
is_plain token.CloseBracket = true
is_plain token.Comma = true
is_plain token.Dot = true
is_plain token.Colon = true
is_plain token.Question = true
is_plain token.Semicolon = false
is_plain token.OpenBrace = false
is_plain token.CloseBrace = false
is_plain token.Assigns = true
is_plain token.Bang = true
is_plain (token.Operator operator) = true
is_plain token.Number = true
is_plain token.Text = true
is_plain token.True = true
is_plain token.False = true
is_plain token.Null = true
is_plain token.This = true
is_plain token.New = true
is_plain token.InstanceOf = true
is_plain token.Class = true
is_plain token.Name = true
is_plain token.Return = false
is_plain token.If = false
is_plain token.Else = false
is_plain token.While = false
is_plain token.Do = false
is_plain token.For = false
is_plain token.Switch = false
is_plain token.Case = false
is_plain token.Default = false
is_plain token.Break = false
is_plain token.Continue = false
is_plain token.Throw = false
is_plain token.Try = false
is_plain token.Catch = false
is_plain token.Finally = false
is_plain token.Synchronized = false

-- each word is one of expressions
abbrev pub ArePlain : Words → Type 0
ArePlain = AllByRecursion (λ word. is_plain (token_of word) ≡ true)

pub plain_append : (front back : Words) → ArePlain front → ArePlain back → ArePlain (front ++ back)
plain_append [] back are others = others
plain_append (word ∷ rest) back (here, there) others = (here, plain_append rest back there others)

pub enclosed_plain : (inside : Words) → ArePlain inside → ArePlain (enclosed inside)
enclosed_plain inside are = (refl, plain_append inside (codes ")" ∷ []) are (refl, tt))

operand_plain : (bare : Bool) (inside : Words) → ArePlain inside → ArePlain (operand_words bare inside)
operand_plain true inside are = are
operand_plain false inside are = enclosed_plain inside are

pub identifier_plain : (name : List ℕ) → IsIdentifier name → is_plain (token_of name) ≡ true
identifier_plain name identifier = ap is_plain (token_of-identifier name identifier)

dots_plain : (parts : List (List ℕ)) → AllByRecursion IsIdentifier parts → ArePlain (after_dots parts)
dots_plain [] are = tt
dots_plain (segment ∷ rest) (here, there) = (refl, (identifier_plain segment here, dots_plain rest there))

dotted_plain : (parts : List (List ℕ)) → AllByRecursion IsIdentifier parts → ArePlain (dotted_words parts)
dotted_plain [] are = tt
dotted_plain (first ∷ rest) (here, there) = (identifier_plain first here, dots_plain rest there)

pub name_plain : (name : List ℕ) → IsQualified name → ArePlain (name_words name)
name_plain name named = dotted_plain (segments name) named

pub type_plain : (kind : JType) → IsNamed kind → ArePlain (type_words kind)
type_plain Boolean named = (refl, tt)
type_plain Byte named = (refl, tt)
type_plain Char named = (refl, tt)
type_plain Short named = (refl, tt)
type_plain types.Int named = (refl, tt)
type_plain types.Long named = (refl, tt)
type_plain Float named = (refl, tt)
type_plain Double named = (refl, tt)
type_plain (Class name) named = name_plain name named
type_plain (Array element) named = plain_append (type_words element) (codes "[" ∷ codes "]" ∷ []) (type_plain element named) (refl, (refl, tt))

pub int_plain : (value : ℤ) → ArePlain (int_words value)
int_plain (pos n) = (ap is_plain (number_token n), tt)
int_plain (negsuc n) = (refl, (ap is_plain (number_token (suc n)), tt))

long_plain : (value : ℤ) → ArePlain (long_words value)
long_plain (pos n) = (ap is_plain (long_token n), tt)
long_plain (negsuc n) = (refl, (ap is_plain (long_token (suc n)), tt))

truth_plain : (value : Bool) → ArePlain (truth_text value ∷ [])
truth_plain true = (refl, tt)
truth_plain false = (refl, tt)

super_plain : (above : Option (List ℕ)) → IfSome above IsQualified → ArePlain (super_words above)
super_plain None named = (refl, tt)
super_plain (Some interface) named = plain_append (name_words interface) (codes "." ∷ codes "super" ∷ []) (name_plain interface named) (refl, (refl, tt))

pairs_plain : (n : ℕ) → ArePlain (pairs_words n)
pairs_plain zero = tt
pairs_plain (suc n) = (refl, (refl, pairs_plain n))

mutual
  -- each word of a well formed expression is one of expressions
  pub exp_plain : (e : Exp) → IsWellFormedExp e → ArePlain (exp_words e)
  exp_plain (trees.Int value) well = int_plain value
  exp_plain (trees.Long value) well = long_plain value
  exp_plain (Text units) well = (refl, tt)
  exp_plain (Truth value) well = truth_plain value
  exp_plain Null well = (refl, tt)
  exp_plain This well = (refl, tt)
  exp_plain (Variable variable) well = (ap is_plain (variable_token variable), tt)
  exp_plain (ClassOf kind) well = plain_append (type_words kind) (codes "." ∷ codes "class" ∷ []) (type_plain kind well) (refl, (refl, tt))
  exp_plain (Field object name) well =
      plain_append (operand_words (is_receiver (shape object)) (exp_words object)) (codes "." ∷ name ∷ []) (operand_plain (is_receiver (shape object)) (exp_words object) (exp_plain object well.0)) (refl, (identifier_plain name well.1, tt))
  exp_plain (Static class name) well = plain_append (name_words class) (codes "." ∷ name ∷ []) (name_plain class (sayable_name class well.0)) (refl, (identifier_plain name well.1, tt))
  exp_plain (Element array index) well =
      plain_append (operand_words (is_atom (shape array)) (exp_words array)) (codes "[" ∷ (exp_words index ++ codes "]" ∷ [])) (operand_plain (is_atom (shape array)) (exp_words array) (exp_plain array well.0))
      (refl, plain_append (exp_words index) (codes "]" ∷ []) (exp_plain index well.1) (refl, tt))
  exp_plain (Call object name arguments) well =
      plain_append (operand_words (is_receiver (shape object)) (exp_words object)) (codes "." ∷ name ∷ enclosed (arguments_words arguments)) (operand_plain (is_receiver (shape object)) (exp_words object) (exp_plain object well.0))
      (refl, (identifier_plain name well.1, enclosed_plain (arguments_words arguments) (arguments_plain arguments well.2)))
  exp_plain (StaticCall class name arguments) well =
      plain_append (name_words class) (codes "." ∷ name ∷ enclosed (arguments_words arguments)) (name_plain class (sayable_name class well.0))
      (refl, (identifier_plain name well.1, enclosed_plain (arguments_words arguments) (arguments_plain arguments well.2)))
  exp_plain (SuperCall above name arguments) well =
      plain_append (super_words above) (codes "." ∷ name ∷ enclosed (arguments_words arguments)) (super_plain above well.0)
      (refl, (identifier_plain name well.1, enclosed_plain (arguments_words arguments) (arguments_plain arguments well.2)))
  exp_plain (New class arguments) well =
      (refl, plain_append (name_words class) (enclosed (arguments_words arguments)) (name_plain class well.0) (enclosed_plain (arguments_words arguments) (arguments_plain arguments well.1)))
  exp_plain (NewArray kind sizes more) well =
      (refl, plain_append (type_words kind) (sizes_words sizes ++ pairs_words more) (type_plain kind well.0) (plain_append (sizes_words sizes) (pairs_words more) (sizes_plain sizes well.3) (pairs_plain more)))
  exp_plain (Cast kind value) well =
      plain_append (enclosed (type_words kind)) (operand_words (is_atom (shape value)) (exp_words value)) (enclosed_plain (type_words kind) (type_plain kind well.0)) (operand_plain (is_atom (shape value)) (exp_words value) (exp_plain value well.1))
  exp_plain (InstanceOf value kind) well =
      plain_append (operand_words (is_atom (shape value)) (exp_words value)) (codes "instanceof" ∷ type_words kind) (operand_plain (is_atom (shape value)) (exp_words value) (exp_plain value well.0)) (refl, type_plain kind well.1)
  exp_plain (Negative value) well = (refl, operand_plain (is_negated (shape value)) (exp_words value) (exp_plain value well))
  exp_plain (Not value) well = (refl, operand_plain (is_atom (shape value)) (exp_words value) (exp_plain value well))
  exp_plain (Binary operator left right) well =
      plain_append (operand_words (is_atom (shape left)) (exp_words left)) (operator_text operator ∷ operand_words (is_atom (shape right)) (exp_words right)) (operand_plain (is_atom (shape left)) (exp_words left) (exp_plain left well.0))
      (ap is_plain (operator_token operator), operand_plain (is_atom (shape right)) (exp_words right) (exp_plain right well.1))
  exp_plain (Choice test first second) well =
      let b = operand_words (is_atom (shape first)) (exp_words first) in
      let c = operand_words (is_atom (shape second)) (exp_words second) in
      plain_append (operand_words (is_atom (shape test)) (exp_words test)) (codes "?" ∷ (b ++ codes ":" ∷ c)) (operand_plain (is_atom (shape test)) (exp_words test) (exp_plain test well.0))
      (refl, plain_append b (codes ":" ∷ c) (operand_plain (is_atom (shape first)) (exp_words first) (exp_plain first well.1)) (refl, operand_plain (is_atom (shape second)) (exp_words second) (exp_plain second well.2)))
  exp_plain (Assign variable value) well = (ap is_plain (variable_token variable), (refl, exp_plain value well.1))

  pub arguments_plain : (list : Exps) → AreWellFormedExps list → ArePlain (arguments_words list)
  arguments_plain NoExps well = tt
  arguments_plain (AndExp first rest) well = plain_append (exp_words first) (more_words rest) (exp_plain first well.0) (more_plain rest well.1)

  more_plain : (list : Exps) → AreWellFormedExps list → ArePlain (more_words list)
  more_plain NoExps well = tt
  more_plain (AndExp first rest) well = (refl, plain_append (exp_words first) (more_words rest) (exp_plain first well.0) (more_plain rest well.1))

  sizes_plain : (list : Exps) → AreWellFormedExps list → ArePlain (sizes_words list)
  sizes_plain NoExps well = tt
  sizes_plain (AndExp first rest) well = (refl, plain_append (exp_words first) (codes "]" ∷ sizes_words rest) (exp_plain first well.0) (refl, sizes_plain rest well.1))
