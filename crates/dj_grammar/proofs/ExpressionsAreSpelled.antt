-- The text of a well formed expression falls into its words.
use Rattle.std.proofs.Common.{◌≡◌, ℕ, zero, suc, Bool, true, false, List, [], ◌∷◌, ◌++◌, refl, sym, ap, ◌∙◌, append_assoc, append-nil}
use Rattle.std.specs.Prelude.{codes, ℤ, pos, negsuc, Option, Some, None, IfSome}
use Rattle.std.specs.Fmt.{decimal}
use Rattle.std.proofs.lemmas.Bool.{false≢true}
use Rattle.std.proofs.lemmas.List.Elements.{recursion_from_All}
use Rattle.dj_names.specs.Identifiers.{IsIdentifier}
use Rattle.dj_names.specs.ClassNames.{segments}
use Rattle.dj_names.specs.Sayable.{IsSayable}
use Rattle.dj_names.specs.Types.{JType, Boolean, Byte, Char, Short, Float, Double, Class, Array}
use Rattle.dj_names.specs.Types as types
use Rattle.dj_syntax.specs.declared.operator.Op.{Op}
use Rattle.dj_syntax.specs.declared.operator.Op.TheVariants as op
use Rattle.dj_syntax.specs.declared.shape.Shape.{Shape}
use Rattle.dj_syntax.specs.declared.shape.Shape.TheVariants.{Numeral, StaticField, Atom, Compound}
use Rattle.dj_syntax.specs.Items.{Item, Word, Space, Quoted, render, token_text}
use Rattle.dj_syntax.specs.Trees.{Exp, Text, Truth, Null, This, Variable, ClassOf, Field, Static, Element, Call, StaticCall, SuperCall, New, NewArray, Cast, InstanceOf, Negative, Not, Binary, Choice, Assign, Exps, NoExps, AndExp, CompilationUnit}
use Rattle.dj_syntax.specs.Trees as trees
use Rattle.dj_syntax.specs.UnitText.{full_names, word, sign, dotted, variable_name, operator_text, number_shape, shape, is_atom, is_receiver, is_negated, parenthesised, operand, int_items, long_items, truth_text, super_items, pairs_items, type_items, exp_items, arguments_items, more_arguments, sizes_items}
use Rattle.dj_syntax.specs.WellFormed.{IsQualified, IsNamed, IsWellFormedExp, AreWellFormedExps}
use Rattle.dj_tokens.specs.Words.{Words, words, begins, is_letter, is_operator}
use Rattle.dj_tokens.proofs.WordsLemmas.{IsRun}
use Rattle.dj_tokens.proofs.Runs.{identifier_run, decimal_run, long_run, variable_run, run_no_operator}
use Rattle.dj_grammar.proofs.NamesAreRead.{name_words, parts_of}
use Rattle.dj_grammar.proofs.TypesAreRead.{type_words, first_segment}
use Rattle.dj_grammar.proofs.NamesAreSpelled.{name_is_spelled, type_is_spelled}
use Rattle.dj_grammar.proofs.Spelled.{then_text}
use Rattle.dj_grammar.proofs.ExpressionWords.{enclosed, operand_words, int_words, long_words, super_words, pairs_words, exp_words, arguments_words, more_words, sizes_words}
use Rattle.dj_grammar.proofs.Pieces.{Piece, IsApart, and_then, name_then, name_alone, operator_then, in_parentheses, operand_piece}
use Rattle.dj_grammar.proofs.QuotesAreRead.{quotation_is_word}

-- ---- literals and operators

-- an operator's spelling is a run of its characters
pub operator_run : (operator : Op) → IsRun is_operator (operator_text operator)
operator_run op.Mul = (refl, tt)
operator_run op.Div = (refl, tt)
operator_run op.Rem = (refl, tt)
operator_run op.Add = (refl, tt)
operator_run op.Sub = (refl, tt)
operator_run op.Shl = (refl, (refl, tt))
operator_run op.Shr = (refl, (refl, tt))
operator_run op.Ushr = (refl, (refl, (refl, tt)))
operator_run op.Lt = (refl, tt)
operator_run op.Le = (refl, (refl, tt))
operator_run op.Gt = (refl, tt)
operator_run op.Ge = (refl, (refl, tt))
operator_run op.Eq = (refl, (refl, tt))
operator_run op.Ne = (refl, (refl, tt))
operator_run op.And = (refl, tt)
operator_run op.Xor = (refl, tt)
operator_run op.Or = (refl, tt)
operator_run op.AndAlso = (refl, (refl, tt))
operator_run op.OrElse = (refl, (refl, tt))

digits_apart : (run : List ℕ) → IsRun is_letter run → (text : List ℕ) → begins is_letter text ≡ false → begins is_operator ((run ++ []) ++ text) ≡ false
digits_apart run is text ends = rw (append-nil run) (run_no_operator run text is)

-- an int literal is spelled as its words
pub int_is_spelled : (value : ℤ) → Piece (int_items value) (int_words value)
int_is_spelled (pos n) = name_alone (decimal n) (decimal_run n)
int_is_spelled (negsuc n) =
    operator_then (codes "-") (word (decimal (suc n)) ∷ []) (decimal (suc n) ∷ []) (refl, tt) (digits_apart (decimal (suc n)) (decimal_run (suc n))) (name_alone (decimal (suc n)) (decimal_run (suc n)))

long_is_spelled : (value : ℤ) → Piece (long_items value) (long_words value)
long_is_spelled (pos n) = name_alone (decimal n ++ codes "L") (long_run n)
long_is_spelled (negsuc n) =
    operator_then (codes "-") (word (decimal (suc n) ++ codes "L") ∷ []) ((decimal (suc n) ++ codes "L") ∷ []) (refl, tt) (digits_apart (decimal (suc n) ++ codes "L") (long_run (suc n))) (name_alone (decimal (suc n) ++ codes "L") (long_run (suc n)))

truth_run : (value : Bool) → IsRun is_letter (truth_text value)
truth_run true = (refl, (refl, (refl, (refl, tt))))
truth_run false = (refl, (refl, (refl, (refl, (refl, tt)))))

text_is_spelled : (units : List ℕ) → IsWellFormedExp (Text units) → Piece (Word (Quoted units) ∷ []) (token_text (Quoted units) ∷ [])
text_is_spelled units fit text ends = ap (λ front. words (front ++ text)) (append-nil (token_text (Quoted units))) ∙ quotation_is_word units text fit

pairs_are_spelled : (n : ℕ) → Piece (pairs_items n) (pairs_words n)
pairs_are_spelled zero text ends = refl
pairs_are_spelled (suc n) text ends = ap (λ found. codes "[" ∷ codes "]" ∷ found) (pairs_are_spelled n text ends)

pairs_apart : (n : ℕ) → IsApart (pairs_items n)
pairs_apart zero text ends = ends
pairs_apart (suc n) text ends = refl

-- a member's name behind a dot, and what doesn't begin with a letter
member_piece : (name : List ℕ) (more : List Item) (after : Words) → IsIdentifier name → IsApart more → Piece more after → Piece (sign (codes ".") ∷ word name ∷ more) (codes "." ∷ name ∷ after)
member_piece name more after identifier apart next text ends =
    ap (λ found. codes "." ∷ found) (name_then name more after (identifier_run name identifier) apart next text ends)

keyword_piece : (keyword : List ℕ) → IsRun is_letter keyword → (more : List Item) (after : Words) → Piece more after → Piece (word keyword ∷ Space ∷ more) (keyword ∷ after)
keyword_piece keyword is more after next = name_then keyword (Space ∷ more) after is (λ text ends. refl) next

super_is_spelled : (unit : CompilationUnit) (above : Option (List ℕ)) → IfSome above IsQualified → Piece (super_items (full_names unit) above) (super_words above)
super_is_spelled unit None named = name_alone (codes "super") (refl, (refl, (refl, (refl, (refl, tt)))))
super_is_spelled unit (Some interface) named =
    and_then (dotted interface) (sign (codes ".") ∷ word (codes "super") ∷ []) (name_words interface) (codes "." ∷ codes "super" ∷ [])
    (name_is_spelled interface named) (λ text ends. refl)
    (λ text ends. ap (λ found. codes "." ∷ found) (name_alone (codes "super") (refl, (refl, (refl, (refl, (refl, tt))))) text ends))

-- ---- an atom doesn't begin with an operator

-- items don't begin with an operator character, whatever follows
abbrev IsNoOperator : List Item → Type 0
IsNoOperator items = (text : List ℕ) → begins is_operator (render items ++ text) ≡ false

front_first : (items more : List Item) → IsNoOperator items → IsNoOperator (items ++ more)
front_first items more first text = ap (begins is_operator) (then_text items more text) ∙ first (render more ++ text)

run_first : (run : List ℕ) (more : List Item) → IsRun is_letter run → IsNoOperator (word run ∷ more)
run_first run more is text = ap (begins is_operator) (append_assoc run (render more) text) ∙ run_no_operator run (render more ++ text) is

name_first : (name : List ℕ) → IsQualified name → IsNoOperator (dotted name)
name_first name named text =
    let parts = parts_of name in
    rw parts.are (ap (begins is_operator) (append_assoc parts.first _ text) ∙ run_no_operator parts.first _ (identifier_run parts.first (first_segment name parts named)))

type_first : (unit : CompilationUnit) (kind : JType) → IsNamed kind → IsNoOperator (type_items (full_names unit) kind)
type_first unit Boolean named = λ text. refl
type_first unit Byte named = λ text. refl
type_first unit Char named = λ text. refl
type_first unit Short named = λ text. refl
type_first unit types.Int named = λ text. refl
type_first unit types.Long named = λ text. refl
type_first unit Float named = λ text. refl
type_first unit Double named = λ text. refl
type_first unit (Class name) named = λ text. name_first name named text
type_first unit (Array element) named = λ text. front_first (type_items (full_names unit) element) _ (type_first unit element named) text

operand_first : (bare : Bool) (items : List Item) → (bare ≡ true → IsNoOperator items) → IsNoOperator (operand bare items)
operand_first true items first = first refl
operand_first false items first = λ text. refl

super_first : (unit : CompilationUnit) (above : Option (List ℕ)) → IfSome above IsQualified → IsNoOperator (super_items (full_names unit) above)
super_first unit None named = λ text. refl
super_first unit (Some interface) named = front_first (dotted interface) _ (name_first interface named)

-- what stands bare before a dot, and behind a minus sign, is an atom
pub receiver_atom : (shape : Shape) → is_receiver shape ≡ true → is_atom shape ≡ true
receiver_atom Numeral is = refl
receiver_atom StaticField is = absurd (false≢true is)
receiver_atom Atom is = refl
receiver_atom Compound is = absurd (false≢true is)

pub negated_atom : (shape : Shape) → is_negated shape ≡ true → is_atom shape ≡ true
negated_atom Numeral is = absurd (false≢true is)
negated_atom StaticField is = refl
negated_atom Atom is = refl
negated_atom Compound is = absurd (false≢true is)

number_first : (value : ℤ) (items : ℤ → List Item) → ((n : ℕ) → IsNoOperator (items (pos n))) → is_atom (number_shape value) ≡ true → IsNoOperator (items value)
number_first (pos n) items first atom = first n
number_first (negsuc n) items first atom = absurd (false≢true atom)

truth_first : (value : Bool) → IsNoOperator (word (truth_text value) ∷ [])
truth_first true = λ text. refl
truth_first false = λ text. refl

-- a name that can be said is one of identifiers
pub sayable_name : (class : List ℕ) → IsSayable class → IsQualified class
sayable_name class sayable = recursion_from_All IsIdentifier (segments class) sayable.identifiers

-- an atom doesn't begin with an operator
atom_first : (unit : CompilationUnit) (e : Exp) → IsWellFormedExp e → is_atom (shape e) ≡ true → IsNoOperator (exp_items (full_names unit) e)
atom_first unit (trees.Int value) well atom = number_first value int_items (λ n. run_first (decimal n) [] (decimal_run n)) atom
atom_first unit (trees.Long value) well atom = number_first value long_items (λ n. run_first (decimal n ++ codes "L") [] (long_run n)) atom
atom_first unit (Text units) well atom = λ text. refl
atom_first unit (Truth value) well atom = truth_first value
atom_first unit Null well atom = λ text. refl
atom_first unit This well atom = λ text. refl
atom_first unit (Variable variable) well atom = run_first (variable_name variable) [] (variable_run variable)
atom_first unit (ClassOf kind) well atom = front_first (type_items (full_names unit) kind) _ (type_first unit kind well)
atom_first unit (Field object name) well atom =
    front_first (operand (is_receiver (shape object)) (exp_items (full_names unit) object)) _
    (operand_first (is_receiver (shape object)) (exp_items (full_names unit) object) (λ is. atom_first unit object well.0 (receiver_atom (shape object) is)))
atom_first unit (Static class name) well atom = front_first (dotted class) _ (name_first class (sayable_name class well.0))
atom_first unit (Element array index) well atom =
    front_first (operand (is_atom (shape array)) (exp_items (full_names unit) array)) _
    (operand_first (is_atom (shape array)) (exp_items (full_names unit) array) (atom_first unit array well.0))
atom_first unit (Call object name arguments) well atom =
    front_first (operand (is_receiver (shape object)) (exp_items (full_names unit) object)) _
    (operand_first (is_receiver (shape object)) (exp_items (full_names unit) object) (λ is. atom_first unit object well.0 (receiver_atom (shape object) is)))
atom_first unit (StaticCall class name arguments) well atom = front_first (dotted class) _ (name_first class (sayable_name class well.0))
atom_first unit (SuperCall above name arguments) well atom = front_first (super_items (full_names unit) above) _ (super_first unit above well.0)
atom_first unit (New class arguments) well atom = absurd (false≢true atom)
atom_first unit (NewArray kind sizes more) well atom = absurd (false≢true atom)
atom_first unit (Cast kind value) well atom = absurd (false≢true atom)
atom_first unit (InstanceOf value kind) well atom = absurd (false≢true atom)
atom_first unit (Negative value) well atom = absurd (false≢true atom)
atom_first unit (Not value) well atom = absurd (false≢true atom)
atom_first unit (Binary operator left right) well atom = absurd (false≢true atom)
atom_first unit (Choice test first second) well atom = absurd (false≢true atom)
atom_first unit (Assign variable value) well atom = absurd (false≢true atom)

-- ---- expressions

more_apart : (unit : CompilationUnit) (list : Exps) → IsApart (more_arguments (full_names unit) list)
more_apart unit NoExps text ends = ends
more_apart unit (AndExp first rest) text ends = refl

sizes_apart : (unit : CompilationUnit) (list : Exps) (more : ℕ) → IsApart (sizes_items (full_names unit) list ++ pairs_items more)
sizes_apart unit NoExps more text ends = pairs_apart more text ends
sizes_apart unit (AndExp first rest) more text ends = refl

-- a name behind a dot, and arguments
call_is_spelled : (unit : CompilationUnit) (name : List ℕ) (arguments : Exps) → IsIdentifier name → Piece (arguments_items (full_names unit) arguments) (arguments_words arguments)
    → Piece (sign (codes ".") ∷ word name ∷ parenthesised (arguments_items (full_names unit) arguments)) (codes "." ∷ name ∷ enclosed (arguments_words arguments))
call_is_spelled unit name arguments identifier spelled =
    member_piece name (parenthesised (arguments_items (full_names unit) arguments)) (enclosed (arguments_words arguments)) identifier (λ text ends. refl)
    (in_parentheses (arguments_items (full_names unit) arguments) (arguments_words arguments) spelled)

mutual
  -- the text of a well formed expression falls into its words, where no letter follows
  pub exp_is_spelled : (unit : CompilationUnit) (e : Exp) → IsWellFormedExp e → Piece (exp_items (full_names unit) e) (exp_words e)
  exp_is_spelled unit (trees.Int value) well = int_is_spelled value
  exp_is_spelled unit (trees.Long value) well = long_is_spelled value
  exp_is_spelled unit (Text units) well = text_is_spelled units well
  exp_is_spelled unit (Truth value) well = name_alone (truth_text value) (truth_run value)
  exp_is_spelled unit Null well = name_alone (codes "null") (refl, (refl, (refl, (refl, tt))))
  exp_is_spelled unit This well = name_alone (codes "this") (refl, (refl, (refl, (refl, tt))))
  exp_is_spelled unit (Variable variable) well = name_alone (variable_name variable) (variable_run variable)
  exp_is_spelled unit (ClassOf kind) well =
      and_then (type_items (full_names unit) kind) (sign (codes ".") ∷ word (codes "class") ∷ []) (type_words kind) (codes "." ∷ codes "class" ∷ [])
      (type_is_spelled unit kind well) (λ text ends. refl)
      (λ text ends. ap (λ found. codes "." ∷ found) (name_alone (codes "class") (refl, (refl, (refl, (refl, (refl, tt))))) text ends))
  exp_is_spelled unit (Field object name) well =
      and_then (operand (is_receiver (shape object)) (exp_items (full_names unit) object)) (sign (codes ".") ∷ word name ∷ []) (operand_words (is_receiver (shape object)) (exp_words object)) (codes "." ∷ name ∷ [])
      (operand_piece (is_receiver (shape object)) (exp_items (full_names unit) object) (exp_words object) (exp_is_spelled unit object well.0)) (λ text ends. refl)
      (member_piece name [] [] well.1 (λ text ends. ends) (λ text ends. refl))
  exp_is_spelled unit (Static class name) well =
      and_then (dotted class) (sign (codes ".") ∷ word name ∷ []) (name_words class) (codes "." ∷ name ∷ [])
      (name_is_spelled class (sayable_name class well.0)) (λ text ends. refl)
      (member_piece name [] [] well.1 (λ text ends. ends) (λ text ends. refl))
  exp_is_spelled unit (Element array index) well =
      and_then (operand (is_atom (shape array)) (exp_items (full_names unit) array)) (sign (codes "[") ∷ (exp_items (full_names unit) index ++ sign (codes "]") ∷ []))
      (operand_words (is_atom (shape array)) (exp_words array)) (codes "[" ∷ (exp_words index ++ codes "]" ∷ []))
      (operand_piece (is_atom (shape array)) (exp_items (full_names unit) array) (exp_words array) (exp_is_spelled unit array well.0)) (λ text ends. refl)
      (λ text ends. ap (λ found. codes "[" ∷ found) (and_then (exp_items (full_names unit) index) (sign (codes "]") ∷ []) (exp_words index) (codes "]" ∷ []) (exp_is_spelled unit index well.1) (λ text ends. refl) (λ text ends. refl) text ends))
  exp_is_spelled unit (Call object name arguments) well =
      and_then (operand (is_receiver (shape object)) (exp_items (full_names unit) object)) (sign (codes ".") ∷ word name ∷ parenthesised (arguments_items (full_names unit) arguments))
      (operand_words (is_receiver (shape object)) (exp_words object)) (codes "." ∷ name ∷ enclosed (arguments_words arguments))
      (operand_piece (is_receiver (shape object)) (exp_items (full_names unit) object) (exp_words object) (exp_is_spelled unit object well.0)) (λ text ends. refl)
      (call_is_spelled unit name arguments well.1 (arguments_are_spelled unit arguments well.2))
  exp_is_spelled unit (StaticCall class name arguments) well =
      and_then (dotted class) (sign (codes ".") ∷ word name ∷ parenthesised (arguments_items (full_names unit) arguments)) (name_words class) (codes "." ∷ name ∷ enclosed (arguments_words arguments))
      (name_is_spelled class (sayable_name class well.0)) (λ text ends. refl)
      (call_is_spelled unit name arguments well.1 (arguments_are_spelled unit arguments well.2))
  exp_is_spelled unit (SuperCall above name arguments) well =
      and_then (super_items (full_names unit) above) (sign (codes ".") ∷ word name ∷ parenthesised (arguments_items (full_names unit) arguments)) (super_words above) (codes "." ∷ name ∷ enclosed (arguments_words arguments))
      (super_is_spelled unit above well.0) (λ text ends. refl)
      (call_is_spelled unit name arguments well.1 (arguments_are_spelled unit arguments well.2))
  exp_is_spelled unit (New class arguments) well =
      keyword_piece (codes "new") (refl, (refl, (refl, tt))) (dotted class ++ parenthesised (arguments_items (full_names unit) arguments)) (name_words class ++ enclosed (arguments_words arguments))
      (and_then (dotted class) (parenthesised (arguments_items (full_names unit) arguments)) (name_words class) (enclosed (arguments_words arguments))
      (name_is_spelled class well.0) (λ text ends. refl)
      (in_parentheses (arguments_items (full_names unit) arguments) (arguments_words arguments) (arguments_are_spelled unit arguments well.1)))
  exp_is_spelled unit (NewArray kind sizes more) well =
      keyword_piece (codes "new") (refl, (refl, (refl, tt))) (type_items (full_names unit) kind ++ (sizes_items (full_names unit) sizes ++ pairs_items more)) (type_words kind ++ (sizes_words sizes ++ pairs_words more))
      (and_then (type_items (full_names unit) kind) (sizes_items (full_names unit) sizes ++ pairs_items more) (type_words kind) (sizes_words sizes ++ pairs_words more)
      (type_is_spelled unit kind well.0) (sizes_apart unit sizes more)
      (and_then (sizes_items (full_names unit) sizes) (pairs_items more) (sizes_words sizes) (pairs_words more) (sizes_are_spelled unit sizes well.3) (pairs_apart more) (pairs_are_spelled more)))
  exp_is_spelled unit (Cast kind value) well =
      and_then (parenthesised (type_items (full_names unit) kind)) (Space ∷ operand (is_atom (shape value)) (exp_items (full_names unit) value)) (enclosed (type_words kind)) (operand_words (is_atom (shape value)) (exp_words value))
      (in_parentheses (type_items (full_names unit) kind) (type_words kind) (type_is_spelled unit kind well.0)) (λ text ends. refl)
      (operand_piece (is_atom (shape value)) (exp_items (full_names unit) value) (exp_words value) (exp_is_spelled unit value well.1))
  exp_is_spelled unit (InstanceOf value kind) well =
      and_then (operand (is_atom (shape value)) (exp_items (full_names unit) value)) (Space ∷ word (codes "instanceof") ∷ Space ∷ type_items (full_names unit) kind)
      (operand_words (is_atom (shape value)) (exp_words value)) (codes "instanceof" ∷ type_words kind)
      (operand_piece (is_atom (shape value)) (exp_items (full_names unit) value) (exp_words value) (exp_is_spelled unit value well.0)) (λ text ends. refl)
      (keyword_piece (codes "instanceof") (refl, (refl, (refl, (refl, (refl, (refl, (refl, (refl, (refl, (refl, tt)))))))))) (type_items (full_names unit) kind) (type_words kind) (type_is_spelled unit kind well.1))
  exp_is_spelled unit (Negative value) well =
      operator_then (codes "-") (operand (is_negated (shape value)) (exp_items (full_names unit) value)) (operand_words (is_negated (shape value)) (exp_words value)) (refl, tt)
      (λ text ends. operand_first (is_negated (shape value)) (exp_items (full_names unit) value) (λ is. atom_first unit value well (negated_atom (shape value) is)) text)
      (operand_piece (is_negated (shape value)) (exp_items (full_names unit) value) (exp_words value) (exp_is_spelled unit value well))
  exp_is_spelled unit (Not value) well =
      operator_then (codes "!") (operand (is_atom (shape value)) (exp_items (full_names unit) value)) (operand_words (is_atom (shape value)) (exp_words value)) (refl, tt)
      (λ text ends. operand_first (is_atom (shape value)) (exp_items (full_names unit) value) (atom_first unit value well) text)
      (operand_piece (is_atom (shape value)) (exp_items (full_names unit) value) (exp_words value) (exp_is_spelled unit value well))
  exp_is_spelled unit (Binary operator left right) well =
      and_then (operand (is_atom (shape left)) (exp_items (full_names unit) left)) (Space ∷ sign (operator_text operator) ∷ Space ∷ operand (is_atom (shape right)) (exp_items (full_names unit) right))
      (operand_words (is_atom (shape left)) (exp_words left)) (operator_text operator ∷ operand_words (is_atom (shape right)) (exp_words right))
      (operand_piece (is_atom (shape left)) (exp_items (full_names unit) left) (exp_words left) (exp_is_spelled unit left well.0)) (λ text ends. refl)
      (operator_then (operator_text operator) (Space ∷ operand (is_atom (shape right)) (exp_items (full_names unit) right)) (operand_words (is_atom (shape right)) (exp_words right)) (operator_run operator) (λ text ends. refl)
      (operand_piece (is_atom (shape right)) (exp_items (full_names unit) right) (exp_words right) (exp_is_spelled unit right well.1)))
  exp_is_spelled unit (Choice test first second) well =
      let b = operand (is_atom (shape first)) (exp_items (full_names unit) first) in
      let c = operand (is_atom (shape second)) (exp_items (full_names unit) second) in
      let b_words = operand_words (is_atom (shape first)) (exp_words first) in
      let c_words = operand_words (is_atom (shape second)) (exp_words second) in
      and_then (operand (is_atom (shape test)) (exp_items (full_names unit) test)) (Space ∷ sign (codes "?") ∷ Space ∷ (b ++ Space ∷ sign (codes ":") ∷ Space ∷ c))
      (operand_words (is_atom (shape test)) (exp_words test)) (codes "?" ∷ (b_words ++ codes ":" ∷ c_words))
      (operand_piece (is_atom (shape test)) (exp_items (full_names unit) test) (exp_words test) (exp_is_spelled unit test well.0)) (λ text ends. refl)
      (λ text ends. ap (λ found. codes "?" ∷ found)
      (and_then b (Space ∷ sign (codes ":") ∷ Space ∷ c) b_words (codes ":" ∷ c_words)
      (operand_piece (is_atom (shape first)) (exp_items (full_names unit) first) (exp_words first) (exp_is_spelled unit first well.1)) (λ text ends. refl)
      (λ text ends. ap (λ found. codes ":" ∷ found) (operand_piece (is_atom (shape second)) (exp_items (full_names unit) second) (exp_words second) (exp_is_spelled unit second well.2) text ends))
      text ends))
  exp_is_spelled unit (Assign variable value) well =
      name_then (variable_name variable) (Space ∷ sign (codes "=") ∷ Space ∷ exp_items (full_names unit) value) (codes "=" ∷ exp_words value) (variable_run variable) (λ text ends. refl)
      (operator_then (codes "=") (Space ∷ exp_items (full_names unit) value) (exp_words value) (refl, tt) (λ text ends. refl) (exp_is_spelled unit value well.1))

  -- arguments are spelled as their words
  pub arguments_are_spelled : (unit : CompilationUnit) (list : Exps) → AreWellFormedExps list → Piece (arguments_items (full_names unit) list) (arguments_words list)
  arguments_are_spelled unit NoExps well = λ text ends. refl
  arguments_are_spelled unit (AndExp first rest) well =
      and_then (exp_items (full_names unit) first) (more_arguments (full_names unit) rest) (exp_words first) (more_words rest) (exp_is_spelled unit first well.0) (more_apart unit rest) (more_are_spelled unit rest well.1)

  more_are_spelled : (unit : CompilationUnit) (list : Exps) → AreWellFormedExps list → Piece (more_arguments (full_names unit) list) (more_words list)
  more_are_spelled unit NoExps well = λ text ends. refl
  more_are_spelled unit (AndExp first rest) well = λ text ends.
      ap (λ found. codes "," ∷ found)
      (and_then (exp_items (full_names unit) first) (more_arguments (full_names unit) rest) (exp_words first) (more_words rest) (exp_is_spelled unit first well.0) (more_apart unit rest) (more_are_spelled unit rest well.1) text ends)

  sizes_are_spelled : (unit : CompilationUnit) (list : Exps) → AreWellFormedExps list → Piece (sizes_items (full_names unit) list) (sizes_words list)
  sizes_are_spelled unit NoExps well = λ text ends. refl
  sizes_are_spelled unit (AndExp first rest) well = λ text ends.
      ap (λ found. codes "[" ∷ found)
      (and_then (exp_items (full_names unit) first) (sign (codes "]") ∷ sizes_items (full_names unit) rest) (exp_words first) (codes "]" ∷ sizes_words rest) (exp_is_spelled unit first well.0) (λ text ends. refl)
      (λ text ends. ap (λ found. codes "]" ∷ found) (sizes_are_spelled unit rest well.1 text ends)) text ends)
