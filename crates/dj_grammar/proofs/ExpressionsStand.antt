-- What stands where operands and expressions are read (JLS 15).
use Rattle.std.proofs.Common.{◌≡◌, ◌⊎◌, ℕ, Bool, true, false, List, [], ◌∷◌, ◌++◌, refl, sym, ap, ◌∙◌, inl, inr}
use Rattle.std.specs.Prelude.{codes, Option, Some, None, option_map}
use Rattle.std.proofs.lemmas.Bool.{false≢true}
use Rattle.dj_names.specs.Identifiers.{IsIdentifier}
use Rattle.dj_syntax.specs.Trees.{Exp, Field, Static, Element, exps_of}
use Rattle.dj_syntax.specs.UnitText.{shape, is_atom, is_receiver, is_negated}
use Rattle.dj_tokens.specs.declared.tokens.Token.TheVariants as token
use Rattle.dj_tokens.specs.Words.{Words}
use Rattle.dj_tokens.specs.Tokens.{token_of}
use Rattle.dj_tokens.specs.Dotted.{DottedName, value_of, value_or, prefix_units, extended, field_of_value}
use Rattle.dj_grammar.specs.Frames.{Callee, OfObject, OfClass, Above, Creation, Own, Helper, Joint, Opener, Parenthesis, Bracket, NameBracket, Arguments, Pending, Joins, Opens, collapsed, called, testing, creating}
use Rattle.dj_grammar.specs.Readings.{Reading, Wanted, Negation, Head, Named, Behind, Typed, Sized, Called, Declared, Selecting, Stands, Helping, Lost, standing, ended}
use Rattle.dj_grammar.specs.Brackets.{open_parenthesis, close_parenthesis, close_ended, enclosing, is_parenthesis, open_bracket, close_bracket, index_ended, index_opener, open_arguments, callee_of, called_by, callee_or, called_plainly}
use Rattle.dj_grammar.specs.Steps.{starting, labels_in, read_word, read_words}
use Rattle.dj_grammar.proofs.IdentifiersAreWords.{token_of-identifier, no_super}
use Rattle.dj_grammar.proofs.NamesStand.{read_words-append, read_as}

-- ---- places

-- whether only a statement calls it: a constructor, or the helper
abbrev pub is_special : Callee → Bool
is_special (OfObject object name) = false
is_special (OfClass class name) = false
is_special (Above above name) = false
is_special (Creation class) = false
is_special (Own own) = true
is_special Helper = true

-- whether a declaration stands, or a call that only a statement makes
abbrev pub stands_special : Reading → Bool
stands_special (Wanted pending) = false
stands_special (Negation pending) = false
stands_special (Head pending) = false
stands_special (Named name pending) = false
stands_special (Behind name pending) = false
stands_special (Typed kind pending) = false
stands_special (Sized kind sizes more pending) = false
stands_special (Called callee arguments pending) = is_special callee
stands_special (Declared kind variable pending) = true
stands_special (Selecting object pending) = false
stands_special (Stands value pending) = false
stands_special (Helping pending) = false
stands_special Lost = false

-- no `instanceof` and no `new` waits
abbrev pub IsPlain : List Pending → Type 0
IsPlain pending = (testing pending ≡ None) × (creating pending ≡ None)

-- an expression stands where an operand was read: as a value, a name of it, or a call
abbrev pub IsOperand : Exp → List Pending → Reading → Type 0
IsOperand e pending reading =
    (reading ≡ Stands e pending)
    ⊎ ((named : DottedName) × (value_of named ≡ e) × (reading ≡ Named named pending))
    ⊎ ((callee : Callee) × (arguments : List Exp) × (called callee (exps_of arguments) ≡ e) × (reading ≡ Called callee arguments pending) × (is_special callee ≡ false))

-- an expression ends, and so what closes behind it does
pub record IsWhole (e : Exp) (pending : List Pending) (reading : Reading) : Type 0 where
  pub ends : ended reading ≡ Some (collapsed e pending)
  pub closes : close_parenthesis reading ≡ close_ended (ended reading)
  pub indexes : close_bracket reading ≡ index_ended (ended reading)
  pub plainly : stands_special reading ≡ false

-- where an operand is wanted, these words give this expression
abbrev pub IsGiven : Exp → Words → Type 0
IsGiven e list = (pending : List Pending) → IsPlain pending → IsOperand e pending (read_words (Wanted pending) list)

-- where an expression is wanted, and no statement begins, this one ends behind these words; a name alone in parentheses
-- is none
abbrev pub IsEnded : Exp → Words → Type 0
IsEnded e list =
    (pending : List Pending) → IsPlain pending → starting pending ≡ None → (is_negated (shape e) ≡ true → enclosing pending ≡ None)
    → IsWhole e pending (read_words (Wanted pending) list)

-- ---- operands

-- the operand stands
pub operand_stands : (e : Exp) (pending : List Pending) (reading : Reading) → IsPlain pending → IsOperand e pending reading → standing reading ≡ Some (e, pending)
operand_stands e pending reading plain (inl is) = rw is refl
operand_stands e pending reading plain (inr (inl is)) = rw (is.2, plain.0) (ap (λ value. Some (value, pending)) is.1)
operand_stands e pending reading plain (inr (inr is)) = rw is.3 (ap (λ value. Some (value, pending)) is.2)

operand_closes : (e : Exp) (pending : List Pending) (reading : Reading) → enclosing pending ≡ None → IsOperand e pending reading → close_parenthesis reading ≡ close_ended (ended reading)
operand_closes e pending reading outside (inl is) = rw is refl
operand_closes e pending reading outside (inr (inl is)) = rw (is.2, outside) refl
operand_closes e pending reading outside (inr (inr is)) = rw is.3 refl

operand_indexes : (e : Exp) (pending : List Pending) (reading : Reading) → IsOperand e pending reading → close_bracket reading ≡ index_ended (ended reading)
operand_indexes e pending reading (inl is) = rw is refl
operand_indexes e pending reading (inr (inl is)) = rw is.2 refl
operand_indexes e pending reading (inr (inr is)) = rw is.3 refl

operand_plainly : (e : Exp) (pending : List Pending) (reading : Reading) → IsOperand e pending reading → stands_special reading ≡ false
operand_plainly e pending reading (inl is) = rw is refl
operand_plainly e pending reading (inr (inl is)) = rw is.2 refl
operand_plainly e pending reading (inr (inr is)) = rw is.3 is.4

-- an operand is an expression that ends
pub operand_is_whole : (e : Exp) (pending : List Pending) (reading : Reading) → IsPlain pending → enclosing pending ≡ None → IsOperand e pending reading → IsWhole e pending reading
operand_is_whole e pending reading plain outside is = record {
  ends = ap (option_map (λ stands. collapsed stands.0 stands.1)) (operand_stands e pending reading plain is);
  closes = operand_closes e pending reading outside is;
  indexes = operand_indexes e pending reading is;
  plainly = operand_plainly e pending reading is;
}

-- what an expression makes with what waits for it is whole where it is
pub whole_behind : (joint : Joint) (e whole : Exp) (pending : List Pending) (reading : Reading) → collapsed e (Joins joint ∷ pending) ≡ collapsed whole pending → IsWhole e (Joins joint ∷ pending) reading → IsWhole whole pending reading
whole_behind joint e whole pending reading same inner = record { ends = inner.ends ∙ ap Some same; closes = inner.closes; indexes = inner.indexes; plainly = inner.plainly }

-- an operand behind what waits for it makes a whole expression
pub joined_is_whole : (joint : Joint) (e whole : Exp) (pending : List Pending) (reading : Reading) → collapsed e (Joins joint ∷ pending) ≡ collapsed whole pending → IsPlain (Joins joint ∷ pending) → IsOperand e (Joins joint ∷ pending) reading → IsWhole whole pending reading
joined_is_whole joint e whole pending reading same plain is =
    whole_behind joint e whole pending reading same (operand_is_whole e (Joins joint ∷ pending) reading plain refl is)

-- what a bracket behind an operand opens
pub bracket_opens : (e : Exp) (pending : List Pending) (reading : Reading) → IsPlain pending → IsOperand e pending reading
    → (opener : Opener) × (open_bracket reading ≡ Wanted (Opens opener ∷ pending)) × ((index : Exp) → index_opener index opener pending ≡ Stands (Element e index) pending) × (is_parenthesis opener ≡ false) × (labels_in opener ≡ None)
bracket_opens e pending reading plain (inl is) = (Bracket e, rw is refl, λ index. refl, refl, refl)
bracket_opens e pending reading plain (inr (inl is)) =
    (NameBracket is.0, rw (is.2, plain.1) refl, λ index. ap (λ array. Stands (Element array index) pending) is.1, refl, refl)
bracket_opens e pending reading plain (inr (inr is)) = (Bracket e, rw is.3 (ap (λ array. Wanted (Opens (Bracket array) ∷ pending)) is.2), λ index. refl, refl, refl)

-- ---- members

-- a member of an object stands behind its name: as a field, or a name of it
abbrev pub IsMember : Exp → List ℕ → List Pending → Reading → Type 0
IsMember object name pending reading =
    (reading ≡ Stands (Field object name) pending)
    ⊎ ((named : DottedName) × (named.value ≡ Some (Field object name)) × (reading ≡ Named named pending))

extended_value : (e : Exp) (named : DottedName) (name : List ℕ) → IsIdentifier name → is_receiver (shape e) ≡ true → value_of named ≡ e → field_of_value named.value name ≡ Some (Field e name)
extended_value e named name identifier receiver is = go named.value is
  where
    go : (value : Option Exp) → value_or value (Static (prefix_units named.prefix) named.last) ≡ e → field_of_value value name ≡ Some (Field e name)
    go None static = absurd (false≢true (ap (λ e. is_receiver (shape e)) static ∙ receiver))
    go (Some value) same = rw (no_super name identifier) (ap (λ value. Some (Field value name)) same)

-- a dot and a name behind an operand that isn't a static field
pub member_stands : (e : Exp) (name : List ℕ) (pending : List Pending) (reading : Reading) → IsIdentifier name → is_receiver (shape e) ≡ true → IsOperand e pending reading → IsMember e name pending (read_words reading (codes "." ∷ name ∷ []))
member_stands e name pending reading identifier receiver (inl stands) =
    inl (ap (λ reading. read_words reading (codes "." ∷ name ∷ [])) stands ∙ read_as token.Name (Selecting e pending) name (token_of-identifier name identifier))
member_stands e name pending reading identifier receiver (inr (inl stands)) =
    inr (
      extended stands.0 name,
      extended_value e stands.0 name identifier receiver stands.1,
      ap (λ reading. read_words reading (codes "." ∷ name ∷ [])) stands.2 ∙ read_as token.Name (Behind stands.0 pending) name (token_of-identifier name identifier),
    )
member_stands e name pending reading identifier receiver (inr (inr stands)) =
    inl (ap (λ reading. read_words reading (codes "." ∷ name ∷ [])) stands.3
    ∙ read_as token.Name (Selecting (called stands.0 (exps_of stands.1)) pending) name (token_of-identifier name identifier)
    ∙ ap (λ object. Stands (Field object name) pending) stands.2)

-- the same behind a value in parentheses
pub selected_stands : (e : Exp) (name : List ℕ) (pending : List Pending) → token_of name ≡ token.Name → IsMember e name pending (read_words (Stands e pending) (codes "." ∷ name ∷ []))
selected_stands e name pending is = inl (read_as token.Name (Selecting e pending) name is)

-- a member is a field
pub member_is_operand : (object : Exp) (name : List ℕ) (pending : List Pending) (reading : Reading) → IsMember object name pending reading → IsOperand (Field object name) pending reading
member_is_operand object name pending reading (inl is) = inl is
member_is_operand object name pending reading (inr is) = inr (inl (is.0, ap (λ value. value_or value (Static (prefix_units is.0.prefix) is.0.last)) is.1, is.2))

-- a parenthesis behind a member opens the arguments of a call
pub member_is_called : (object : Exp) (name : List ℕ) (pending : List Pending) (reading : Reading) → IsPlain pending → IsMember object name pending reading → open_parenthesis reading ≡ Wanted (Opens (Arguments (OfObject object name) []) ∷ pending)
member_is_called object name pending reading plain (inl is) = rw is refl
member_is_called object name pending reading plain (inr is) = rw (is.2, plain.1, is.1) refl
