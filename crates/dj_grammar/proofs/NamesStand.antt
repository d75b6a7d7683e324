-- Where the words of a name or a type are read, it stands.
use Rattle.std.proofs.Common.{◌≡◌, ◌⊎◌, ℕ, Bool, true, false, List, [], ◌∷◌, ◌++◌, refl, sym, ap, ◌∙◌, inl, inr, subst, append_assoc}
use Rattle.std.specs.Prelude.{codes, Option, Some, None}
use Rattle.std.specs.List.{AllByRecursion}
use Rattle.std.proofs.lemmas.Bool.{false≢true}
use Rattle.dj_names.specs.ClassNames.{segments}
use Rattle.dj_names.specs.Identifiers.{IsIdentifier}
use Rattle.dj_names.specs.Types.{JType, Boolean, Byte, Char, Short, Int, Long, Float, Double, Class, Array}
use Rattle.dj_syntax.specs.WellFormed.{IsQualified, IsNamed, is_array}
use Rattle.dj_tokens.specs.declared.tokens.Token.{Token}
use Rattle.dj_tokens.specs.declared.tokens.Token.TheVariants as token
use Rattle.dj_tokens.specs.Words.{Words, is_word}
use Rattle.dj_tokens.specs.Tokens.{token_of}
use Rattle.dj_tokens.specs.Literals.{is_variable_word}
use Rattle.dj_tokens.specs.Dotted.{DottedName, field_of_value, begun, extended, whole, type_of_name, variable_in}
use Rattle.dj_grammar.specs.Frames.{Pending, creating}
use Rattle.dj_grammar.specs.Readings.{Reading, Wanted, Named, Behind, Typed}
use Rattle.dj_grammar.specs.Steps.{read_token, read_word, read_words}
use Rattle.dj_grammar.proofs.IdentifiersAreWords.{token_of-identifier, primitive_of-identifier, no_super}
use Rattle.dj_grammar.proofs.NamesAreRead.{after_dots, dotted_words, name_words, qualified, Parts, parts_of}
use Rattle.dj_grammar.proofs.TypesAreRead.{type_words}

-- ---- words one after another

-- words are read front first
pub read_words-append : (reading : Reading) (front back : Words) → read_words reading (front ++ back) ≡ read_words (read_words reading front) back
read_words-append reading [] back = refl
read_words-append reading (word ∷ rest) back = read_words-append (read_word reading word) rest back

-- a word that is this is read as this
pub read_as : (found : Token) (reading : Reading) (word : List ℕ) → token_of word ≡ found → read_word reading word ≡ read_token found word reading
read_as found reading word is = ap (λ found. read_token found word reading) is

-- ---- names

-- a name with more words
abbrev pub longer : DottedName → List (List ℕ) → DottedName
longer named [] = named
longer named (segment ∷ rest) = longer (extended named segment) rest

segments_stand : (named : DottedName) (rest : List (List ℕ)) (pending : List Pending) → AllByRecursion IsIdentifier rest → read_words (Named named pending) (after_dots rest) ≡ Named (longer named rest) pending
segments_stand named [] pending identifiers = refl
segments_stand named (segment ∷ rest) pending (here, there) =
    ap (λ reading. read_words reading (after_dots rest)) (read_as token.Name (Behind named pending) segment (token_of-identifier segment here))
    ∙ segments_stand (extended named segment) rest pending there

whole-longer : (named : DottedName) (rest : List (List ℕ)) → whole (longer named rest) ≡ qualified (whole named) rest
whole-longer named [] = refl
whole-longer named (segment ∷ rest) = whole-longer (extended named segment) rest

primitive-longer : (named : DottedName) (rest : List (List ℕ)) → named.primitive ≡ None → (longer named rest).primitive ≡ None
primitive-longer named [] none = none
primitive-longer named (segment ∷ rest) none = primitive-longer (extended named segment) rest refl

super-longer : (named : DottedName) (rest : List (List ℕ)) → AllByRecursion IsIdentifier rest → named.is_super ≡ false → (longer named rest).is_super ≡ false
super-longer named [] identifiers other = other
super-longer named (segment ∷ rest) (here, there) other = super-longer (extended named segment) rest there (no_super segment here)

value-longer : (named : DottedName) (rest : List (List ℕ)) → named.value ≡ None → (longer named rest).value ≡ None
value-longer named [] none = none
value-longer named (segment ∷ rest) none = value-longer (extended named segment) rest (ap (λ value. field_of_value value segment) none)

-- the first segment of a name
abbrev pub first_of : List ℕ → List ℕ
first_of class = (parts_of class).first

-- what stands where a class's name was read
pub record StandsFor (class : List ℕ) (named : DottedName) : Type 0 where
  pub is_whole : whole named ≡ class
  pub no_primitive : named.primitive ≡ None
  pub no_super : named.is_super ≡ false
  pub plain : is_variable_word (first_of class) ≡ false → named.value ≡ None

-- where a class's name was read, it stands
pub name_stands : (class : List ℕ) (pending : List Pending) → IsQualified class → (named : DottedName) × StandsFor class named × (read_words (Wanted pending) (name_words class) ≡ Named named pending)
name_stands class pending qualifies =
    let parts = parts_of class in
    let identifiers : AllByRecursion IsIdentifier (parts.first ∷ parts.rest) = subst (AllByRecursion IsIdentifier) parts.are qualifies in
    let stands : StandsFor class (longer (begun parts.first) parts.rest) = record {
      is_whole = whole-longer (begun parts.first) parts.rest ∙ parts.whole;
      no_primitive = primitive-longer (begun parts.first) parts.rest (primitive_of-identifier parts.first identifiers.0);
      no_super = super-longer (begun parts.first) parts.rest identifiers.1 (no_super parts.first identifiers.0);
      plain = λ other. value-longer (begun parts.first) parts.rest (rw other);
    } in (
      longer (begun parts.first) parts.rest,
      stands,
      ap (λ segments. read_words (Wanted pending) (dotted_words segments)) parts.are
          ∙ ap (λ reading. read_words reading (after_dots parts.rest)) (read_as token.Name (Wanted pending) parts.first (token_of-identifier parts.first identifiers.0))
          ∙ segments_stand (begun parts.first) parts.rest pending identifiers.1,
    )

-- the type that a class's name names is the class
pub class_of_name : (class : List ℕ) (named : DottedName) → StandsFor class named → type_of_name named ≡ Class class
class_of_name class named stands = rw stands.no_primitive (ap Class stands.is_whole)

-- ---- types

-- a name that names a type stands
abbrev pub IsTypeName : JType → List Pending → Reading → Type 0
IsTypeName kind pending reading = (named : DottedName) × (type_of_name named ≡ kind) × (reading ≡ Named named pending)

-- where a type without brackets was read, a name of it stands
pub type_name_stands : (kind : JType) (pending : List Pending) → IsNamed kind → is_array kind ≡ false → IsTypeName kind pending (read_words (Wanted pending) (type_words kind))
type_name_stands Boolean pending named plain = (begun (codes "boolean"), refl, refl)
type_name_stands Byte pending named plain = (begun (codes "byte"), refl, refl)
type_name_stands Char pending named plain = (begun (codes "char"), refl, refl)
type_name_stands Short pending named plain = (begun (codes "short"), refl, refl)
type_name_stands Int pending named plain = (begun (codes "int"), refl, refl)
type_name_stands Long pending named plain = (begun (codes "long"), refl, refl)
type_name_stands Float pending named plain = (begun (codes "float"), refl, refl)
type_name_stands Double pending named plain = (begun (codes "double"), refl, refl)
type_name_stands (Class class) pending named plain = let stands = name_stands class pending named in (stands.0, class_of_name class stands.0 stands.1, stands.2)
type_name_stands (Array element) pending named plain = absurd (false≢true (sym plain))

-- what stands where a type was read: the type, or a name of it
abbrev pub IsType : JType → List Pending → Reading → Type 0
IsType kind pending reading = IsTypeName kind pending reading ⊎ (reading ≡ Typed kind pending)

array_stands : (element : JType) (pending : List Pending) (reading : Reading) → creating pending ≡ None → IsType element pending reading → read_words reading (codes "[" ∷ codes "]" ∷ []) ≡ Typed (Array element) pending
array_stands element pending reading plain (inl stands) = rw (stands.2, plain) (ap (λ kind. Typed (Array kind) pending) stands.1)
array_stands element pending reading plain (inr stands) = rw stands refl

-- where a type was read, it stands, unless a `new` waits for it
pub type_stands : (kind : JType) (pending : List Pending) → IsNamed kind → creating pending ≡ None → IsType kind pending (read_words (Wanted pending) (type_words kind))
type_stands Boolean pending named plain = inl (type_name_stands Boolean pending named refl)
type_stands Byte pending named plain = inl (type_name_stands Byte pending named refl)
type_stands Char pending named plain = inl (type_name_stands Char pending named refl)
type_stands Short pending named plain = inl (type_name_stands Short pending named refl)
type_stands Int pending named plain = inl (type_name_stands Int pending named refl)
type_stands Long pending named plain = inl (type_name_stands Long pending named refl)
type_stands Float pending named plain = inl (type_name_stands Float pending named refl)
type_stands Double pending named plain = inl (type_name_stands Double pending named refl)
type_stands (Class class) pending named plain = inl (type_name_stands (Class class) pending named refl)
type_stands (Array element) pending named plain =
    inr (read_words-append (Wanted pending) (type_words element) (codes "[" ∷ codes "]" ∷ [])
    ∙ array_stands element pending (read_words (Wanted pending) (type_words element)) plain (type_stands element pending named plain))
