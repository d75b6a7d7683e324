-- Members of a class or interface read from words (JLS 8, 9).
use Rattle.std.specs.Prelude.{ℕ, zero, suc, Bool, true, if◌then◌else◌, List, [], ◌∷◌, ◌++◌, drop, Option, Some, None, option_map, bit_or, codes}
use Rattle.dj_names.specs.Types.{JType, Int, Descriptor, Method}
use Rattle.dj_syntax.specs.Trees.{Exp, Stm, Body, FieldText, MethodText, stms_of}
use Rattle.dj_syntax.specs.WellFormed.{held_field, held_method}
use Rattle.dj_tokens.specs.Words.{Words, is_word, first_word, other_words, comes}
use Rattle.dj_grammar.specs.Readings.{Wanted}
use Rattle.dj_grammar.specs.Values.{read_value}
use Rattle.dj_grammar.specs.Statements.{no_blocks, read_statements}
use Rattle.dj_tokens.specs.Names.{read_result, read_parameters, read_names}

-- the bit of a modifier (JVMS 4.1, 4.5, 4.6), 0 for `default`; None where the word is no modifier
abbrev pub modifier_of : List ℕ → Option ℕ
modifier_of word =
    if is_word word (codes "public") then Some 0x0001
    else if is_word word (codes "protected") then Some 0x0004
    else if is_word word (codes "private") then Some 0x0002
    else if is_word word (codes "abstract") then Some 0x0400
    else if is_word word (codes "static") then Some 0x0008
    else if is_word word (codes "final") then Some 0x0010
    else if is_word word (codes "synchronized") then Some 0x0020
    else if is_word word (codes "native") then Some 0x0100
    else if is_word word (codes "transient") then Some 0x0080
    else if is_word word (codes "volatile") then Some 0x0040
    else if is_word word (codes "default") then Some 0
    else None

-- what a modifier's bit gives, or what stands where there is none
abbrev pub at_modifier : Option ℕ → (ℕ → ℕ × Words) → ℕ × Words → ℕ × Words
at_modifier None with_bit without = without
at_modifier (Some bit) with_bit without = with_bit bit

-- modifiers that come first, their bits with these, and the words behind them
abbrev pub read_modifiers : ℕ → Words → ℕ × Words
read_modifiers bits [] = (bits, [])
read_modifiers bits (word ∷ rest) = at_modifier (modifier_of word) (λ bit. read_modifiers (bit_or bits bit) rest) (bits, word ∷ rest)

-- where a member stands: whether its unit is an interface, and the name of its class
pub record Place : Type 0 where
  pub interface : Bool
  pub class : List ℕ

-- the statements of a body, where there is one: in braces, or a semicolon
abbrev pub read_body : Words → Option (List Stm) × Words
read_body list =
    if comes (codes "{") list then (let body = read_statements no_blocks (other_words list) in (Some body.0, body.1))
    else (None, other_words list)

-- a method's head with the bits that its text shows
abbrev pub head_of : ℕ → List ℕ → Descriptor → List (List ℕ) → Option Body → MethodText
head_of bits name descriptor thrown body = record { flags = bits; name = name; descriptor = descriptor; thrown = thrown; body = body }

-- a body with the head of its method
abbrev pub body_of : Place → MethodText → List Stm → Body
body_of place method statements = record {
  class = place.class;
  flags = method.flags;
  name = method.name;
  descriptor = method.descriptor;
  thrown = method.thrown;
  statements = stms_of statements;
}

-- a method of these parts, and the body that has its head
abbrev pub method_of : Place → ℕ → List ℕ → Descriptor → List (List ℕ) → Option (List Stm) → MethodText
method_of place bits name descriptor thrown None =
    let flags = held_method place.interface (head_of bits name descriptor thrown None) in head_of flags name descriptor thrown None
method_of place bits name descriptor thrown (Some statements) =
    let shown = head_of bits name descriptor thrown None in
    let flags = held_method place.interface (head_of bits name descriptor thrown (Some (body_of place shown statements))) in
    head_of flags name descriptor thrown (Some (body_of place (head_of flags name descriptor thrown None) statements))

-- a body with other flags
abbrev pub body_with : ℕ → Body → Body
body_with flags body = record {
  class = body.class;
  flags = flags;
  name = body.name;
  descriptor = body.descriptor;
  thrown = body.thrown;
  statements = body.statements;
}

-- a method with these flags, which its body has too
abbrev pub flagged : ℕ → List ℕ → Descriptor → List (List ℕ) → Option Body → MethodText
flagged flags name descriptor thrown body = head_of flags name descriptor thrown (option_map (body_with flags) body)

-- a method whose flags, and its body's, are those that the bits of its head stand for
abbrev pub with_flags : Place → ℕ → List ℕ → Descriptor → List (List ℕ) → Option Body → MethodText
with_flags place bits name descriptor thrown body =
    flagged (held_method place.interface (head_of bits name descriptor thrown body)) name descriptor thrown body

-- a method from the parenthesis of its parameters on
abbrev pub read_method : Place → ℕ → List ℕ → Option JType → Words → MethodText × Words
read_method place bits name result list =
    let parameters = read_parameters (other_words list) in
    let thrown = read_names (codes "throws") parameters.1 in
    let body = read_body thrown.1 in
    (method_of place bits name (Method parameters.0 result) thrown.0 body.0, body.1)

-- a static initialiser from its brace on
abbrev pub read_initialiser : Place → ℕ → Words → MethodText × Words
read_initialiser place bits list =
    let body = read_body list in
    (method_of place bits (codes "<clinit>") (Method [] None) [] body.0, body.1)

-- a field of these parts
abbrev pub field_of : Place → ℕ → JType → List ℕ → Option Exp → FieldText
field_of place bits kind name value =
    record {
      flags = held_field place.interface (record { flags = bits; kind = kind; name = name; value = value });
      kind = kind;
      name = name;
      value = value;
    }

-- a type, where a result is one
abbrev pub type_or_int : Option JType → JType
type_or_int None = Int
type_or_int (Some kind) = kind

-- a field from behind its name on: its value, where it has one, and the semicolon
abbrev pub read_field : Place → ℕ → JType → List ℕ → Words → FieldText × Words
read_field place bits kind name list =
    let value = read_value (Wanted []) (if comes (codes "=") list then other_words list else list) in
    (field_of place bits kind name value.0, other_words value.1)

-- The name of the helper, from behind its modifiers on. The words around the name are the same in every unit: fourteen before it,
-- eighteen behind it.
abbrev pub read_helper : Words → List ℕ × Words
read_helper list = (first_word (drop 14 list), drop 33 list)

-- the members that are read so far
pub record Members : Type 0 where
  pub fields : List FieldText
  pub helper : Option (List ℕ)
  pub methods : List MethodText

-- no members
abbrev pub no_members : Members
no_members = record { fields = []; helper = None; methods = [] }

-- a field more
abbrev pub with_field : Members → FieldText → Members
with_field members field = record { fields = members.fields ++ field ∷ []; helper = members.helper; methods = members.methods }

-- the helper
abbrev pub with_helper : Members → List ℕ → Members
with_helper members name = record { fields = members.fields; helper = Some name; methods = members.methods }

-- a method, a constructor or a static initialiser more
abbrev pub with_method : Members → MethodText → Members
with_method members method = record { fields = members.fields; helper = members.helper; methods = members.methods ++ method ∷ [] }

-- a method or a field, with its result or type read
abbrev pub read_named : Place → Members → ℕ → Option JType → Words → Members × Words
read_named place members bits result list =
    if comes (codes "(") (other_words list)
    then (let method = read_method place bits (first_word list) result (other_words list) in (with_method members method.0, method.1))
    else (let field = read_field place bits (type_or_int result) (first_word list) (other_words list) in (with_field members field.0, field.1))

-- a member behind its modifiers, whose bits are these
abbrev pub read_modified : Place → Members → ℕ → Words → Members × Words
read_modified place members bits list =
    if comes (codes "{") list then (let method = read_initialiser place bits list in (with_method members method.0, method.1))
    else (if comes (codes "<") list then (let helper = read_helper list in (with_helper members helper.0, helper.1))
    else (if comes (codes "(") (other_words list)
    then (let method = read_method place bits (codes "<init>") None (other_words list) in (with_method members method.0, method.1))
    else (let result = read_result list in read_named place members bits result.0 result.1)))

-- a member more
abbrev pub read_member : Place → Members → Words → Members × Words
read_member place members list = let head = read_modifiers 0 list in read_modified place members head.0 head.1

-- whether the words of a unit's members end: a brace, or no word
abbrev pub ends_members : Words → Bool
ends_members [] = true
ends_members (word ∷ rest) = is_word word (codes "}")

-- members up to the brace that ends a unit, so many at most
abbrev pub read_members : Place → ℕ → Members → Words → Members
read_members place zero members list = members
read_members place (suc most) members list =
    if ends_members list then members else (let more = read_member place members list in read_members place most more.0 more.1)
