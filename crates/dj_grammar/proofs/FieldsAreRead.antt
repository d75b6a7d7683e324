-- What the words of a field and of the helper spell is read from them, whatever follows.
use Rattle.std.proofs.Common.{◌≡◌, ℕ, Bool, true, false, List, ◌∷◌, ◌++◌, Option, Some, None, IfSome, is_some, bit_and, refl, sym, ap, ◌∙◌}
use Rattle.std.specs.Prelude.{codes}
use Rattle.std.specs.Int.Bits.{and_self}
use Rattle.dj_names.specs.Types.{JType}
use Rattle.dj_syntax.specs.Trees.{Exp, FieldText}
use Rattle.dj_syntax.specs.UnitText.{field_bits}
use Rattle.dj_syntax.specs.WellFormed.{IsWellFormedField, IsWellFormedExp, held_field}
use Rattle.dj_tokens.specs.Words.{Words, begins, is_letter, is_word, comes}
use Rattle.dj_tokens.specs.Names.{read_result}
use Rattle.dj_grammar.specs.Members.{Place, Members, field_of, read_field, read_named, read_modified, read_member, with_field, with_helper}
use Rattle.dj_tokens.proofs.Runs.{identifier_run, run_differs}
use Rattle.dj_grammar.proofs.ValuesAreRead.{value_read}
use Rattle.dj_grammar.proofs.MaskLemmas.{and_and}
use Rattle.dj_grammar.proofs.TypesAreRead.{type_words, result_is_read}
use Rattle.dj_grammar.proofs.TypesBegin.{BeginsNamed, type_begins}
use Rattle.dj_grammar.proofs.ModifiersAreRead.{modifiers_are_read, modifier_bits}
use Rattle.dj_grammar.proofs.FieldsAreSpelled.{value_words, field_words, helper_words}

-- ---- fields

field_bits-modifiers : (interface valued : Bool) → bit_and (field_bits interface valued) modifier_bits ≡ field_bits interface valued
field_bits-modifiers true valued = refl
field_bits-modifiers false true = refl
field_bits-modifiers false false = refl

value_follows : (value : Option Exp) (list : Words) → comes (codes "(") (value_words value list) ≡ false
value_follows None list = refl
value_follows (Some value) list = refl

-- a field with these bits
abbrev with_bits : FieldText → ℕ → FieldText
with_bits field bits = record { flags = bits; kind = field.kind; name = field.name; value = field.value }

field_is_made : (place : Place) (field : FieldText) → field.flags ≡ held_field place.interface field
    → field_of place (bit_and field.flags (field_bits place.interface (is_some field.value))) field.kind field.name field.value ≡ field
field_is_made place field held =
    let mask = field_bits place.interface (is_some field.value) in
    let shown : bit_and (bit_and field.flags mask) mask ≡ bit_and field.flags mask = and_and field.flags mask mask ∙ ap (bit_and field.flags) (and_self mask) in
    ap (λ bits. with_bits field bits) (rw shown (sym held))

value_is_read : (place : Place) (bits : ℕ) (kind : JType) (name : List ℕ) (value : Option Exp) (list : Words) → IfSome value IsWellFormedExp → read_field place bits kind name (value_words value list) ≡ (field_of place bits kind name value, list)
value_is_read place bits kind name None list formed = refl
value_is_read place bits kind name (Some value) list formed = rw (value_read value list formed)

-- a member that begins with a type or result goes on behind it
pub named_goes_on : (place : Place) (members : Members) (bits : ℕ) (list : Words) → BeginsNamed list → read_modified place members bits list ≡ read_named place members bits (read_result list).0 (read_result list).1
named_goes_on place members bits list begins = rw (begins.first.brace, begins.first.angle, begins.second)

field_goes_on : (place : Place) (members : Members) (bits : ℕ) (kind : JType) (name : List ℕ) (after : Words) (field : FieldText) (list : Words) → comes (codes "(") after ≡ false → read_field place bits kind name after ≡ (field, list)
    → read_named place members bits (Some kind) (name ∷ after) ≡ (with_field members field, list)
field_goes_on place members bits kind name after field list other read = rw other (ap (λ read. (with_field members read.0, read.1)) read)

-- a field is read from its words
pub field_is_read : (place : Place) (members : Members) (field : FieldText) (list : Words) → IsWellFormedField place.interface field → read_member place members (field_words place.interface field list) ≡ (with_field members field, list)
field_is_read place members field list formed =
    let mask = field_bits place.interface (is_some field.value) in
    let bits = bit_and field.flags mask in
    let after = field.name ∷ value_words field.value list in
    let differs : (sign : List ℕ) → begins is_letter sign ≡ false → is_word field.name sign ≡ false = λ sign other. run_differs field.name sign (identifier_run field.name formed.name) other in
    let begins = type_begins field.kind after formed.kind (differs (codes "(") refl) in
    let value = value_is_read place bits field.kind field.name field.value list formed.value ∙ ap (λ field. (field, list)) (field_is_made place field formed.flags) in
    ap (λ head. read_modified place members head.0 head.1) (modifiers_are_read field.flags mask (type_words field.kind ++ after) (field_bits-modifiers place.interface (is_some field.value)) begins.first.modifier)
    ∙ named_goes_on place members bits (type_words field.kind ++ after) begins
    ∙ ap (λ result. read_named place members bits result.0 result.1) (result_is_read (Some field.kind) after formed.kind (differs (codes ".") refl, differs (codes "[") refl))
    ∙ field_goes_on place members bits field.kind field.name (value_words field.value list) field list (value_follows field.value list) value

-- ---- the helper

-- the helper is read from its words
pub helper_is_read : (place : Place) (members : Members) (name : List ℕ) (list : Words) → read_member place members (helper_words (Some name) list) ≡ (with_helper members name, list)
helper_is_read place members name list = refl
