-- A well formed unit is read from its words, and so from its text.
use Rattle.std.proofs.Common.{◌≡◌, ℕ, ◌+◌, ◌≤◌, Bool, true, false, List, [], ◌∷◌, ◌++◌, length, Option, Some, None, IfSome, bit_and, bit_or, refl, sym, ap, ◌∙◌}
use Rattle.std.specs.Prelude.{codes, if◌then◌else◌}
use Rattle.std.specs.Int.Bits.{and_zero_r}
use Rattle.std.proofs.lemmas.Bool.{true≢false}
use Rattle.dj_syntax.specs.Trees.{FieldText, MethodText, CompilationUnit}
use Rattle.dj_syntax.specs.UnitText.{class_bits, is_interface, unit_text}
use Rattle.dj_syntax.specs.WellFormed.{IsWellFormed, IsSuperclass, held_class, class_name}
use Rattle.dj_grammar.specs.Parsing.{IsParsed}
use Rattle.dj_tokens.specs.Words.{Words, words, comes}
use Rattle.dj_tokens.specs.Names.{read_names}
use Rattle.dj_grammar.specs.Members.{Members, no_members, modifier_of, read_modifiers, read_members}
use Rattle.dj_grammar.specs.Units.{read_package, read_superclass, class_flags, name_in, read_unit}
use Rattle.dj_grammar.proofs.MaskLemmas.{and_and, or_and, or-zero}
use Rattle.dj_grammar.proofs.NamesAreRead.{names_words, name_is_read, names_are_read}
use Rattle.dj_grammar.proofs.ModifiersAreRead.{modifier_bits, modifiers_are_read, modifiers_no_package}
use Rattle.dj_grammar.proofs.UnitNames.{in_package_is}
use Rattle.dj_grammar.proofs.MembersAreSpelled.{members_words}
use Rattle.dj_grammar.proofs.MembersAreRead.{members_of, members_are_read}
use Rattle.dj_grammar.proofs.UnitsAreSpelled.{package_words, superclass_words, kind_word, interfaces_word, supertypes_words, unit_head_words, unit_words, unit_is_spelled, members_fit}

-- ---- flags

interface_flags : (flags : ℕ) → class_flags true (bit_and flags 0x0001) ≡ bit_or (bit_and flags 0x0001) 0x0600
interface_flags flags =
    let shown = bit_and flags 0x0001 in
    let marked : bit_and (bit_or shown 0x0200) 0x0200 ≡ 0x0200 = or_and shown 0x0200 0x0200 ∙ ap (λ bits. bit_or bits 0x0200) (and_and flags 0x0001 0x0200 ∙ and_zero_r flags) in
    let public : bit_and (bit_or shown 0x0200) 0x0001 ≡ shown = or_and shown 0x0200 0x0001 ∙ or-zero (bit_and shown 0x0001) ∙ and_and flags 0x0001 0x0001 in
    rw (marked, public)

plain_flags : (flags : ℕ) → class_flags false (bit_and flags 0x0411) ≡ bit_or (bit_and flags 0x0411) 0
plain_flags flags =
    let shown = bit_and flags 0x0411 in
    let plain : bit_and shown 0x0200 ≡ 0 = and_and flags 0x0411 0x0200 ∙ and_zero_r flags in
    let same : bit_and shown 0x0411 ≡ shown = and_and flags 0x0411 0x0411 in
    rw (plain, same)

-- the flags of a class or interface are known from what it shows
flags_are_read : (flags : ℕ) → class_flags (is_interface flags) (bit_and flags (class_bits (is_interface flags))) ≡ held_class flags
flags_are_read flags = go (is_interface flags)
  where
    go : (interface : Bool) → class_flags interface (bit_and flags (class_bits interface)) ≡ bit_or (bit_and flags (class_bits interface)) (if interface then 0x0600 else 0)
    go true = interface_flags flags
    go false = plain_flags flags

class_bits-modifiers : (interface : Bool) → bit_and (class_bits interface) modifier_bits ≡ class_bits interface
class_bits-modifiers true = refl
class_bits-modifiers false = refl

-- ---- the parts of the head

package_is_read : (in_package : Option (List ℕ)) (list : Words) → comes (codes "package") list ≡ false → read_package (package_words in_package list) ≡ (in_package, list)
package_is_read None list other = rw other
package_is_read (Some name) list other = rw (name_is_read name (codes ";" ∷ list) refl)

kind_no_modifier : (interface : Bool) → modifier_of (kind_word interface) ≡ None
kind_no_modifier true = refl
kind_no_modifier false = refl

kind_no_package : (interface : Bool) (list : Words) → comes (codes "package") (kind_word interface ∷ list) ≡ false
kind_no_package true list = refl
kind_no_package false list = refl

kind_is_read : (interface : Bool) (list : Words) → comes (codes "interface") (kind_word interface ∷ list) ≡ interface
kind_is_read true list = refl
kind_is_read false list = refl

interfaces_come : (interface : Bool) (list : Words) → comes (interfaces_word interface) (interfaces_word interface ∷ list) ≡ true
interfaces_come true list = refl
interfaces_come false list = refl

brace_no_interfaces : (interface : Bool) (list : Words) → comes (interfaces_word interface) (codes "{" ∷ list) ≡ false
brace_no_interfaces true list = refl
brace_no_interfaces false list = refl

-- the interfaces of a class, and the brace, go on with no superclass and no segment
interfaces_follow : (names : List (List ℕ)) (list : Words) → (comes (codes "extends") (names_words (codes "implements") names ++ codes "{" ∷ list) ≡ false) × (comes (codes ".") (names_words (codes "implements") names ++ codes "{" ∷ list) ≡ false)
interfaces_follow [] list = (refl, refl)
interfaces_follow (first ∷ rest) list = (refl, refl)

superclass_is_read : (interface : Bool) (superclass : Option (List ℕ)) (interfaces : List (List ℕ)) (list : Words) → IfSome superclass (IsSuperclass interface)
    → read_superclass interface (superclass_words superclass (names_words (interfaces_word interface) interfaces ++ codes "{" ∷ list)) ≡ (superclass, names_words (interfaces_word interface) interfaces ++ codes "{" ∷ list)
superclass_is_read true None interfaces list named = refl
superclass_is_read true (Some name) interfaces list named = absurd (true≢false named.0)
superclass_is_read false None interfaces list named = rw (interfaces_follow interfaces list).0
superclass_is_read false (Some name) interfaces list named =
    rw (name_is_read name (names_words (codes "implements") interfaces ++ codes "{" ∷ list) (interfaces_follow interfaces list).1)

-- ---- the unit

-- a unit of these parts
abbrev unit_of : Option (List ℕ) → ℕ → List ℕ → Option (List ℕ) → List (List ℕ) → Members → CompilationUnit
unit_of in_package flags name superclass interfaces members = record {
  «package» = in_package;
  flags = flags;
  name = name;
  superclass = superclass;
  interfaces = interfaces;
  fields = members.fields;
  helper = members.helper;
  methods = members.methods;
}

goes_on : (most : ℕ) (list : Words) (in_package : Option (List ℕ)) (head : Words) (bits : ℕ) (interface : Bool) (kind name : List ℕ) (supertypes : Words) (superclass : Option (List ℕ)) (behind : Words) (interfaces : List (List ℕ)) (brace : List ℕ) (inside : Words) (members : Members)
    → read_package list ≡ (in_package, head) → read_modifiers 0 head ≡ (bits, kind ∷ name ∷ supertypes) → comes (codes "interface") (kind ∷ name ∷ supertypes) ≡ interface
    → read_superclass interface supertypes ≡ (superclass, behind) → read_names (interfaces_word interface) behind ≡ (interfaces, brace ∷ inside)
    → read_members (record { interface = interface; class = name_in in_package name }) most no_members inside ≡ members
    → read_unit most list ≡ unit_of in_package (class_flags interface bits) name superclass interfaces members
goes_on most list in_package head bits interface kind name supertypes superclass behind interfaces brace inside members of_package of_modifiers of_kind of_superclass of_interfaces of_members =
    rw (of_package, of_modifiers, of_kind, of_superclass, of_interfaces, of_members)

-- a well formed unit is read from its words, where so many members are allowed
unit_is_read : (unit : CompilationUnit) (most : ℕ) → IsWellFormed unit → length unit.fields + (length unit.methods + 1) ≤ most → read_unit most (unit_words unit) ≡ unit
unit_is_read unit most formed some =
    let interface = is_interface unit.flags in
    let inside = members_words unit (codes "}" ∷ []) in
    let kind = kind_word interface ∷ unit.name ∷ supertypes_words unit inside in
    goes_on most (unit_words unit) unit.«package» (unit_head_words unit inside) (bit_and unit.flags (class_bits interface)) interface (kind_word interface) unit.name (supertypes_words unit inside) unit.superclass
    (names_words (interfaces_word interface) unit.interfaces ++ codes "{" ∷ inside) unit.interfaces (codes "{") inside (members_of unit)
    (package_is_read unit.«package» (unit_head_words unit inside) (modifiers_no_package (bit_and unit.flags (class_bits interface)) kind (kind_no_package interface (unit.name ∷ supertypes_words unit inside))))
    (modifiers_are_read unit.flags (class_bits interface) kind (class_bits-modifiers interface) (kind_no_modifier interface))
    (kind_is_read interface (unit.name ∷ supertypes_words unit inside))
    (superclass_is_read interface unit.superclass unit.interfaces inside formed.superclass)
    (names_are_read (interfaces_word interface) unit.interfaces (codes "{" ∷ inside) (interfaces_come interface []) (brace_no_interfaces interface inside) (refl, refl))
    (ap (λ class. read_members (record { interface = interface; class = class }) most no_members inside) (in_package_is unit) ∙ members_are_read unit [] most formed some)
    ∙ ap (λ flags. record unit { flags = flags }) (flags_are_read unit.flags ∙ sym formed.flags)

-- a well formed unit is read from its text
pub text_is_read : (unit : CompilationUnit) → IsWellFormed unit → read_unit (length (unit_text unit)) (words (unit_text unit)) ≡ unit
text_is_read unit formed =
    ap (read_unit (length (unit_text unit))) (unit_is_spelled unit formed) ∙ unit_is_read unit (length (unit_text unit)) formed (members_fit unit)

-- what is read from a text is the well formed unit whose text it is
pub text_is_parsed : (text : List ℕ) (parsed : CompilationUnit) → parsed ≡ read_unit (length text) (words text) → IsParsed text parsed
text_is_parsed text parsed read unit formed spelled =
    read ∙ ap (λ text. read_unit (length text) (words text)) (sym spelled) ∙ text_is_read unit formed
