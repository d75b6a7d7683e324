-- What the words of members spell is read from them, up to the brace that ends their unit.
use Rattle.std.proofs.Common.{◌≡◌, ℕ, zero, suc, ◌+◌, ◌≤◌, ◌==◌, Bool, true, false, ◌&&◌, List, [], ◌∷◌, ◌++◌, length, Option, Some, None, is_some, bit_and, refl, sym, ap, ◌∙◌, subst, arith, append_assoc, append-nil}
use Rattle.std.specs.Prelude.{codes, if◌then◌else◌}
use Rattle.std.specs.List.{AllByRecursion}
use Rattle.dj_names.specs.Identifiers.{IsIdentifier}
use Rattle.dj_names.specs.Types.{result_of}
use Rattle.dj_syntax.specs.Trees.{FieldText, MethodText, CompilationUnit}
use Rattle.dj_syntax.specs.UnitText.{field_bits, method_bits, is_interface, is_constructor, is_initialiser}
use Rattle.dj_syntax.specs.WellFormed.{IsWellFormed, IsWellFormedField, IsWellFormedMethod, class_name}
use Rattle.dj_tokens.specs.Words.{Words}
use Rattle.dj_grammar.specs.Members.{Place, Members, no_members, read_member, read_members, ends_members, with_field, with_helper, with_method}
use Rattle.dj_tokens.proofs.Runs.{identifier_run, run_differs}
use Rattle.dj_grammar.proofs.TypesBegin.{identifier_begins, type_begins, result_begins}
use Rattle.dj_grammar.proofs.ModifiersAreRead.{modifiers_last}
use Rattle.dj_grammar.proofs.FieldsAreSpelled.{value_words, field_words, helper_words}
use Rattle.dj_grammar.proofs.MethodsAreSpelled.{body_words, default_words, taking_words, method_words, result_named}
use Rattle.dj_grammar.proofs.MembersAreSpelled.{fields_words, methods_words, members_words}
use Rattle.dj_grammar.proofs.UnitNames.{IsReadable, readable}
use Rattle.dj_grammar.proofs.FieldsAreRead.{field_is_read, helper_is_read}
use Rattle.dj_grammar.proofs.MethodKindsAreRead.{method_is_read}

-- ---- no member begins with a brace

field_last : (interface : Bool) (field : FieldText) (list : Words) → IsWellFormedField interface field → ends_members (field_words interface field list) ≡ false
field_last interface field list formed =
    let parenthesis = run_differs field.name (codes "(") (identifier_run field.name formed.name) refl in
    modifiers_last (bit_and field.flags (field_bits interface (is_some field.value))) _ (type_begins field.kind (field.name ∷ value_words field.value list) formed.kind parenthesis).first.last

default_last : (interface : Bool) (method : MethodText) (list : Words) → ends_members list ≡ false → ends_members (default_words interface method list) ≡ false
default_last interface method list other = go (interface && (is_some method.body && (bit_and method.flags 0x0008 == 0)))
  where
    go : (given : Bool) → ends_members (if given then codes "default" ∷ list else list) ≡ false
    go true = refl
    go false = other

method_last : (unit : CompilationUnit) (class : List ℕ) (interface : Bool) (method : MethodText) (list : Words) → IsReadable unit → IsWellFormedMethod interface (is_some unit.helper) class method → ends_members (method_words unit interface method list) ≡ false
method_last unit class interface method list own_is formed = go (is_initialiser method.name) (is_constructor method.name) refl refl
  where
    go : (initialiser constructor : Bool) → is_initialiser method.name ≡ initialiser → is_constructor method.name ≡ constructor → ends_members (method_words unit interface method list) ≡ false
    go true constructor initialiser_is constructor_is = rw initialiser_is
    go false true initialiser_is constructor_is =
        let begins = identifier_begins unit.name (taking_words method (body_words unit method.body list)) own_is.name in
        rw (initialiser_is, constructor_is) (modifiers_last (bit_and method.flags (method_bits interface)) _ (default_last interface method _ begins.last))
    go false false initialiser_is constructor_is =
        let identifier : IsIdentifier method.name = rw (constructor_is, initialiser_is) at formed.name in
        let parenthesis = run_differs method.name (codes "(") (identifier_run method.name identifier) refl in
        let begins = result_begins (result_of method.descriptor) (method.name ∷ taking_words method (body_words unit method.body list)) (result_named method.descriptor formed.descriptor) parenthesis in
        rw (initialiser_is, constructor_is) (modifiers_last (bit_and method.flags (method_bits interface)) _ (default_last interface method _ begins.first.last))

-- ---- members, one after another

-- so many members and no more make the result
abbrev Reads : Place → ℕ → Members → Words → Members → Type 0
Reads place count members list result = (most : ℕ) → count ≤ most → read_members place most members list ≡ result

reads_end : (place : Place) (members : Members) (rest : Words) → Reads place 0 members (codes "}" ∷ rest) members
reads_end place members rest zero some = refl
reads_end place members rest (suc most) some = refl

reads_one : (place : Place) (count : ℕ) (members more : Members) (list rest : Words) (result : Members) → ends_members list ≡ false → read_member place members list ≡ (more, rest) → Reads place count more rest result → Reads place (count + 1) members list result
reads_one place count members more list rest result other read others zero some = absurd (omega arith)
reads_one place count members more list rest result other read others (suc most) some =
    rw other (ap (λ read. read_members place most read.0 read.1) read ∙ others most (omega arith))

-- these methods more
abbrev with_methods : Members → List MethodText → Members
with_methods members methods = record { fields = members.fields; helper = members.helper; methods = members.methods ++ methods }

methods_are_read : (place : Place) (unit : CompilationUnit) (members : Members) (methods : List MethodText) (rest : Words) → IsReadable unit → AllByRecursion (IsWellFormedMethod place.interface (is_some unit.helper) place.class) methods
    → Reads place (length methods) members (methods_words unit place.interface methods (codes "}" ∷ rest)) (with_methods members methods)
methods_are_read place unit members [] rest own_is formed most some =
    reads_end place members rest most some ∙ ap (λ methods. record { fields = members.fields; helper = members.helper; methods = methods }) (sym (append-nil members.methods))
methods_are_read place unit members (method ∷ others) rest own_is (here, there) most some =
    let list = methods_words unit place.interface others (codes "}" ∷ rest) in
    reads_one place (length others) members (with_method members method) (method_words unit place.interface method list) list (with_methods (with_method members method) others)
    (method_last unit place.class place.interface method list own_is here) (method_is_read place members unit method list own_is here) (methods_are_read place unit (with_method members method) others rest own_is there) most (omega arith)
    ∙ ap (λ methods. record { fields = members.fields; helper = members.helper; methods = methods }) (append_assoc members.methods (method ∷ []) others)

-- this helper, where there is one
abbrev with_option : Members → Option (List ℕ) → Members
with_option members None = members
with_option members (Some name) = with_helper members name

helper_goes_on : (place : Place) (count : ℕ) (members : Members) (helper : Option (List ℕ)) (rest : Words) (result : Members) → Reads place count (with_option members helper) rest result → Reads place (count + 1) members (helper_words helper rest) result
helper_goes_on place count members None rest result others most some = others most (omega arith)
helper_goes_on place count members (Some name) rest result others most some =
    reads_one place count members (with_helper members name) (helper_words (Some name) rest) rest result refl (helper_is_read place members name rest) others most some

-- these fields more
abbrev with_fields : Members → List FieldText → Members
with_fields members fields = record { fields = members.fields ++ fields; helper = members.helper; methods = members.methods }

fields_go_on : (place : Place) (count : ℕ) (members : Members) (fields : List FieldText) (rest : Words) (result : Members) → AllByRecursion (IsWellFormedField place.interface) fields → Reads place count (with_fields members fields) rest result
    → Reads place (length fields + count) members (fields_words place.interface fields rest) result
fields_go_on place count members [] rest result formed others most some =
    ap (λ fields. read_members place most (record { fields = fields; helper = members.helper; methods = members.methods }) rest) (sym (append-nil members.fields)) ∙ others most (omega arith)
fields_go_on place count members (field ∷ more) rest result (here, there) others most some =
    let list = fields_words place.interface more rest in
    let same = append_assoc members.fields (field ∷ []) more in
    reads_one place (length more + count) members (with_field members field) (field_words place.interface field list) list result
    (field_last place.interface field list here) (field_is_read place members field list here)
    (fields_go_on place count (with_field members field) more rest result there (subst (λ fields. Reads place count (record { fields = fields; helper = members.helper; methods = members.methods }) rest result) (sym same) others)) most (omega arith)

-- the members of a unit
abbrev pub members_of : CompilationUnit → Members
members_of unit = record { fields = unit.fields; helper = unit.helper; methods = unit.methods }

all_members : (fields : List FieldText) (helper : Option (List ℕ)) (methods : List MethodText) → with_methods (with_option (with_fields no_members fields) helper) methods ≡ record { fields = fields; helper = helper; methods = methods }
all_members fields None methods = refl
all_members fields (Some name) methods = refl

-- the members of a unit are read from their words, where so many are allowed
pub members_are_read : (unit : CompilationUnit) (rest : Words) (most : ℕ) → IsWellFormed unit → length unit.fields + (length unit.methods + 1) ≤ most
    → read_members (record { interface = is_interface unit.flags; class = class_name unit }) most no_members (members_words unit (codes "}" ∷ rest)) ≡ members_of unit
members_are_read unit rest most formed some =
    let place : Place = record { interface = is_interface unit.flags; class = class_name unit } in
    let fielded = with_fields no_members unit.fields in
    fields_go_on place (length unit.methods + 1) no_members unit.fields (helper_words unit.helper (methods_words unit place.interface unit.methods (codes "}" ∷ rest))) (members_of unit) formed.fields
    (helper_goes_on place (length unit.methods) fielded unit.helper (methods_words unit place.interface unit.methods (codes "}" ∷ rest)) (members_of unit)
    (λ most some. methods_are_read place unit (with_option fielded unit.helper) unit.methods rest (readable unit formed) formed.methods most some ∙ all_members unit.fields unit.helper unit.methods)) most some
