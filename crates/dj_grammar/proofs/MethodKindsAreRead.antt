-- A method, a constructor and a static initialiser are read from their words, whatever follows.
use Rattle.std.proofs.Common.{◌≡◌, ℕ, Bool, true, false, List, [], ◌∷◌, ◌++◌, Option, Some, None, is_some, bit_and, refl, sym, ap, ◌∙◌}
use Rattle.std.specs.Prelude.{codes}
use Rattle.std.specs.Cmp.Lexicographic.{same_text}
use Rattle.std.proofs.lemmas.Bool.{true≢false}
use Rattle.dj_names.specs.Types.{JType, Descriptor, Field, Method}
use Rattle.dj_names.specs.Identifiers.{IsIdentifier}
use Rattle.dj_syntax.specs.Trees.{Body, MethodText, CompilationUnit}
use Rattle.dj_syntax.specs.UnitText.{full_names, method_bits, is_constructor, is_initialiser}
use Rattle.dj_syntax.specs.WellFormed.{IsWellFormedMethod, IsInitialiser}
use Rattle.dj_tokens.specs.Words.{Words, begins, is_letter, is_word}
use Rattle.dj_grammar.specs.Members.{Place, Members, head_of, body_of, method_of, read_method, read_modified, read_named, read_member, with_method}
use Rattle.dj_tokens.proofs.Runs.{identifier_run, run_differs}
use Rattle.dj_grammar.proofs.StatementLists.{list_of}
use Rattle.dj_grammar.proofs.StatementsAreRead.{body_read}
use Rattle.dj_grammar.proofs.UnitNames.{IsReadable, read_names_of}
use Rattle.dj_grammar.proofs.TypesAreRead.{result_words, result_is_read}
use Rattle.dj_grammar.proofs.TypesBegin.{identifier_begins, result_begins}
use Rattle.dj_grammar.proofs.ModifiersAreRead.{modifiers_begin}
use Rattle.dj_grammar.proofs.FieldsAreRead.{named_goes_on}
use Rattle.dj_grammar.proofs.MethodsAreSpelled.{body_words, default_words, taking_words, method_words}
use Rattle.dj_grammar.proofs.MethodsAreRead.{method_bits-modifiers, body_is_made, taken_is_read, default_is_read, constructor_goes_on, named_method_goes_on}

-- ---- a constructor

constructor_is_read : (place : Place) (members : Members) (unit : CompilationUnit) (flags : ℕ) (name : List ℕ) (kinds : List JType) (result : Option JType) (thrown : List (List ℕ)) (body : Option Body) (list : Words)
    → IsReadable unit → is_constructor name ≡ true → IsWellFormedMethod place.interface (is_some unit.helper) place.class (head_of flags name (Method kinds result) thrown body)
    → read_member place members (method_words unit place.interface (head_of flags name (Method kinds result) thrown body) list) ≡ (with_method members (head_of flags name (Method kinds result) thrown body), list)
constructor_is_read place members unit flags name kinds result thrown body list own_is constructor formed =
    let method = head_of flags name (Method kinds result) thrown body in
    let bits = bit_and flags (method_bits place.interface) in
    let same : name ≡ codes "<init>" = same_text name (codes "<init>") (sym constructor) in
    let none : result ≡ None = rw constructor at formed.name in
    let other : is_initialiser name ≡ false = ap is_initialiser same in
    let taking = taking_words method (body_words unit body list) in
    let begins = identifier_begins unit.name taking own_is.name in
    rw (other, constructor)
    (ap (λ head. read_modified place members head.0 head.1) (modifiers_begin flags (method_bits place.interface) (default_words place.interface method (unit.name ∷ taking)) (method_bits-modifiers place.interface) ∙ default_is_read place.interface method bits (unit.name ∷ taking) begins)
    ∙ constructor_goes_on place members bits unit taking method list begins refl ((λ i. read_method place bits (sym same i) (sym none i) taking) ∙ taken_is_read unit own_is place flags name kinds result thrown body list other formed))

-- ---- a method

named_method_is_read : (place : Place) (members : Members) (unit : CompilationUnit) (flags : ℕ) (name : List ℕ) (kinds : List JType) (result : Option JType) (thrown : List (List ℕ)) (body : Option Body) (list : Words)
    → IsReadable unit → is_constructor name ≡ false → is_initialiser name ≡ false → IsWellFormedMethod place.interface (is_some unit.helper) place.class (head_of flags name (Method kinds result) thrown body)
    → read_member place members (method_words unit place.interface (head_of flags name (Method kinds result) thrown body) list) ≡ (with_method members (head_of flags name (Method kinds result) thrown body), list)
named_method_is_read place members unit flags name kinds result thrown body list own_is constructor initialiser formed =
    let method = head_of flags name (Method kinds result) thrown body in
    let bits = bit_and flags (method_bits place.interface) in
    let identifier : IsIdentifier name = rw (constructor, initialiser) at formed.name in
    let differs : (sign : List ℕ) → begins is_letter sign ≡ false → is_word name sign ≡ false = λ sign other. run_differs name sign (identifier_run name identifier) other in
    let taking = taking_words method (body_words unit body list) in
    let begins = result_begins result (name ∷ taking) formed.descriptor.1 (differs (codes "(") refl) in
    rw (initialiser, constructor)
    (ap (λ head. read_modified place members head.0 head.1) (modifiers_begin flags (method_bits place.interface) (default_words place.interface method (result_words result ++ name ∷ taking)) (method_bits-modifiers place.interface) ∙ default_is_read place.interface method bits (result_words result ++ name ∷ taking) begins.first)
    ∙ named_goes_on place members bits (result_words result ++ name ∷ taking) begins
    ∙ ap (λ read. read_named place members bits read.0 read.1) (result_is_read result (name ∷ taking) formed.descriptor.1 (differs (codes ".") refl, differs (codes "[") refl))
    ∙ named_method_goes_on place members bits result name taking method list refl (taken_is_read unit own_is place flags name kinds result thrown body list initialiser formed))

-- ---- a static initialiser

initialiser_is_made : (unit : CompilationUnit) (place : Place) (flags : ℕ) (name : List ℕ) (descriptor : Descriptor) (thrown : List (List ℕ)) (body : Body) → is_initialiser name ≡ true → IsInitialiser (head_of flags name descriptor thrown (Some body))
    → IsWellFormedMethod place.interface (is_some unit.helper) place.class (head_of flags name descriptor thrown (Some body)) → method_of place 0x0008 (codes "<clinit>") (Method [] None) [] (Some (list_of body.statements)) ≡ head_of flags name descriptor thrown (Some body)
initialiser_is_made unit place flags name descriptor thrown body initialiser is formed =
    let of_name : codes "<clinit>" ≡ name = sym (same_text name (codes "<clinit>") (sym initialiser)) in
    let held : flags ≡ 0x0008 = rw initialiser at formed.flags in
    (λ i. head_of (sym held i) (of_name i) (sym is.descriptor i) (sym is.thrown i) (Some (body_of place (head_of (sym held i) (of_name i) (sym is.descriptor i) (sym is.thrown i) None) (list_of body.statements))))
    ∙ ap (λ body. head_of flags name descriptor thrown (Some body)) (body_is_made place flags name descriptor thrown body formed.body.head)

initialiser_is_read : (place : Place) (members : Members) (unit : CompilationUnit) (flags : ℕ) (name : List ℕ) (descriptor : Descriptor) (thrown : List (List ℕ)) (body : Option Body) (list : Words)
    → IsReadable unit → is_initialiser name ≡ true → IsInitialiser (head_of flags name descriptor thrown body) → IsWellFormedMethod place.interface (is_some unit.helper) place.class (head_of flags name descriptor thrown body)
    → read_member place members (method_words unit place.interface (head_of flags name descriptor thrown body) list) ≡ (with_method members (head_of flags name descriptor thrown body), list)
initialiser_is_read place members unit flags name descriptor thrown None list own_is initialiser is formed = absurd (true≢false (sym is.body))
initialiser_is_read place members unit flags name descriptor thrown (Some body) list own_is initialiser is formed =
    rw initialiser
    (ap (λ read. (with_method members (method_of place 0x0008 (codes "<clinit>") (Method [] None) [] (Some read.0)), read.1)) (body_read (full_names unit) (is_some unit.helper) (read_names_of unit own_is) body.statements list formed.body.statements)
    ∙ ap (λ method. (with_method members method, list)) (initialiser_is_made unit place flags name descriptor thrown body initialiser is formed))

-- ---- all of them

of_one_kind : (place : Place) (members : Members) (unit : CompilationUnit) (flags : ℕ) (name : List ℕ) (kinds : List JType) (result : Option JType) (thrown : List (List ℕ)) (body : Option Body) (list : Words) (constructor initialiser : Bool)
    → IsReadable unit → is_constructor name ≡ constructor → is_initialiser name ≡ initialiser → IsWellFormedMethod place.interface (is_some unit.helper) place.class (head_of flags name (Method kinds result) thrown body)
    → read_member place members (method_words unit place.interface (head_of flags name (Method kinds result) thrown body) list) ≡ (with_method members (head_of flags name (Method kinds result) thrown body), list)
of_one_kind place members unit flags name kinds result thrown body list true initialiser own_is constructor_is initialiser_is formed =
    constructor_is_read place members unit flags name kinds result thrown body list own_is constructor_is formed
of_one_kind place members unit flags name kinds result thrown body list false true own_is constructor_is initialiser_is formed =
    initialiser_is_read place members unit flags name (Method kinds result) thrown body list own_is initialiser_is (rw (constructor_is, initialiser_is) at formed.name) formed
of_one_kind place members unit flags name kinds result thrown body list false false own_is constructor_is initialiser_is formed =
    named_method_is_read place members unit flags name kinds result thrown body list own_is constructor_is initialiser_is formed

of_descriptor : (place : Place) (members : Members) (unit : CompilationUnit) (flags : ℕ) (name : List ℕ) (descriptor : Descriptor) (thrown : List (List ℕ)) (body : Option Body) (list : Words)
    → IsReadable unit → IsWellFormedMethod place.interface (is_some unit.helper) place.class (head_of flags name descriptor thrown body)
    → read_member place members (method_words unit place.interface (head_of flags name descriptor thrown body) list) ≡ (with_method members (head_of flags name descriptor thrown body), list)
of_descriptor place members unit flags name (Field kind) thrown body list own_is formed = absurd formed.descriptor
of_descriptor place members unit flags name (Method kinds result) thrown body list own_is formed =
    of_one_kind place members unit flags name kinds result thrown body list (is_constructor name) (is_initialiser name) own_is refl refl formed

-- a method is read from its words
pub method_is_read : (place : Place) (members : Members) (unit : CompilationUnit) (method : MethodText) (list : Words) → IsReadable unit → IsWellFormedMethod place.interface (is_some unit.helper) place.class method
    → read_member place members (method_words unit place.interface method list) ≡ (with_method members method, list)
method_is_read place members unit method list own_is formed =
    of_descriptor place members unit method.flags method.name method.descriptor method.thrown method.body list own_is formed
