-- Members of a unit, in order, are spelled as their words.
use Rattle.std.proofs.Common.{◌≡◌, ℕ, Bool, is_some, List, [], ◌∷◌, ◌++◌, refl, ap, ◌∙◌}
use Rattle.std.specs.List.{AllByRecursion, flat_map}
use Rattle.dj_names.specs.Identifiers.{IsIdentifier}
use Rattle.dj_syntax.specs.Trees.{FieldText, MethodText, CompilationUnit}
use Rattle.dj_syntax.specs.Items.{render}
use Rattle.dj_syntax.specs.UnitText.{full_names, is_interface, members_items, field_items, helper_items, method_items}
use Rattle.dj_syntax.specs.WellFormed.{IsWellFormed, class_name, IsWellFormedField, IsWellFormedMethod}
use Rattle.dj_tokens.specs.Words.{Words, words}
use Rattle.dj_grammar.proofs.Spelled.{then_text}
use Rattle.dj_grammar.proofs.UnitNames.{IsReadable, readable}
use Rattle.dj_grammar.proofs.FieldsAreSpelled.{field_words, field_is_spelled, helper_words, helper_is_spelled}
use Rattle.dj_grammar.proofs.MethodsAreSpelled.{method_words, method_is_spelled}

-- the words of fields, in front of others
abbrev pub fields_words : Bool → List FieldText → Words → Words
fields_words interface [] after = after
fields_words interface (field ∷ rest) after = field_words interface field (fields_words interface rest after)

-- the words of methods, in front of others
abbrev pub methods_words : CompilationUnit → Bool → List MethodText → Words → Words
methods_words unit interface [] after = after
methods_words unit interface (method ∷ rest) after = method_words unit interface method (methods_words unit interface rest after)

fields_are_spelled : (unit : CompilationUnit) (interface : Bool) (fields : List FieldText) (text : List ℕ) → AllByRecursion (IsWellFormedField interface) fields → words (render (flat_map (field_items (full_names unit) interface) fields) ++ text) ≡ fields_words interface fields (words text)
fields_are_spelled unit interface [] text formed = refl
fields_are_spelled unit interface (field ∷ rest) text (here, there) =
    let more = flat_map (field_items (full_names unit) interface) rest in
    ap words (then_text (field_items (full_names unit) interface field) more text)
    ∙ field_is_spelled unit interface field (render more ++ text) here ∙ ap (field_words interface field) (fields_are_spelled unit interface rest text there)

methods_are_spelled : (unit : CompilationUnit) (class : List ℕ) (interface : Bool) (methods : List MethodText) (text : List ℕ) → IsReadable unit → AllByRecursion (IsWellFormedMethod interface (is_some unit.helper) class) methods
    → words (render (flat_map (method_items (full_names unit) interface) methods) ++ text) ≡ methods_words unit interface methods (words text)
methods_are_spelled unit class interface [] text own_is formed = refl
methods_are_spelled unit class interface (method ∷ rest) text own_is (here, there) =
    let more = flat_map (method_items (full_names unit) interface) rest in
    ap words (then_text (method_items (full_names unit) interface method) more text)
    ∙ method_is_spelled unit class interface method (render more ++ text) own_is here ∙ ap (method_words unit interface method) (methods_are_spelled unit class interface rest text own_is there)

-- the words of members, in front of others
abbrev pub members_words : CompilationUnit → Words → Words
members_words unit after =
    fields_words (is_interface unit.flags) unit.fields (helper_words unit.helper (methods_words unit (is_interface unit.flags) unit.methods after))

-- members are spelled as their words
pub members_are_spelled : (unit : CompilationUnit) (text : List ℕ) → IsWellFormed unit → words (render (members_items (full_names unit) unit) ++ text) ≡ members_words unit (words text)
members_are_spelled unit text formed =
    let interface = is_interface unit.flags in
    let fields = flat_map (field_items (full_names unit) interface) unit.fields in
    let helper = helper_items unit.helper in
    let methods = flat_map (method_items (full_names unit) interface) unit.methods in
    ap words (then_text fields (helper ++ methods) text)
    ∙ fields_are_spelled unit interface unit.fields (render (helper ++ methods) ++ text) formed.fields
    ∙ ap (λ text. fields_words interface unit.fields (words text)) (then_text helper methods text)
    ∙ ap (fields_words interface unit.fields) (helper_is_spelled unit.helper (render methods ++ text) formed.helper)
    ∙ ap (λ after. fields_words interface unit.fields (helper_words unit.helper after)) (methods_are_spelled unit (class_name unit) interface unit.methods text (readable unit formed) formed.methods)
