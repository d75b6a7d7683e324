-- Methods, constructors and static initialisers are spelled as their words.
use Rattle.std.proofs.Common.{◌≡◌, ℕ, ◌==◌, Bool, true, false, ◌&&◌, List, [], ◌∷◌, ◌++◌, Option, Some, None, IfSome, is_some, bit_and, refl, ap, ◌∙◌}
use Rattle.std.specs.Prelude.{codes, if◌then◌else◌}
use Rattle.std.specs.List.{AllByRecursion}
use Rattle.dj_names.specs.Identifiers.{IsIdentifier}
use Rattle.dj_names.specs.Types.{Descriptor, Field, Method, parameters_of, result_of}
use Rattle.dj_syntax.specs.Trees.{Body, MethodText, CompilationUnit}
use Rattle.dj_syntax.specs.Items.{Item, Line, Space, render}
use Rattle.dj_syntax.specs.UnitText.{full_names, word, sign, result_items, modifiers_items, method_bits, parameters_items, classes_items, body_items, stms_items, default_items, name_items, head_items, method_items, is_constructor, is_initialiser}
use Rattle.dj_syntax.specs.WellFormed.{IsWellFormedMethod, IsWellFormedBody, AreWellFormedStms, IsNamed, IsQualified, IsMethodDescriptor}
use Rattle.dj_tokens.specs.Words.{Words, words, begins, is_letter}
use Rattle.dj_tokens.proofs.Runs.{identifier_run}
use Rattle.dj_grammar.proofs.StatementWords.{stms_words}
use Rattle.dj_grammar.proofs.StatementsAreSpelled.{stms_are_spelled, line_text}
use Rattle.dj_grammar.proofs.UnitNames.{IsReadable, spelled_names}
use Rattle.dj_grammar.proofs.NamesAreRead.{names_words}
use Rattle.dj_grammar.proofs.TypesAreRead.{result_words, parameters_words}
use Rattle.dj_grammar.proofs.ModifiersAreRead.{modifiers_words, modifiers_are_words}
use Rattle.dj_grammar.proofs.Spelled.{then_text, spelled_before, freely_before, word_before}
use Rattle.dj_grammar.proofs.NamesAreSpelled.{result_is_spelled, parameters_are_spelled, classes_are_spelled}

-- the words of a body, in front of others
abbrev pub body_words : CompilationUnit → Option Body → Words → Words
body_words unit None after = codes ";" ∷ after
body_words unit (Some body) after = codes "{" ∷ (stms_words (full_names unit) body.statements ++ codes "}" ∷ after)

-- the word of a method that an interface gives a body
abbrev pub default_words : Bool → MethodText → Words → Words
default_words interface method after =
    if interface && (is_some method.body && (bit_and method.flags 0x0008 == 0)) then codes "default" ∷ after else after

-- the words of a method's result and name, in front of others
abbrev pub named_words : CompilationUnit → MethodText → Words → Words
named_words unit method after =
    if is_constructor method.name then unit.name ∷ after else result_words (result_of method.descriptor) ++ method.name ∷ after

-- the words of a method's parameters and of what it throws, in front of others
abbrev pub taking_words : MethodText → Words → Words
taking_words method after = codes "(" ∷ (parameters_words (parameters_of method.descriptor) ++ codes ")" ∷ (names_words (codes "throws") method.thrown ++ after))

-- the words of a method's head, in front of others
abbrev pub head_words : CompilationUnit → Bool → MethodText → Words → Words
head_words unit interface method after =
    modifiers_words (bit_and method.flags (method_bits interface)) ++ default_words interface method (named_words unit method (taking_words method after))

-- the words of a method, in front of others
abbrev pub method_words : CompilationUnit → Bool → MethodText → Words → Words
method_words unit interface method after =
    if is_initialiser method.name then codes "static" ∷ body_words unit method.body after else head_words unit interface method (body_words unit method.body after)

body_ends : (unit : CompilationUnit) (body : Option Body) (text : List ℕ) → begins is_letter (render (body_items (full_names unit) body) ++ text) ≡ false
body_ends unit None text = refl
body_ends unit (Some body) text = refl

body_is_spelled : (unit : CompilationUnit) (body : Option Body) (text : List ℕ) → IsReadable unit → IfSome body (λ body. AreWellFormedStms (is_some unit.helper) body.statements) → words (render (body_items (full_names unit) body) ++ text) ≡ body_words unit body (words text)
body_is_spelled unit None text own_is well = refl
body_is_spelled unit (Some body) text own_is well =
    ap (λ after. codes "{" ∷ after)
    (spelled_before is_letter (stms_items (full_names unit) 2 body.statements) (Line 1 ∷ sign (codes "}") ∷ []) (stms_words (full_names unit) body.statements) (codes "}" ∷ words text) text (stms_are_spelled unit (is_some unit.helper) (spelled_names unit own_is) 2 body.statements well) refl refl)

default_is_spelled : (interface : Bool) (method : MethodText) (text : List ℕ) → words (render (default_items interface method) ++ text) ≡ default_words interface method (words text)
default_is_spelled interface method text = go (interface && (is_some method.body && (bit_and method.flags 0x0008 == 0)))
  where
    go : (given : Bool) → words (render (if given then word (codes "default") ∷ Space ∷ [] else []) ++ text) ≡ (if given then codes "default" ∷ words text else words text)
    go true = refl
    go false = refl

-- a method's result and name are spelled where they can be written
name_is_spelled : (unit : CompilationUnit) (method : MethodText) (constructor : Bool) → is_constructor method.name ≡ constructor → IsReadable unit → (constructor ≡ false → IsIdentifier method.name) → IfSome (result_of method.descriptor) IsNamed
    → (text : List ℕ) → begins is_letter text ≡ false → words (render (name_items (full_names unit) method) ++ text) ≡ named_words unit method (words text)
name_is_spelled unit method true is own_is named result text ends =
    rw is (word_before unit.name [] (words text) text (identifier_run unit.name own_is.name) ends refl)
name_is_spelled unit method false is own_is named result text ends =
    rw is (spelled_before is_letter (result_items (full_names unit) (result_of method.descriptor)) (Space ∷ word method.name ∷ []) (result_words (result_of method.descriptor)) (method.name ∷ words text) text (result_is_spelled unit (result_of method.descriptor) result) refl
    (word_before method.name [] (words text) text (identifier_run method.name (named refl)) ends refl))

-- the parameters of a method and what it throws
abbrev taking_items : CompilationUnit → MethodText → List Item
taking_items unit method =
    sign (codes "(") ∷ (parameters_items (full_names unit) (parameters_of method.descriptor) ++ sign (codes ")") ∷ classes_items (full_names unit) (codes "throws") method.thrown)

taking_is_spelled : (unit : CompilationUnit) (method : MethodText) → AllByRecursion IsNamed (parameters_of method.descriptor) → AllByRecursion IsQualified method.thrown → (text : List ℕ) → begins is_letter text ≡ false
    → words (render (taking_items unit method) ++ text) ≡ taking_words method (words text)
taking_is_spelled unit method parameters thrown text ends =
    let throws = classes_items (full_names unit) (codes "throws") method.thrown in
    ap (λ after. codes "(" ∷ after)
    (spelled_before is_letter (parameters_items (full_names unit) (parameters_of method.descriptor)) (sign (codes ")") ∷ throws) (parameters_words (parameters_of method.descriptor)) (codes ")" ∷ (names_words (codes "throws") method.thrown ++ words text)) text (parameters_are_spelled unit (parameters_of method.descriptor) parameters) refl
    (ap (λ after. codes ")" ∷ after) (classes_are_spelled unit (codes "throws") method.thrown (λ text. refl) thrown text ends)))

parameters_named : (descriptor : Descriptor) → IsMethodDescriptor descriptor → AllByRecursion IsNamed (parameters_of descriptor)
parameters_named (Field kind) named = absurd named
parameters_named (Method parameters result) named = named.0

-- the result of a method can be written
pub result_named : (descriptor : Descriptor) → IsMethodDescriptor descriptor → IfSome (result_of descriptor) IsNamed
result_named (Field kind) named = absurd named
result_named (Method parameters result) named = named.1

head_is_spelled : (unit : CompilationUnit) (class : List ℕ) (interface : Bool) (method : MethodText) → IsReadable unit → IsWellFormedMethod interface (is_some unit.helper) class method → is_initialiser method.name ≡ false → (text : List ℕ) → begins is_letter text ≡ false
    → words (render (head_items (full_names unit) interface method) ++ text) ≡ head_words unit interface method (words text)
head_is_spelled unit class interface method own_is formed other text ends =
    let bits = bit_and method.flags (method_bits interface) in
    let identifier : is_constructor method.name ≡ false → IsIdentifier method.name = (λ no. let name = formed.name in rw (no, other) at name) in
    let taking = taking_is_spelled unit method (parameters_named method.descriptor formed.descriptor) formed.thrown text ends in
    let name = ap words (then_text (name_items (full_names unit) method) (taking_items unit method) text)
    ∙ name_is_spelled unit method (is_constructor method.name) refl own_is identifier (result_named method.descriptor formed.descriptor) (render (taking_items unit method) ++ text) refl
    ∙ ap (named_words unit method) taking in
    let given = ap words (then_text (default_items interface method) (name_items (full_names unit) method ++ taking_items unit method) text)
    ∙ default_is_spelled interface method (render (name_items (full_names unit) method ++ taking_items unit method) ++ text)
    ∙ ap (default_words interface method) name in
    freely_before (modifiers_items bits) (default_items interface method ++ (name_items (full_names unit) method ++ taking_items unit method)) (modifiers_words bits) (default_words interface method (named_words unit method (taking_words method (words text)))) text (modifiers_are_words bits) given

statements_well : (unit : CompilationUnit) (class : List ℕ) (method : MethodText) (body : Option Body) → IfSome body (IsWellFormedBody (is_some unit.helper) class method) → IfSome body (λ body. AreWellFormedStms (is_some unit.helper) body.statements)
statements_well unit class method None formed = tt
statements_well unit class method (Some body) formed = formed.statements

-- a method is spelled as its words
pub method_is_spelled : (unit : CompilationUnit) (class : List ℕ) (interface : Bool) (method : MethodText) (text : List ℕ) → IsReadable unit → IsWellFormedMethod interface (is_some unit.helper) class method → words (render (method_items (full_names unit) interface method) ++ text) ≡ method_words unit interface method (words text)
method_is_spelled unit class interface method text own_is formed = go (is_initialiser method.name) refl
  where
    go : (initialiser : Bool) → is_initialiser method.name ≡ initialiser → words (render (method_items (full_names unit) interface method) ++ text) ≡ method_words unit interface method (words text)
    go true e =
        rw e (word_before (codes "static") (body_items (full_names unit) method.body) (body_words unit method.body (words text)) text (refl, (refl, (refl, (refl, (refl, (refl, tt)))))) (body_ends unit method.body text) (body_is_spelled unit method.body text own_is (statements_well unit class method method.body formed.body)))
    go false e =
        rw e (ap words (then_text (head_items (full_names unit) interface method) (body_items (full_names unit) method.body) text)
        ∙ head_is_spelled unit class interface method own_is formed e (render (body_items (full_names unit) method.body) ++ text) (body_ends unit method.body text)
        ∙ ap (head_words unit interface method) (body_is_spelled unit method.body text own_is (statements_well unit class method method.body formed.body)))
