-- Statements without statements in them are read from their words (JLS 14.4, 14.8, 14.15 to 14.18).
use Rattle.std.proofs.Common.{◌≡◌, ◌≢◌, ℕ, ◌<◌, ◌^◌, Bool, true, false, List, [], ◌∷◌, ◌++◌, refl, sym, ap, ◌∙◌, inl, inr, append_assoc}
use Rattle.std.specs.Prelude.{codes, Option, Some, None, IfSome, option_map, if◌then◌else◌}
use Rattle.std.proofs.lemmas.Bool.{false≢true}
use Rattle.dj_names.specs.Types.{JType}
use Rattle.dj_syntax.specs.declared.variable.Var.{Var}
use Rattle.dj_syntax.specs.Trees.{Exp, Variable, Static, Exps, exps_of, Stm, Labelled, Declare, Set, Run, Break, Continue, Return, Throw, Rethrow, Construct}
use Rattle.dj_syntax.specs.UnitText.{Spellings, variable_name, label_name, shape, is_atom}
use Rattle.dj_syntax.specs.WellFormed.{IsQualified, IsNamed, IsWellFormedExp, AreWellFormedExps, is_call}
use Rattle.dj_tokens.specs.declared.tokens.Token.TheVariants as token
use Rattle.dj_tokens.specs.Words.{Words}
use Rattle.dj_tokens.specs.Tokens.{token_of}
use Rattle.dj_tokens.specs.Literals.{variable_of}
use Rattle.dj_tokens.specs.Dotted.{DottedName, value_or}
use Rattle.dj_tokens.specs.Dotted.{begun as one_word}
use Rattle.dj_grammar.specs.Frames.{Callee, OfObject, OfClass, Above, Creation, Own, Helper, Arguments, Start, Stored, Initial, Pending, Opens, called}
use Rattle.dj_grammar.specs.Readings.{Reading, Wanted, Negation, Head, Named, Behind, Typed, Sized, Called, Declared, Selecting, Stands, Helping, Lost, ended}
use Rattle.dj_grammar.specs.Brackets.{enclosing}
use Rattle.dj_grammar.specs.Steps.{read_word, read_words, assigns, starting}
use Rattle.dj_grammar.proofs.NamesAreRead.{name_words}
use Rattle.dj_grammar.proofs.TypesAreRead.{type_words}
use Rattle.dj_grammar.proofs.NamesStand.{read_words-append, read_as as word_reads, IsType, name_stands, type_stands}
use Rattle.dj_grammar.proofs.TokensAreRead.{variable_token, label_token, variable_is_read, number_is_read}
use Rattle.dj_grammar.proofs.ExpressionWords.{enclosed, exp_words, arguments_words}
use Rattle.dj_grammar.proofs.ExpressionsStand.{is_special, stands_special, IsPlain, IsOperand, IsWhole, operand_is_whole}
use Rattle.dj_grammar.proofs.ExpressionsAreRead.{list_of as words_list, exps_of-list_of, variable_value, arguments_stand, exp_read, exps_read}
use Rattle.dj_grammar.specs.Open.{Frame, Listed, Clause, Simple, ReturnOf, ThrowOf, BreakOf, ContinueOf, flushed, with_last}
use Rattle.dj_grammar.specs.Statements.{Blocks, beginning, ready, completed_or, store, end_value, end_simple, value_in, thrown, end_clause, read_statements}
use Rattle.dj_grammar.proofs.StatementWords.{stored_words, value_words, runtime_words, stm_words}
use Rattle.dj_grammar.proofs.PlainWords.{is_plain, plain_append, enclosed_plain, name_plain, type_plain, exp_plain, arguments_plain}
use Rattle.dj_grammar.proofs.PlainWordsPass.{takes_colon, within, plain_words_pass, step}
use Rattle.dj_grammar.proofs.StatementLists.{begun}
use Rattle.dj_grammar.proofs.StatementParts.{IsReadAs}

-- ---- statements of an expression

-- a value that a semicolon ends, in a statement without a keyword
simple_ends : (blocks : Blocks) (reading : Reading) → stands_special reading ≡ false → end_simple blocks reading ≡ end_value blocks (ended reading)
simple_ends blocks (Wanted pending) plainly = refl
simple_ends blocks (Negation pending) plainly = refl
simple_ends blocks (Head pending) plainly = refl
simple_ends blocks (Named name pending) plainly = refl
simple_ends blocks (Behind name pending) plainly = refl
simple_ends blocks (Typed kind pending) plainly = refl
simple_ends blocks (Sized kind sizes more pending) plainly = refl
simple_ends blocks (Called (OfObject object name) arguments pending) plainly = refl
simple_ends blocks (Called (OfClass class name) arguments pending) plainly = refl
simple_ends blocks (Called (Above above name) arguments pending) plainly = refl
simple_ends blocks (Called (Creation class) arguments pending) plainly = refl
simple_ends blocks (Called (Own own) arguments pending) plainly = absurd (false≢true (sym plainly))
simple_ends blocks (Called Helper arguments pending) plainly = absurd (false≢true (sym plainly))
simple_ends blocks (Declared kind variable pending) plainly = absurd (false≢true (sym plainly))
simple_ends blocks (Selecting object pending) plainly = refl
simple_ends blocks (Stands value pending) plainly = refl
simple_ends blocks (Helping pending) plainly = refl
simple_ends blocks Lost plainly = refl

throw_ends : (reading : Reading) → stands_special reading ≡ false → thrown reading ≡ option_map Throw (value_in reading)
throw_ends (Wanted pending) plainly = refl
throw_ends (Negation pending) plainly = refl
throw_ends (Head pending) plainly = refl
throw_ends (Named name pending) plainly = refl
throw_ends (Behind name pending) plainly = refl
throw_ends (Typed kind pending) plainly = refl
throw_ends (Sized kind sizes more pending) plainly = refl
throw_ends (Called (OfObject object name) arguments pending) plainly = refl
throw_ends (Called (OfClass class name) arguments pending) plainly = refl
throw_ends (Called (Above above name) arguments pending) plainly = refl
throw_ends (Called (Creation class) arguments pending) plainly = refl
throw_ends (Called (Own own) arguments pending) plainly = absurd (false≢true (sym plainly))
throw_ends (Called Helper arguments pending) plainly = absurd (false≢true (sym plainly))
throw_ends (Declared kind variable pending) plainly = absurd (false≢true (sym plainly))
throw_ends (Selecting object pending) plainly = refl
throw_ends (Stands value pending) plainly = refl
throw_ends (Helping pending) plainly = refl
throw_ends Lost plainly = refl

-- the value of an expression that ends
pub value_of_whole : (e : Exp) (reading : Reading) → IsWhole e [] reading → value_in reading ≡ Some e
value_of_whole e reading whole = ap (option_map (λ ended. ended.0)) whole.ends

-- an expression and a semicolon
value_is_read : (outer : List Frame) (list : Listed) (clause : Clause) (labels : List ℕ) (pending : List Pending) (e : Exp) (rest : Words) → IsWellFormedExp e → takes_colon clause ≡ true
    → read_statements (within outer list clause labels (Wanted pending)) ((exp_words e ++ codes ";" ∷ []) ++ rest)
    ≡ read_statements (end_clause (within outer list clause labels (read_words (Wanted pending) (exp_words e))) clause) rest
value_is_read outer list clause labels pending e rest well takes =
    ap (read_statements (within outer list clause labels (Wanted pending))) (append_assoc (exp_words e) (codes ";" ∷ []) rest)
    ∙ plain_words_pass (exp_words e) (codes ";" ∷ rest) outer list clause labels (Wanted pending) (exp_plain e well) takes
    ∙ step (within outer list clause labels (read_words (Wanted pending) (exp_words e))) (codes ";") rest refl

pub whole_at : (e : Exp) (pending : List Pending) → IsWellFormedExp e → IsPlain pending → starting pending ≡ None → enclosing pending ≡ None → IsWhole e pending (read_words (Wanted pending) (exp_words e))
whole_at e pending well plain fresh outside = (exp_read e well).ends pending plain fresh (λ is. outside)

pub return_is_read : (names : Spellings) (value : Option Exp) → IfSome value IsWellFormedExp → IsReadAs names (Return value)
return_is_read names None well outer list labels rest =
    step (begun outer list labels) (codes "return") (codes ";" ∷ rest) refl
    ∙ step (within outer list ReturnOf labels (Wanted [])) (codes ";") rest refl
return_is_read names (Some e) well outer list labels rest =
    step (begun outer list labels) (codes "return") ((exp_words e ++ codes ";" ∷ []) ++ rest) refl
    ∙ value_is_read outer list ReturnOf labels [] e rest well refl
    ∙ ap (λ value. read_statements (ready outer (with_last (flushed list) (Return value) labels)) rest) (value_of_whole e (read_words (Wanted []) (exp_words e)) (whole_at e [] well (refl, refl) refl refl))

pub throw_is_read : (names : Spellings) (e : Exp) → IsWellFormedExp e → IsReadAs names (Throw e)
throw_is_read names e well outer list labels rest =
    let whole = whole_at e [] well (refl, refl) refl refl in
    let reading = read_words (Wanted []) (exp_words e) in
    step (begun outer list labels) (codes "throw") ((exp_words e ++ codes ";" ∷ []) ++ rest) refl
    ∙ value_is_read outer list ThrowOf labels [] e rest well refl
    ∙ ap (λ made. read_statements (completed_or (within outer list ThrowOf labels reading) made labels) rest) (throw_ends reading whole.plainly ∙ ap (option_map Throw) (value_of_whole e reading whole))

pub run_is_read : (names : Spellings) (e : Exp) → IsWellFormedExp e → is_call e ≡ true → IsReadAs names (Run e)
run_is_read names e well call outer list labels rest =
    let pending = Opens (Start labels) ∷ [] in
    let reading = read_words (Wanted pending) (exp_words e) in
    let whole = operand_is_whole e pending reading (refl, refl) refl ((exp_read e well).made call pending (refl, refl)) in
    value_is_read outer list Simple [] pending e rest well refl
    ∙ ap (λ blocks. read_statements blocks rest)
    (simple_ends (within outer list Simple [] reading) reading whole.plainly ∙ ap (end_value (within outer list Simple [] reading)) whole.ends)

-- ---- stores

called_is_call : (callee : Callee) (arguments : Exps) → is_special callee ≡ false → is_call (called callee arguments) ≡ true
called_is_call (OfObject object name) arguments plainly = refl
called_is_call (OfClass class name) arguments plainly = refl
called_is_call (Above above name) arguments plainly = refl
called_is_call (Creation class) arguments plainly = refl
called_is_call (Own own) arguments plainly = absurd (false≢true (sym plainly))
called_is_call Helper arguments plainly = absurd (false≢true (sym plainly))

-- `=` behind what is no call stores to it
target_stands : (target : Exp) (labels : List ℕ) (reading : Reading) → is_call target ≡ false → IsOperand target (Opens (Start labels) ∷ []) reading → assigns reading ≡ Wanted (Opens (Stored labels target) ∷ [])
target_stands target labels reading no_call (inl is) = rw is refl
target_stands target labels reading no_call (inr (inl is)) = rw is.2 (ap (λ target. Wanted (Opens (Stored labels target) ∷ [])) is.1)
target_stands target labels reading no_call (inr (inr is)) =
    absurd (false≢true (sym no_call ∙ ap is_call (sym is.2) ∙ called_is_call is.0 (exps_of is.1) is.4))

-- what is stored, behind its target
stored_is_read : (outer : List Frame) (list : Listed) (labels : List ℕ) (target e : Exp) (s : Stm) (reading : Reading) (rest : Words) → IsWellFormedExp e → store target e ≡ Some s
    → assigns reading ≡ Wanted (Opens (Stored labels target) ∷ [])
    → read_statements (within outer list Simple [] reading) (stored_words e ++ rest) ≡ read_statements (ready outer (with_last (flushed list) s labels)) rest
stored_is_read outer list labels target e s reading rest well stores opened =
    let pending = Opens (Stored labels target) ∷ [] in
    let value = read_words (Wanted pending) (exp_words e) in
    let whole = whole_at e pending well (refl, refl) refl refl in
    step (within outer list Simple [] reading) (codes "=") ((exp_words e ++ codes ";" ∷ []) ++ rest) refl
    ∙ ap (λ reading. read_statements (within outer list Simple [] reading) ((exp_words e ++ codes ";" ∷ []) ++ rest)) opened
    ∙ value_is_read outer list Simple [] pending e rest well refl
    ∙ ap (λ blocks. read_statements blocks rest)
    (simple_ends (within outer list Simple [] value) value whole.plainly ∙ ap (end_value (within outer list Simple [] value)) whole.ends)
    ∙ ap (λ made. read_statements (completed_or (within outer list Simple [] value) made labels) rest) stores

-- a store: its target, and what is stored
pub store_is_read : (outer : List Frame) (list : Listed) (labels : List ℕ) (target e : Exp) (s : Stm) (rest : Words) → IsWellFormedExp target → is_atom (shape target) ≡ true → is_call target ≡ false → IsWellFormedExp e → store target e ≡ Some s
    → read_statements (begun outer list labels) ((exp_words target ++ stored_words e) ++ rest) ≡ read_statements (ready outer (with_last (flushed list) s labels)) rest
store_is_read outer list labels target e s rest well_target atom no_call well stores =
    let pending = Opens (Start labels) ∷ [] in
    let reading = read_words (Wanted pending) (exp_words target) in
    ap (read_statements (begun outer list labels)) (append_assoc (exp_words target) (stored_words e) rest)
    ∙ plain_words_pass (exp_words target) (stored_words e ++ rest) outer list Simple [] (Wanted pending) (exp_plain target well_target) refl
    ∙ stored_is_read outer list labels target e s reading rest well stores
    (target_stands target labels reading no_call ((exp_read target well_target).given atom pending (refl, refl)))

pub set_is_read : (names : Spellings) (variable : Var) (e : Exp) → variable.number < 2 ^ 32 → IsWellFormedExp e → IsReadAs names (Set variable e)
set_is_read names variable e fits well outer list labels rest = store_is_read outer list labels (Variable variable) e (Set variable e) rest fits refl refl well refl

-- ---- declarations

declared_stands : (kind : JType) (variable : Var) (labels : List ℕ) → IsNamed kind → variable.number < 2 ^ 32 → read_words (beginning labels) (type_words kind ++ variable_name variable ∷ []) ≡ Declared kind variable (Opens (Start labels) ∷ [])
declared_stands kind variable labels named fits =
    let pending = Opens (Start labels) ∷ [] in
    read_words-append (Wanted pending) (type_words kind) (variable_name variable ∷ []) ∙ go (type_stands kind pending named refl)
  where
    go : IsType kind (Opens (Start labels) ∷ []) (read_words (beginning labels) (type_words kind)) → read_words (read_words (beginning labels) (type_words kind)) (variable_name variable ∷ []) ≡ Declared kind variable (Opens (Start labels) ∷ [])
    go (inl is) =
        ap (λ reading. read_word reading (variable_name variable)) is.2
        ∙ word_reads token.Name (Named is.0 (Opens (Start labels) ∷ [])) (variable_name variable) (variable_token variable)
        ∙ ap (λ kind. Declared kind (variable_of (variable_name variable)) (Opens (Start labels) ∷ [])) is.1
        ∙ ap (λ variable. Declared kind variable (Opens (Start labels) ∷ [])) (variable_is_read variable fits)
    go (inr is) =
        ap (λ reading. read_word reading (variable_name variable)) is
        ∙ word_reads token.Name (Typed kind (Opens (Start labels) ∷ [])) (variable_name variable) (variable_token variable)
        ∙ ap (λ variable. Declared kind variable (Opens (Start labels) ∷ [])) (variable_is_read variable fits)

first_value_is_read : (outer : List Frame) (list : Listed) (labels : List ℕ) (kind : JType) (variable : Var) (value : Option Exp) (rest : Words) → IfSome value IsWellFormedExp
    → read_statements (within outer list Simple [] (Declared kind variable (Opens (Start labels) ∷ []))) (value_words value ++ rest) ≡ read_statements (ready outer (with_last (flushed list) (Declare variable kind value) labels)) rest
first_value_is_read outer list labels kind variable None rest well = step (within outer list Simple [] (Declared kind variable (Opens (Start labels) ∷ []))) (codes ";") rest refl
first_value_is_read outer list labels kind variable (Some e) rest well =
    let pending = Opens (Initial labels kind variable) ∷ [] in
    let value = read_words (Wanted pending) (exp_words e) in
    let whole = whole_at e pending well (refl, refl) refl refl in
    step (within outer list Simple [] (Declared kind variable (Opens (Start labels) ∷ []))) (codes "=") ((exp_words e ++ codes ";" ∷ []) ++ rest) refl
    ∙ value_is_read outer list Simple [] pending e rest well refl
    ∙ ap (λ blocks. read_statements blocks rest)
    (simple_ends (within outer list Simple [] value) value whole.plainly ∙ ap (end_value (within outer list Simple [] value)) whole.ends)

pub declare_is_read : (names : Spellings) (variable : Var) (kind : JType) (value : Option Exp) → variable.number < 2 ^ 32 → IsNamed kind → IfSome value IsWellFormedExp → IsReadAs names (Declare variable kind value)
declare_is_read names variable kind value fits named well outer list labels rest =
    let front = type_words kind ++ variable_name variable ∷ [] in
    ap (λ words. read_statements (begun outer list labels) (words ++ rest)) (sym (append_assoc (type_words kind) (variable_name variable ∷ []) (value_words value)))
    ∙ ap (read_statements (begun outer list labels)) (append_assoc front (value_words value) rest)
    ∙ plain_words_pass front (value_words value ++ rest) outer list Simple [] (beginning labels)
    (plain_append (type_words kind) (variable_name variable ∷ []) (type_plain kind named) (ap is_plain (variable_token variable), tt)) refl
    ∙ ap (λ reading. read_statements (within outer list Simple [] reading) (value_words value ++ rest)) (declared_stands kind variable labels named fits)
    ∙ first_value_is_read outer list labels kind variable value rest well

-- ---- jumps

named_label : (outer : List Frame) (list : Listed) (clause : Clause) (labels : List ℕ) (label : ℕ) (rest : Words) → takes_colon clause ≡ true
    → read_statements (within outer list clause labels (Wanted [])) (label_name label ∷ rest) ≡ read_statements (within outer list clause labels (Named (one_word (label_name label)) [])) rest
named_label outer list clause labels label rest takes =
    plain_words_pass (label_name label ∷ []) rest outer list clause labels (Wanted []) (ap is_plain (label_token label), tt) takes
    ∙ ap (λ reading. read_statements (within outer list clause labels reading) rest) (word_reads token.Name (Wanted []) (label_name label) (label_token label))

pub break_is_read : (names : Spellings) (label : ℕ) → label < 2 ^ 32 → IsReadAs names (Break label)
break_is_read names label fits outer list labels rest =
    step (begun outer list labels) (codes "break") (label_name label ∷ codes ";" ∷ rest) refl
    ∙ named_label outer list BreakOf labels label (codes ";" ∷ rest) refl
    ∙ step (within outer list BreakOf labels (Named (one_word (label_name label)) [])) (codes ";") rest refl
    ∙ ap (λ label. read_statements (ready outer (with_last (flushed list) (Break label) labels)) rest) (number_is_read 108 label fits)

pub continue_is_read : (names : Spellings) (label : ℕ) → label < 2 ^ 32 → IsReadAs names (Continue label)
continue_is_read names label fits outer list labels rest =
    step (begun outer list labels) (codes "continue") (label_name label ∷ codes ";" ∷ rest) refl
    ∙ named_label outer list ContinueOf labels label (codes ";" ∷ rest) refl
    ∙ step (within outer list ContinueOf labels (Named (one_word (label_name label)) [])) (codes ";") rest refl
    ∙ ap (λ label. read_statements (ready outer (with_last (flushed list) (Continue label) labels)) rest) (number_is_read 108 label fits)

-- ---- labels

pub label_is_read : (names : Spellings) (label : ℕ) (s : Stm) → label < 2 ^ 32 → IsReadAs names s → IsReadAs names (Labelled label s)
label_is_read names label s fits read outer list labels rest =
    let pending = Opens (Start labels) ∷ [] in
    plain_words_pass (label_name label ∷ codes ":" ∷ []) (stm_words names s ++ rest) outer list Simple [] (Wanted pending) (ap is_plain (label_token label), (refl, tt)) refl
    ∙ ap (λ reading. read_statements (within outer list Simple [] reading) (stm_words names s ++ rest))
    (ap (λ reading. read_word reading (codes ":")) (word_reads token.Name (Wanted pending) (label_name label) (label_token label))
    ∙ ap (λ label. beginning (label ∷ labels)) (number_is_read 108 label fits))
    ∙ read outer list (label ∷ labels) rest

-- ---- calls of constructors, and throws through the helper

own_opens : (own : Bool) (labels : List ℕ) → read_words (beginning labels) ((if own then codes "this" else codes "super") ∷ codes "(" ∷ []) ≡ Wanted (Opens (Arguments (Own own) []) ∷ Opens (Start labels) ∷ [])
own_opens true labels = refl
own_opens false labels = refl

own_plain : (own : Bool) → is_plain (token_of (if own then codes "this" else codes "super")) ≡ true
own_plain true = refl
own_plain false = refl

pub construct_is_read : (names : Spellings) (own : Bool) (arguments : Exps) → AreWellFormedExps arguments → IsReadAs names (Construct own arguments)
construct_is_read names own arguments well outer list labels rest =
    let word = if own then codes "this" else codes "super" in
    let pending = Opens (Start labels) ∷ [] in
    let inside = arguments_words arguments ++ codes ")" ∷ [] in
    ap (λ words. read_statements (begun outer list labels) (word ∷ words)) (append_assoc (enclosed (arguments_words arguments)) (codes ";" ∷ []) rest)
    ∙ plain_words_pass (word ∷ enclosed (arguments_words arguments)) (codes ";" ∷ rest) outer list Simple [] (beginning labels) (own_plain own, enclosed_plain (arguments_words arguments) (arguments_plain arguments well)) refl
    ∙ ap (λ reading. read_statements (within outer list Simple [] reading) (codes ";" ∷ rest))
    (ap (λ reading. read_words reading inside) (own_opens own labels) ∙ arguments_stand arguments (exps_read arguments well) (Own own) pending)
    ∙ step (within outer list Simple [] (Called (Own own) (words_list arguments) pending)) (codes ";") rest refl
    ∙ ap (λ arguments. read_statements (ready outer (with_last (flushed list) (Construct own arguments) labels)) rest) (exps_of-list_of arguments)

-- the words behind `throw` that call the helper
abbrev helper_call : Spellings → Var → Words
helper_call names variable = codes "." ∷ codes "<" ∷ (runtime_words ++ codes ">" ∷ names.helper ∷ enclosed (variable_name variable ∷ []))

helper_stands : (names : Spellings) (variable : Var) (named : DottedName) → token_of names.helper ≡ token.Name → variable.number < 2 ^ 32 → read_words (Named named []) (helper_call names variable) ≡ Called Helper (Variable variable ∷ []) []
helper_stands names variable named helper fits =
    let inner = Opens (Arguments Helper []) ∷ [] in
    ap (λ reading. read_words reading (enclosed (variable_name variable ∷ []))) (word_reads token.Name (Helping []) names.helper helper)
    ∙ ap (λ reading. read_word reading (codes ")")) (word_reads token.Name (Wanted inner) (variable_name variable) (variable_token variable))
    ∙ ap (λ value. Called Helper (value_or value (Static [] (variable_name variable)) ∷ []) []) (variable_value variable fits)

pub rethrow_is_read : (names : Spellings) (variable : Var) → IsQualified names.class → token_of names.helper ≡ token.Name → variable.number < 2 ^ 32 → IsReadAs names (Rethrow variable)
rethrow_is_read names variable class helper fits outer list labels rest =
    let call = helper_call names variable in
    let stands = name_stands names.class [] class in
    step (begun outer list labels) (codes "throw") ((name_words names.class ++ (call ++ codes ";" ∷ [])) ++ rest) refl
    ∙ ap (read_statements (within outer list ThrowOf labels (Wanted [])))
    (append_assoc (name_words names.class) (call ++ codes ";" ∷ []) rest
    ∙ ap (λ more. name_words names.class ++ more) (append_assoc call (codes ";" ∷ []) rest)
    ∙ sym (append_assoc (name_words names.class) call (codes ";" ∷ rest)))
    ∙ plain_words_pass (name_words names.class ++ call) (codes ";" ∷ rest) outer list ThrowOf labels (Wanted [])
    (plain_append (name_words names.class) call (name_plain names.class class)
    (refl, (refl, (refl, (refl, (refl, (refl, (refl, (refl, (ap is_plain helper, (refl, (ap is_plain (variable_token variable), (refl, tt))))))))))))) refl
    ∙ ap (λ reading. read_statements (within outer list ThrowOf labels reading) (codes ";" ∷ rest))
    (read_words-append (Wanted []) (name_words names.class) call ∙ ap (λ reading. read_words reading call) stands.2 ∙ helper_stands names variable stands.0 helper fits)
    ∙ step (within outer list ThrowOf labels (Called Helper (Variable variable ∷ []) [])) (codes ";") rest refl
