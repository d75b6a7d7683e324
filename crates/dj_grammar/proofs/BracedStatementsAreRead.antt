-- Statements with statements in braces are read from their words (JLS 14.2, 14.9, 14.12 to 14.14, 14.19, 14.20).
use Rattle.std.proofs.Common.{◌≡◌, ℕ, ◌<◌, ◌^◌, List, [], ◌∷◌, ◌++◌, refl, sym, ap, ◌∙◌, append_assoc, append-nil}
use Rattle.std.specs.Prelude.{codes, Some, None}
use Rattle.dj_names.specs.Types.{Class}
use Rattle.dj_syntax.specs.declared.variable.Var.{Var}
use Rattle.dj_syntax.specs.Trees.{Exp, Variable, Static, Stm, Block, If, While, Try, Synchronized, Do, For, Finally, Stms, Empty, And, stms_of, Catches, NoCatches, AndCatch}
use Rattle.dj_syntax.specs.UnitText.{Spellings, variable_name, is_empty}
use Rattle.dj_syntax.specs.WellFormed.{IsQualified, IsWellFormedExp}
use Rattle.dj_tokens.specs.declared.tokens.Token.TheVariants as token
use Rattle.dj_tokens.specs.Words.{Words}
use Rattle.dj_tokens.specs.Literals.{variable_of}
use Rattle.dj_tokens.specs.Dotted.{value_or}
use Rattle.dj_grammar.specs.Frames.{Stored, Opens}
use Rattle.dj_grammar.specs.Readings.{Reading, Wanted, Head, Named, Declared, Stands}
use Rattle.dj_grammar.specs.Brackets.{close_ended}
use Rattle.dj_grammar.specs.Steps.{read_word, read_words, assigns}
use Rattle.dj_grammar.proofs.NamesAreRead.{name_words}
use Rattle.dj_grammar.proofs.NamesStand.{read_words-append, read_as as word_reads, name_stands, class_of_name}
use Rattle.dj_grammar.proofs.TokensAreRead.{variable_token, variable_is_read}
use Rattle.dj_grammar.proofs.ExpressionWords.{enclosed, exp_words}
use Rattle.dj_grammar.proofs.ExpressionsAreRead.{variable_value}
use Rattle.dj_grammar.specs.Open.{Kind, InBlock, InIf, InElse, InWhile, InTry, InCatch, InSynchronized, InDo, InFor, InFinally, Frame, Listed, Clause, IfOf, ElseOf, WhileOf, TryOf, CatchOf, FinallyOf, SynchronizedOf, DoOf, DoTest, ForOf, ForTest, ForStep, flushed, no_statements, with_last}
use Rattle.dj_grammar.specs.Statements.{beginning, ready, to_step, opens, open_brace, with_catch, ended_kind, behind_brace, read_statements}
use Rattle.dj_grammar.proofs.StatementWords.{braced_words, headed_words, else_words, stms_words, catches_words}
use Rattle.dj_grammar.proofs.PlainWords.{is_plain, plain_append, enclosed_plain, name_plain, exp_plain}
use Rattle.dj_grammar.proofs.PlainWordsPass.{within, plain_words_pass, step}
use Rattle.dj_grammar.proofs.StatementLists.{begun, list_of, stms_of-list_of}
use Rattle.dj_grammar.proofs.StatementParts.{head_is_read, IsReadAs, AreReadAs, body_ends, headed_is_read}
use Rattle.dj_grammar.proofs.SimpleStatementsAreRead.{value_of_whole, whole_at}

-- ---- statements with statements in braces

-- the statement that ends with a brace has the statements that were read
with_body : (outer : List Frame) (before : List Stm) (labels : List ℕ) (make : Stms → Stm) (body : Stms) (rest : Words) → read_statements (ready outer (with_last before (make (stms_of (list_of body))) labels)) rest ≡ read_statements (ready outer (with_last before (make body) labels)) rest
with_body outer before labels make body rest = ap (λ body. read_statements (ready outer (with_last before (make body) labels)) rest) (stms_of-list_of body)

pub block_is_read : (names : Spellings) (body : Stms) → AreReadAs names body → IsReadAs names (Block body)
block_is_read names body are outer list labels rest =
    step (begun outer list labels) (codes "{") ((stms_words names body ++ codes "}" ∷ []) ++ rest) refl
    ∙ body_ends names body are outer (record { kind = InBlock; labels = labels; before = flushed list }) rest
    ∙ with_body outer (flushed list) labels Block body rest

pub while_is_read : (names : Spellings) (e : Exp) (body : Stms) → IsWellFormedExp e → AreReadAs names body → IsReadAs names (While e body)
while_is_read names e body well are outer list labels rest =
    step (begun outer list labels) (codes "while") ((enclosed (exp_words e) ++ braced_words (stms_words names body)) ++ rest) refl
    ∙ headed_is_read names WhileOf InWhile e body outer list labels rest well are refl refl
    ∙ with_body outer (flushed list) labels (While e) body rest

pub synchronized_is_read : (names : Spellings) (e : Exp) (body : Stms) → IsWellFormedExp e → AreReadAs names body → IsReadAs names (Synchronized e body)
synchronized_is_read names e body well are outer list labels rest =
    step (begun outer list labels) (codes "synchronized") ((enclosed (exp_words e) ++ braced_words (stms_words names body)) ++ rest) refl
    ∙ headed_is_read names SynchronizedOf InSynchronized e body outer list labels rest well are refl refl
    ∙ with_body outer (flushed list) labels (Synchronized e) body rest

-- statements in braces behind what goes on with the last statement
going_on : (names : Spellings) (clause : Clause) (kind : Kind) (make : Stms → Stm) (body : Stms) (outer : List Frame) (before : List Stm) (labels : List ℕ) (reading : Reading) (rest : Words) → AreReadAs names body
    → open_brace (within outer (record { before = before; last = None }) clause labels reading) clause ≡ opens (within outer (record { before = before; last = None }) clause labels reading) kind labels
    → ((inside : List Stm) → ended_kind kind inside ≡ Some (make (stms_of inside)))
    → read_statements (within outer (record { before = before; last = None }) clause labels reading) (braced_words (stms_words names body) ++ rest) ≡ read_statements (ready outer (with_last before (make body) labels)) rest
going_on names clause kind make body outer before labels reading rest are is makes =
    let inside = stms_words names body ++ codes "}" ∷ [] in
    let frame = λ (before : List Stm). let made : Frame = record { kind = kind; labels = labels; before = before } in made in
    step (within outer (record { before = before; last = None }) clause labels reading) (codes "{") (inside ++ rest) refl
    ∙ ap (λ blocks. read_statements blocks (inside ++ rest)) is
    ∙ ap (λ before. read_statements (ready (frame before ∷ outer) no_statements) (inside ++ rest)) (append-nil before)
    ∙ body_ends names body are outer (frame before) rest
    ∙ ap (λ made. read_statements (behind_brace outer (frame before) (list_of body) made) rest) (makes (list_of body))
    ∙ with_body outer before labels make body rest

else_is_read : (names : Spellings) (e : Exp) (first second : Stms) → AreReadAs names second → (outer : List Frame) (before : List Stm) (labels : List ℕ) (rest : Words)
    → read_statements (ready outer (with_last before (If e first Empty) labels)) (else_words (is_empty second) (stms_words names second) ++ rest) ≡ read_statements (ready outer (with_last before (If e first second) labels)) rest
else_is_read names e first Empty are outer before labels rest = refl
else_is_read names e first (And head tail) are outer before labels rest =
    let body = And head tail in
    step (ready outer (with_last before (If e first Empty) labels)) (codes "else") (braced_words (stms_words names body) ++ rest) refl
    ∙ going_on names (ElseOf e first) (InElse e first) (If e first) body outer before labels (Head []) rest are refl (λ inside. refl)

pub if_is_read : (names : Spellings) (e : Exp) (first second : Stms) → IsWellFormedExp e → AreReadAs names first → AreReadAs names second → IsReadAs names (If e first second)
if_is_read names e first second well are_first are_second outer list labels rest =
    let front = headed_words (codes "if") e (stms_words names first) in
    let back = else_words (is_empty second) (stms_words names second) in
    ap (read_statements (begun outer list labels)) (append_assoc front back rest)
    ∙ step (begun outer list labels) (codes "if") ((enclosed (exp_words e) ++ braced_words (stms_words names first)) ++ (back ++ rest)) refl
    ∙ headed_is_read names IfOf InIf e first outer list labels (back ++ rest) well are_first refl refl
    ∙ with_body outer (flushed list) labels (λ first. If e first Empty) first (back ++ rest)
    ∙ else_is_read names e first second are_second outer (flushed list) labels rest

pub do_is_read : (names : Spellings) (body : Stms) (e : Exp) → AreReadAs names body → IsWellFormedExp e → IsReadAs names (Do body e)
do_is_read names body e are well outer list labels rest =
    let back = codes "while" ∷ (enclosed (exp_words e) ++ codes ";" ∷ []) in
    let inside = stms_words names body ++ codes "}" ∷ [] in
    let frame : Frame = record { kind = InDo; labels = labels; before = flushed list } in
    let left : Listed = record { before = flushed list; last = None } in
    let clause = DoTest (stms_of (list_of body)) in
    step (begun outer list labels) (codes "do") ((braced_words (stms_words names body) ++ back) ++ rest) refl
    ∙ ap (read_statements (within outer list DoOf labels (Head []))) (append_assoc (braced_words (stms_words names body)) back rest)
    ∙ step (within outer list DoOf labels (Head [])) (codes "{") (inside ++ (back ++ rest)) refl
    ∙ body_ends names body are outer frame (back ++ rest)
    ∙ step (within outer left clause labels (Head [])) (codes "while") ((enclosed (exp_words e) ++ codes ";" ∷ []) ++ rest) refl
    ∙ ap (read_statements (within outer left clause labels (Head []))) (append_assoc (enclosed (exp_words e)) (codes ";" ∷ []) rest)
    ∙ head_is_read outer left clause labels e (codes ";" ∷ rest) well refl
    ∙ step (within outer left clause labels (Stands e [])) (codes ";") rest refl
    ∙ ap (λ before. read_statements (ready outer (with_last before (Do (stms_of (list_of body)) e) labels)) rest) (append-nil (flushed list))
    ∙ with_body outer (flushed list) labels (λ body. Do body e) body rest

pub for_is_read : (names : Spellings) (test : Exp) (variable : Var) (e : Exp) (body : Stms) → IsWellFormedExp test → variable.number < 2 ^ 32 → IsWellFormedExp e → AreReadAs names body → IsReadAs names (For test variable e body)
for_is_read names test variable e body well_test fits well are outer list labels rest =
    let braced = braced_words (stms_words names body) in
    let inside = stms_words names body ++ codes "}" ∷ [] in
    let step_words = variable_name variable ∷ codes "=" ∷ (exp_words e ++ codes ")" ∷ braced) in
    let value = read_words (Wanted []) (exp_words test) in
    let pending = Opens (Stored [] (Variable variable)) ∷ [] in
    let whole = whole_at e pending well (refl, refl) refl refl in
    let frame : Frame = record { kind = InFor test variable e; labels = labels; before = flushed list } in
    step (begun outer list labels) (codes "for") (codes "(" ∷ codes ";" ∷ ((exp_words test ++ codes ";" ∷ step_words) ++ rest)) refl
    ∙ step (within outer list ForOf labels (Head [])) (codes "(") (codes ";" ∷ ((exp_words test ++ codes ";" ∷ step_words) ++ rest)) refl
    ∙ step (within outer list ForOf labels (Wanted [])) (codes ";") ((exp_words test ++ codes ";" ∷ step_words) ++ rest) refl
    ∙ ap (read_statements (within outer list ForTest labels (Wanted []))) (append_assoc (exp_words test) (codes ";" ∷ step_words) rest)
    ∙ plain_words_pass (exp_words test) (codes ";" ∷ (step_words ++ rest)) outer list ForTest labels (Wanted []) (exp_plain test well_test) refl
    ∙ step (within outer list ForTest labels value) (codes ";") (step_words ++ rest) refl
    ∙ ap (λ test. read_statements (to_step (within outer list ForTest labels value) test) (step_words ++ rest)) (value_of_whole test value (whole_at test [] well_test (refl, refl) refl refl))
    ∙ plain_words_pass (variable_name variable ∷ codes "=" ∷ []) ((exp_words e ++ codes ")" ∷ braced) ++ rest) outer list (ForStep test) labels (beginning []) (ap is_plain (variable_token variable), (refl, tt)) refl
    ∙ ap (λ reading. read_statements (within outer list (ForStep test) labels reading) ((exp_words e ++ codes ")" ∷ braced) ++ rest))
    (ap assigns (word_reads token.Name (beginning []) (variable_name variable) (variable_token variable))
    ∙ ap (λ value. Wanted (Opens (Stored [] (value_or value (Static [] (variable_name variable)))) ∷ [])) (variable_value variable fits))
    ∙ ap (read_statements (within outer list (ForStep test) labels (Wanted pending))) (append_assoc (exp_words e) (codes ")" ∷ braced) rest ∙ sym (append_assoc (exp_words e) (codes ")" ∷ []) (braced ++ rest)))
    ∙ plain_words_pass (exp_words e ++ codes ")" ∷ []) (braced ++ rest) outer list (ForStep test) labels (Wanted pending) (plain_append (exp_words e) (codes ")" ∷ []) (exp_plain e well) (refl, tt)) refl
    ∙ ap (λ reading. read_statements (within outer list (ForStep test) labels reading) (braced ++ rest))
    (read_words-append (Wanted pending) (exp_words e) (codes ")" ∷ []) ∙ whole.closes ∙ ap close_ended whole.ends)
    ∙ step (within outer list (ForStep test) labels (Stands e pending)) (codes "{") (inside ++ rest) refl
    ∙ body_ends names body are outer frame rest
    ∙ with_body outer (flushed list) labels (For test variable e) body rest

-- the statements of a `try`
try_body_is_read : (names : Spellings) (body : Stms) → AreReadAs names body → (outer : List Frame) (list : Listed) (labels : List ℕ) (rest : Words)
    → read_statements (begun outer list labels) (codes "try" ∷ (braced_words (stms_words names body) ++ rest)) ≡ read_statements (ready outer (with_last (flushed list) (Try body NoCatches) labels)) rest
try_body_is_read names body are outer list labels rest =
    let inside = stms_words names body ++ codes "}" ∷ [] in
    step (begun outer list labels) (codes "try") (braced_words (stms_words names body) ++ rest) refl
    ∙ step (within outer list TryOf labels (Head [])) (codes "{") (inside ++ rest) refl
    ∙ body_ends names body are outer (record { kind = InTry; labels = labels; before = flushed list }) rest
    ∙ with_body outer (flushed list) labels (λ body. Try body NoCatches) body rest

pub finally_is_read : (names : Spellings) (body last : Stms) → AreReadAs names body → AreReadAs names last → IsReadAs names (Finally body last)
finally_is_read names body last are are_last outer list labels rest =
    let back = codes "finally" ∷ braced_words (stms_words names last) in
    ap (λ words. read_statements (begun outer list labels) (codes "try" ∷ words)) (append_assoc (braced_words (stms_words names body)) back rest)
    ∙ try_body_is_read names body are outer list labels (back ++ rest)
    ∙ step (ready outer (with_last (flushed list) (Try body NoCatches) labels)) (codes "finally") (braced_words (stms_words names last) ++ rest) refl
    ∙ going_on names (FinallyOf body) (InFinally body) (Finally body) last outer (flushed list) labels (Head []) rest are_last refl (λ inside. refl)

-- ---- catch clauses

-- clauses, and others behind them
abbrev both_catches : Catches → Catches → Catches
both_catches NoCatches more = more
both_catches (AndCatch class variable body rest) more = AndCatch class variable body (both_catches rest more)

both_catches-nil : (catches : Catches) → both_catches catches NoCatches ≡ catches
both_catches-nil NoCatches = refl
both_catches-nil (AndCatch class variable body rest) = ap (AndCatch class variable body) (both_catches-nil rest)

with_catch-both : (catches : Catches) (class : List ℕ) (variable : Var) (body : Stms) (more : Catches) → both_catches (with_catch catches (class, variable, body)) more ≡ both_catches catches (AndCatch class variable body more)
with_catch-both NoCatches class variable body more = refl
with_catch-both (AndCatch first_class first_variable first_body rest) class variable body more = ap (AndCatch first_class first_variable first_body) (with_catch-both rest class variable body more)

-- each list of statements of the clauses is read
abbrev pub AreCatchesRead : Spellings → Catches → Type 0
AreCatchesRead names NoCatches = Unit {0}
AreCatchesRead names (AndCatch class variable body rest) = IsQualified class × (variable.number < 2 ^ 32) × AreReadAs names body × AreCatchesRead names rest

-- the class and the variable of a clause
catch_stands : (class : List ℕ) (variable : Var) → IsQualified class → variable.number < 2 ^ 32 → read_words (Head []) (enclosed (name_words class ++ variable_name variable ∷ [])) ≡ Declared (Class class) variable []
catch_stands class variable named fits =
    let stands = name_stands class [] named in
    read_words-append (Wanted []) (name_words class ++ variable_name variable ∷ []) (codes ")" ∷ [])
    ∙ ap (λ reading. read_word reading (codes ")"))
    (read_words-append (Wanted []) (name_words class) (variable_name variable ∷ [])
    ∙ ap (λ reading. read_word reading (variable_name variable)) stands.2
    ∙ word_reads token.Name (Named stands.0 []) (variable_name variable) (variable_token variable)
    ∙ ap (λ kind. Declared kind (variable_of (variable_name variable)) []) (class_of_name class stands.0 stands.1)
    ∙ ap (λ variable. Declared (Class class) variable []) (variable_is_read variable fits))

catches_are_read : (names : Spellings) (catches before : Catches) (body : Stms) → AreCatchesRead names catches → (outer : List Frame) (front : List Stm) (labels : List ℕ) (rest : Words)
    → read_statements (ready outer (with_last front (Try body before) labels)) (catches_words names catches ++ rest) ≡ read_statements (ready outer (with_last front (Try body (both_catches before catches)) labels)) rest
catches_are_read names NoCatches before body are outer front labels rest =
    ap (λ catches. read_statements (ready outer (with_last front (Try body catches) labels)) rest) (sym (both_catches-nil before))
catches_are_read names (AndCatch class variable inside others) before body (named, fits, are, more) outer front labels rest =
    let head = name_words class ++ variable_name variable ∷ [] in
    let braced = braced_words (stms_words names inside) in
    let left : Listed = record { before = front; last = None } in
    step (ready outer (with_last front (Try body before) labels)) (codes "catch") ((enclosed head ++ (braced ++ catches_words names others)) ++ rest) refl
    ∙ ap (read_statements (within outer left (CatchOf body before) labels (Head [])))
    (append_assoc (enclosed head) (braced ++ catches_words names others) rest ∙ ap (λ more. enclosed head ++ more) (append_assoc braced (catches_words names others) rest))
    ∙ plain_words_pass (enclosed head) (braced ++ (catches_words names others ++ rest)) outer left (CatchOf body before) labels (Head [])
    (enclosed_plain head (plain_append (name_words class) (variable_name variable ∷ []) (name_plain class named) (ap is_plain (variable_token variable), tt))) refl
    ∙ ap (λ reading. read_statements (within outer left (CatchOf body before) labels reading) (braced ++ (catches_words names others ++ rest))) (catch_stands class variable named fits)
    ∙ going_on names (CatchOf body before) (InCatch body before class variable) (λ inside. Try body (with_catch before (class, variable, inside))) inside outer front labels (Declared (Class class) variable []) (catches_words names others ++ rest) are refl (λ inside. refl)
    ∙ catches_are_read names others (with_catch before (class, variable, inside)) body more outer front labels rest
    ∙ ap (λ catches. read_statements (ready outer (with_last front (Try body catches) labels)) rest) (with_catch-both before class variable inside others)

pub try_is_read : (names : Spellings) (body : Stms) (catches : Catches) → AreReadAs names body → AreCatchesRead names catches → IsReadAs names (Try body catches)
try_is_read names body catches are read outer list labels rest =
    ap (λ words. read_statements (begun outer list labels) (codes "try" ∷ words)) (append_assoc (braced_words (stms_words names body)) (catches_words names catches) rest)
    ∙ try_body_is_read names body are outer list labels (catches_words names catches ++ rest)
    ∙ catches_are_read names catches NoCatches body read outer (flushed list) labels rest
