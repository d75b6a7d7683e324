-- Heads, and statements in braces, are read (JLS 14).
use Rattle.std.proofs.Common.{◌≡◌, ℕ, true, List, [], ◌∷◌, ◌++◌, refl, ap, ◌∙◌, append_assoc}
use Rattle.std.specs.Prelude.{codes}
use Rattle.dj_syntax.specs.Trees.{Exp, Stm, Stms}
use Rattle.dj_syntax.specs.UnitText.{Spellings}
use Rattle.dj_syntax.specs.WellFormed.{IsWellFormedExp}
use Rattle.dj_tokens.specs.Words.{Words}
use Rattle.dj_grammar.specs.Readings.{Wanted, Head, Stands}
use Rattle.dj_grammar.specs.Brackets.{close_ended}
use Rattle.dj_grammar.specs.Steps.{read_words}
use Rattle.dj_grammar.proofs.NamesStand.{read_words-append}
use Rattle.dj_grammar.proofs.ExpressionWords.{enclosed, exp_words}
use Rattle.dj_grammar.proofs.ExpressionsAreRead.{exp_read}
use Rattle.dj_grammar.specs.Open.{Kind, Frame, Listed, Clause, flushed, no_statements}
use Rattle.dj_grammar.specs.Statements.{Blocks, ready, opens, open_brace, ended_kind, behind_brace, read_statements}
use Rattle.dj_grammar.proofs.StatementWords.{braced_words, stm_words, stms_words}
use Rattle.dj_grammar.proofs.PlainWords.{enclosed_plain, exp_plain}
use Rattle.dj_grammar.proofs.PlainWordsPass.{takes_colon, within, plain_words_pass, step}
use Rattle.dj_grammar.proofs.StatementLists.{begun, added, all_added, list_of, flushed-all_added}

-- ---- parts of statements

-- an expression in the parentheses of a head
head_stands : (e : Exp) → IsWellFormedExp e → read_words (Head []) (enclosed (exp_words e)) ≡ Stands e []
head_stands e well =
    let whole = (exp_read e well).ends [] (refl, refl) refl (λ is. refl) in
    read_words-append (Wanted []) (exp_words e) (codes ")" ∷ []) ∙ whole.closes ∙ ap close_ended whole.ends

-- a keyword, and an expression in parentheses
pub head_is_read : (outer : List Frame) (list : Listed) (clause : Clause) (labels : List ℕ) (e : Exp) (rest : Words) → IsWellFormedExp e → takes_colon clause ≡ true
    → read_statements (within outer list clause labels (Head [])) (enclosed (exp_words e) ++ rest) ≡ read_statements (within outer list clause labels (Stands e [])) rest
head_is_read outer list clause labels e rest well takes =
    plain_words_pass (enclosed (exp_words e)) rest outer list clause labels (Head []) (enclosed_plain (exp_words e) (exp_plain e well)) takes
    ∙ ap (λ reading. read_statements (within outer list clause labels reading) rest) (head_stands e well)

-- what a brace leaves that ends these statements
abbrev pub left_by : List Frame → Frame → Stms → Blocks
left_by outer frame body = behind_brace outer frame (list_of body) (ended_kind frame.kind (list_of body))

-- a statement is read from its words, whatever follows
abbrev pub IsReadAs : Spellings → Stm → Type 0
IsReadAs names s =
    (outer : List Frame) (list : Listed) (labels : List ℕ) (rest : Words)
    → read_statements (begun outer list labels) (stm_words names s ++ rest) ≡ read_statements (ready outer (added s labels list)) rest

-- statements are read from their words, whatever follows
abbrev pub AreReadAs : Spellings → Stms → Type 0
AreReadAs names body =
    (outer : List Frame) (list : Listed) (rest : Words)
    → read_statements (ready outer list) (stms_words names body ++ rest) ≡ read_statements (ready outer (all_added body list)) rest

-- statements and the brace that ends them
pub body_ends : (names : Spellings) (body : Stms) → AreReadAs names body → (outer : List Frame) (frame : Frame) (rest : Words)
    → read_statements (ready (frame ∷ outer) no_statements) ((stms_words names body ++ codes "}" ∷ []) ++ rest) ≡ read_statements (left_by outer frame body) rest
body_ends names body are outer frame rest =
    ap (read_statements (ready (frame ∷ outer) no_statements)) (append_assoc (stms_words names body) (codes "}" ∷ []) rest)
    ∙ are (frame ∷ outer) no_statements (codes "}" ∷ rest)
    ∙ ap (λ inside. read_statements (behind_brace outer frame inside (ended_kind frame.kind inside)) rest) (flushed-all_added body no_statements)

-- a statement of a head and statements in braces
pub headed_is_read : (names : Spellings) (clause : Clause) (kind : Exp → Kind) (e : Exp) (body : Stms) (outer : List Frame) (list : Listed) (labels : List ℕ) (rest : Words)
    → IsWellFormedExp e → AreReadAs names body → takes_colon clause ≡ true
    → open_brace (within outer list clause labels (Stands e [])) clause ≡ opens (within outer list clause labels (Stands e [])) (kind e) labels
    → read_statements (within outer list clause labels (Head [])) ((enclosed (exp_words e) ++ braced_words (stms_words names body)) ++ rest)
    ≡ read_statements (left_by outer (record { kind = kind e; labels = labels; before = flushed list }) body) rest
headed_is_read names clause kind e body outer list labels rest well are takes is =
    let inside = stms_words names body ++ codes "}" ∷ [] in
    ap (read_statements (within outer list clause labels (Head []))) (append_assoc (enclosed (exp_words e)) (braced_words (stms_words names body)) rest)
    ∙ head_is_read outer list clause labels e (codes "{" ∷ (inside ++ rest)) well takes
    ∙ step (within outer list clause labels (Stands e [])) (codes "{") (inside ++ rest) refl
    ∙ ap (λ blocks. read_statements blocks (inside ++ rest)) is
    ∙ body_ends names body are outer (record { kind = kind e; labels = labels; before = flushed list }) rest
