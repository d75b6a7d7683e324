-- Words of an expression go on with it, whatever statement it stands in (JLS 14).
use Rattle.std.proofs.Common.{◌≡◌, ◌≢◌, ℕ, Bool, true, false, List, [], ◌∷◌, ◌++◌, refl, sym, ap, ◌∙◌}
use Rattle.std.specs.Prelude.{codes, if◌then◌else◌}
use Rattle.std.specs.Cmp.Lexicographic.{same_text}
use Rattle.std.proofs.lemmas.Bool.{false≢true}
use Rattle.dj_tokens.specs.declared.tokens.Token.{Token}
use Rattle.dj_tokens.specs.declared.tokens.Token.TheVariants as token
use Rattle.dj_tokens.specs.Words.{Words, is_word}
use Rattle.dj_tokens.specs.Tokens.{token_of}
use Rattle.dj_grammar.specs.Readings.{Reading}
use Rattle.dj_grammar.specs.Steps.{read_word, read_words}
use Rattle.dj_grammar.specs.Open.{Frame, Listed, Clause, Simple, ReturnOf, ThrowOf, BreakOf, ContinueOf, IfOf, ElseOf, WhileOf, SwitchOf, CaseOf, DefaultOf, TryOf, CatchOf, FinallyOf, SynchronizedOf, DoOf, DoTest, ForOf, ForTest, ForStep, flushed}
use Rattle.dj_grammar.specs.Statements.{Blocks, colon_of, read_as, read_more, ends_body, read_statements}
use Rattle.dj_grammar.proofs.PlainWords.{is_plain, ArePlain}

-- ---- words of expressions

-- whether a colon is one of an expression
abbrev pub takes_colon : Clause → Bool
takes_colon Simple = true
takes_colon ReturnOf = true
takes_colon ThrowOf = true
takes_colon BreakOf = true
takes_colon ContinueOf = true
takes_colon IfOf = true
takes_colon (ElseOf test first) = true
takes_colon WhileOf = true
takes_colon SwitchOf = true
takes_colon CaseOf = false
takes_colon DefaultOf = false
takes_colon TryOf = true
takes_colon (CatchOf body clauses) = true
takes_colon (FinallyOf body) = true
takes_colon SynchronizedOf = true
takes_colon DoOf = true
takes_colon (DoTest body) = true
takes_colon ForOf = true
takes_colon ForTest = true
takes_colon (ForStep test) = true

-- a body of these parts
abbrev pub within : List Frame → Listed → Clause → List ℕ → Reading → Blocks
within outer list clause labels reading = record { outer = outer; list = list; clause = clause; labels = labels; reading = reading }

colon_passes : (outer : List Frame) (list : Listed) (clause : Clause) (labels : List ℕ) (reading : Reading) (word : List ℕ) → takes_colon clause ≡ true → colon_of (within outer list clause labels reading) word clause ≡ within outer list clause labels (read_word reading word)
colon_passes outer list Simple labels reading word takes = refl
colon_passes outer list ReturnOf labels reading word takes = refl
colon_passes outer list ThrowOf labels reading word takes = refl
colon_passes outer list BreakOf labels reading word takes = refl
colon_passes outer list ContinueOf labels reading word takes = refl
colon_passes outer list IfOf labels reading word takes = refl
colon_passes outer list (ElseOf test first) labels reading word takes = refl
colon_passes outer list WhileOf labels reading word takes = refl
colon_passes outer list SwitchOf labels reading word takes = refl
colon_passes outer list CaseOf labels reading word takes = absurd (false≢true takes)
colon_passes outer list DefaultOf labels reading word takes = absurd (false≢true takes)
colon_passes outer list TryOf labels reading word takes = refl
colon_passes outer list (CatchOf body clauses) labels reading word takes = refl
colon_passes outer list (FinallyOf body) labels reading word takes = refl
colon_passes outer list SynchronizedOf labels reading word takes = refl
colon_passes outer list DoOf labels reading word takes = refl
colon_passes outer list (DoTest body) labels reading word takes = refl
colon_passes outer list ForOf labels reading word takes = refl
colon_passes outer list ForTest labels reading word takes = refl
colon_passes outer list (ForStep test) labels reading word takes = refl

token_passes : (found : Token) (outer : List Frame) (list : Listed) (clause : Clause) (labels : List ℕ) (reading : Reading) (word : List ℕ) → is_plain found ≡ true → takes_colon clause ≡ true → read_as found word (within outer list clause labels reading) ≡ within outer list clause labels (read_word reading word)
token_passes token.Open outer list clause labels reading word plain takes = refl
token_passes token.Close outer list clause labels reading word plain takes = refl
token_passes token.OpenBracket outer list clause labels reading word plain takes = refl
token_passes token.CloseBracket outer list clause labels reading word plain takes = refl
token_passes token.Comma outer list clause labels reading word plain takes = refl
token_passes token.Dot outer list clause labels reading word plain takes = refl
token_passes token.Colon outer list clause labels reading word plain takes = colon_passes outer list clause labels reading word takes
token_passes token.Question outer list clause labels reading word plain takes = refl
token_passes token.Semicolon outer list clause labels reading word plain takes = absurd (false≢true plain)
token_passes token.OpenBrace outer list clause labels reading word plain takes = absurd (false≢true plain)
token_passes token.CloseBrace outer list clause labels reading word plain takes = absurd (false≢true plain)
token_passes token.Assigns outer list clause labels reading word plain takes = refl
token_passes token.Bang outer list clause labels reading word plain takes = refl
token_passes (token.Operator operator) outer list clause labels reading word plain takes = refl
token_passes token.Number outer list clause labels reading word plain takes = refl
token_passes token.Text outer list clause labels reading word plain takes = refl
token_passes token.True outer list clause labels reading word plain takes = refl
token_passes token.False outer list clause labels reading word plain takes = refl
token_passes token.Null outer list clause labels reading word plain takes = refl
token_passes token.This outer list clause labels reading word plain takes = refl
token_passes token.New outer list clause labels reading word plain takes = refl
token_passes token.InstanceOf outer list clause labels reading word plain takes = refl
token_passes token.Class outer list clause labels reading word plain takes = refl
token_passes token.Name outer list clause labels reading word plain takes = refl
token_passes token.Return outer list clause labels reading word plain takes = absurd (false≢true plain)
token_passes token.If outer list clause labels reading word plain takes = absurd (false≢true plain)
token_passes token.Else outer list clause labels reading word plain takes = absurd (false≢true plain)
token_passes token.While outer list clause labels reading word plain takes = absurd (false≢true plain)
token_passes token.Do outer list clause labels reading word plain takes = absurd (false≢true plain)
token_passes token.For outer list clause labels reading word plain takes = absurd (false≢true plain)
token_passes token.Switch outer list clause labels reading word plain takes = absurd (false≢true plain)
token_passes token.Case outer list clause labels reading word plain takes = absurd (false≢true plain)
token_passes token.Default outer list clause labels reading word plain takes = absurd (false≢true plain)
token_passes token.Break outer list clause labels reading word plain takes = absurd (false≢true plain)
token_passes token.Continue outer list clause labels reading word plain takes = absurd (false≢true plain)
token_passes token.Throw outer list clause labels reading word plain takes = absurd (false≢true plain)
token_passes token.Try outer list clause labels reading word plain takes = absurd (false≢true plain)
token_passes token.Catch outer list clause labels reading word plain takes = absurd (false≢true plain)
token_passes token.Finally outer list clause labels reading word plain takes = absurd (false≢true plain)
token_passes token.Synchronized outer list clause labels reading word plain takes = absurd (false≢true plain)

-- a word that is no brace doesn't end a body
no_end : (outer : List Frame) (word : List ℕ) → is_plain (token_of word) ≡ true → ends_body outer word ≡ false
no_end [] word plain = go (is_word word (codes "}")) refl
  where
    go : (same : Bool) → is_word word (codes "}") ≡ same → same ≡ false
    go true e = absurd (false≢true (sym (ap (λ word. is_plain (token_of word)) (same_text word (codes "}") (sym e))) ∙ plain))
    go false e = refl
no_end (frame ∷ outer) word plain = refl

-- words of an expression go on with it
pub plain_words_pass : (list : Words) (rest : Words) (outer : List Frame) (statements : Listed) (clause : Clause) (labels : List ℕ) (reading : Reading) → ArePlain list → takes_colon clause ≡ true
    → read_statements (within outer statements clause labels reading) (list ++ rest) ≡ read_statements (within outer statements clause labels (read_words reading list)) rest
plain_words_pass [] rest outer statements clause labels reading plain takes = refl
plain_words_pass (word ∷ others) rest outer statements clause labels reading (here, there) takes =
    ap (λ ends. if ends then (flushed statements, others ++ rest) else read_statements (read_more (within outer statements clause labels reading) word) (others ++ rest)) (no_end outer word here)
    ∙ ap (λ blocks. read_statements blocks (others ++ rest)) (token_passes (token_of word) outer statements clause labels reading word here takes)
    ∙ plain_words_pass others rest outer statements clause labels (read_word reading word) there takes

-- ---- words of statements

not_brace : (outer : List Frame) (word : List ℕ) → is_word word (codes "}") ≡ false → ends_body outer word ≡ false
not_brace [] word differs = differs
not_brace (frame ∷ outer) word differs = refl

-- a word that isn't a closing brace is read
pub step : (blocks : Blocks) (word : List ℕ) (rest : Words) → is_word word (codes "}") ≡ false → read_statements blocks (word ∷ rest) ≡ read_statements (read_more blocks word) rest
step blocks word rest differs =
    ap (λ ends. if ends then (flushed blocks.list, rest) else read_statements (read_more blocks word) rest) (not_brace blocks.outer word differs)
