-- The value of a field is read from its words, up to the semicolon behind it (JLS 8.3, 9.3).
use Rattle.std.proofs.Common.{◌≡◌, Bool, true, false, List, [], ◌∷◌, ◌++◌, ℕ, refl, sym, ap, ◌∙◌}
use Rattle.std.specs.Prelude.{codes, Some, if◌then◌else◌}
use Rattle.std.specs.Cmp.Lexicographic.{same_text}
use Rattle.std.proofs.lemmas.Bool.{false≢true}
use Rattle.dj_syntax.specs.Trees.{Exp}
use Rattle.dj_syntax.specs.WellFormed.{IsWellFormedExp}
use Rattle.dj_tokens.specs.Words.{Words, is_word}
use Rattle.dj_tokens.specs.Tokens.{token_of}
use Rattle.dj_grammar.specs.Readings.{Reading, Wanted}
use Rattle.dj_grammar.specs.Steps.{read_word, read_words}
use Rattle.dj_grammar.specs.Statements.{value_in}
use Rattle.dj_grammar.specs.Values.{read_value}
use Rattle.dj_grammar.proofs.ExpressionWords.{exp_words}
use Rattle.dj_grammar.proofs.PlainWords.{is_plain, ArePlain, exp_plain}
use Rattle.dj_grammar.proofs.SimpleStatementsAreRead.{value_of_whole, whole_at}

no_semicolon : (word : List ℕ) → is_plain (token_of word) ≡ true → is_word word (codes ";") ≡ false
no_semicolon word plain = go (is_word word (codes ";")) refl
  where
    go : (same : Bool) → is_word word (codes ";") ≡ same → same ≡ false
    go true e = absurd (false≢true (sym (ap (λ word. is_plain (token_of word)) (same_text word (codes ";") (sym e))) ∙ plain))
    go false e = refl

read_value-past : (reading : Reading) (front list : Words) → ArePlain front → read_value reading (front ++ list) ≡ read_value (read_words reading front) list
read_value-past reading [] list plain = refl
read_value-past reading (word ∷ rest) list (here, there) =
    ap (λ ends. if ends then (value_in reading, word ∷ (rest ++ list)) else read_value (read_word reading word) (rest ++ list)) (no_semicolon word here)
    ∙ read_value-past (read_word reading word) rest list there

-- an expression is read up to its semicolon
pub value_read : (e : Exp) (list : Words) → IsWellFormedExp e → read_value (Wanted []) (exp_words e ++ codes ";" ∷ list) ≡ (Some e, codes ";" ∷ list)
value_read e list well =
    read_value-past (Wanted []) (exp_words e) (codes ";" ∷ list) (exp_plain e well)
    ∙ ap (λ value. (value, codes ";" ∷ list)) (value_of_whole e (read_words (Wanted []) (exp_words e)) (whole_at e [] well (refl, refl) refl refl))
