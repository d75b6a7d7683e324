-- One word more of a value, as the loop over its words takes it.
use Rattle.std.proofs.Common.{◌≡◌, ◌≢◌, ℕ, false, List, [], ◌∷◌, refl, sym, ap, ◌∙◌}
use Rattle.std.specs.Prelude.{if◌then◌else◌, codes}
use Rattle.dj_tokens.specs.Words.{Words, first_word, other_words, comes}
use Rattle.dj_grammar.specs.Readings.{Reading}
use Rattle.dj_grammar.specs.Steps.{read_word}
use Rattle.dj_grammar.specs.StatementEnds.{value_in}
use Rattle.dj_grammar.specs.Values.{read_value}

step : (reading : Reading) (list : Words) → list ≢ [] → comes (codes ";") list ≡ false → read_value (read_word reading (first_word list)) (other_words list) ≡ read_value reading list
step reading [] some goes_on = absurd (some refl)
step reading (word ∷ rest) some goes_on =
    sym (ap (λ ends. if ends then (value_in reading, word ∷ rest) else read_value (read_word reading word) rest) goes_on)

-- a word that isn't a semicolon is read
pub value_more : (reading more : Reading) (word : List ℕ) (list rest : Words) → list ≢ [] → comes (codes ";") list ≡ false → word ≡ first_word list → rest ≡ other_words list → more ≡ read_word reading word → read_value more rest ≡ read_value reading list
value_more reading more word list rest some goes_on is behind read =
    ap (λ r. read_value r rest) (read ∙ ap (read_word reading) is) ∙ ap (read_value (read_word reading (first_word list))) behind ∙ step reading list some goes_on
