-- Values of fields read from words (JLS 8.3, 9.3).
use Rattle.std.specs.Prelude.{ℕ, if◌then◌else◌, List, [], ◌∷◌, Option, codes}
use Rattle.dj_syntax.specs.Trees.{Exp}
use Rattle.dj_tokens.specs.Words.{Words, is_word}
use Rattle.dj_grammar.specs.Readings.{Reading}
use Rattle.dj_grammar.specs.Steps.{read_word}
use Rattle.dj_grammar.specs.Statements.{value_in}

-- the expression up to a semicolon, where there is one, and the words from the semicolon on
abbrev pub read_value : Reading → Words → Option Exp × Words
read_value reading [] = (value_in reading, [])
read_value reading (word ∷ rest) =
    if is_word word (codes ";") then (value_in reading, word ∷ rest) else read_value (read_word reading word) rest
