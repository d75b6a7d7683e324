-- One word more of a body, as the loop over its words takes it.
use Rattle.std.proofs.Common.{◌≡◌, ◌≢◌, ℕ, ◌<◌, false, List, [], ◌∷◌, length, refl, sym, ap, ◌∙◌, arith}
use Rattle.std.specs.Prelude.{if◌then◌else◌}
use Rattle.std.proofs.lemmas.List.{length-map, length-reverse, nil_from_length}
use Rattle.dj_tokens.specs.Words.{Words, first_word, other_words}
use Rattle.dj_grammar.specs.Open.{Frame, flushed}
use Rattle.dj_grammar.specs.Statements.{Blocks, ends_body, read_more, read_statements}
use Rattle.dj_statements.specs.declared.frames.Frame.{Frame as code_frame}
use Rattle.dj_statements.specs.OpenViews.{view_outer}

step : (blocks : Blocks) (list : Words) → list ≢ [] → ends_body blocks.outer (first_word list) ≡ false → read_statements blocks list ≡ read_statements (read_more blocks (first_word list)) (other_words list)
step blocks [] some goes_on = absurd (some refl)
step blocks (word ∷ rest) some goes_on =
    ap (λ ends. if ends then (flushed blocks.list, rest) else read_statements (read_more blocks word) rest) goes_on

-- a word that doesn't end the body is read
pub statements_more : (blocks next : Blocks) (word : List ℕ) (list rest : Words) → list ≢ [] → ends_body blocks.outer word ≡ false → word ≡ first_word list → rest ≡ other_words list → next ≡ read_more blocks word → read_statements next rest ≡ read_statements blocks list
statements_more blocks next word list rest some goes_on is behind read =
    ap (λ b. read_statements b rest) (read ∙ ap (read_more blocks) is)
    ∙ ap (read_statements (read_more blocks (first_word list))) behind
    ∙ sym (step blocks list some (ap (ends_body blocks.outer) (sym is) ∙ goes_on))

-- behind a word there are fewer
pub fewer_behind : (list rest : Words) → list ≢ [] → rest ≡ other_words list → length rest < length list
fewer_behind [] rest some behind = absurd (some refl)
fewer_behind (word ∷ list) rest some behind = omega (arith, ap length behind)

in_brace : (outer : List Frame) (word : List ℕ) → length outer ≢ 0 → ends_body outer word ≡ false
in_brace [] word some = absurd (some refl)
in_brace (frame ∷ outer) word some = refl

-- no body ends in a brace that is open
pub ends_in_no_brace : (outer : List code_frame) (word : List ℕ) → outer ≢ [] → ends_body (view_outer outer) word ≡ false
ends_in_no_brace outer word some =
    in_brace (view_outer outer) word (λ none. some (nil_from_length outer (rw (length-map, length-reverse) at none)))
