-- Pieces of a text that fall into words, put one after another.
use Rattle.std.proofs.Common.{◌≡◌, ℕ, Bool, true, false, List, [], ◌∷◌, ◌++◌, refl, sym, ap, ◌∙◌, append_assoc, append-nil}
use Rattle.std.specs.Prelude.{codes}
use Rattle.std.specs.Fmt.{decimal}
use Rattle.dj_syntax.specs.Items.{Item, Space, Word, Name, Number, LongNumber, Quoted, Sign, render}
use Rattle.dj_syntax.specs.UnitText.{word, sign, parenthesised, operand}
use Rattle.dj_tokens.specs.Words.{Words, words, begins, is_letter, is_operator}
use Rattle.dj_tokens.proofs.WordsLemmas.{IsRun, words-name, words-operator}
use Rattle.dj_grammar.proofs.Spelled.{Spells, spelled_before, word_before}
use Rattle.dj_grammar.proofs.ExpressionWords.{enclosed, operand_words}

-- items are spelled as these words, whatever follows but a letter
abbrev pub Piece : List Item → Words → Type 0
Piece = Spells is_letter

-- items don't begin with a letter, whatever follows
abbrev pub IsApart : List Item → Type 0
IsApart items = (text : List ℕ) → begins is_letter text ≡ false → begins is_letter (render items ++ text) ≡ false

-- a piece, and another that doesn't begin with a letter
pub and_then : (items more : List Item) (list after : Words) → Piece items list → IsApart more → Piece more after → Piece (items ++ more) (list ++ after)
and_then items more list after spelled apart next text ends =
    spelled_before is_letter items more list (after ++ words text) text spelled (apart text ends) (next text ends) ∙ sym (append_assoc list after (words text))

-- a run of letters, and a piece that doesn't begin with a letter
pub name_then : (run : List ℕ) (more : List Item) (after : Words) → IsRun is_letter run → IsApart more → Piece more after → Piece (word run ∷ more) (run ∷ after)
name_then run more after is apart next text ends = word_before run more (after ++ words text) text is (apart text ends) (next text ends)

-- a run of letters alone
pub name_alone : (run : List ℕ) → IsRun is_letter run → Piece (word run ∷ []) (run ∷ [])
name_alone run is = name_then run [] [] is (λ text ends. ends) (λ text ends. refl)

-- an operator, and a piece that begins with another character
pub operator_then : (run : List ℕ) (more : List Item) (after : Words) → IsRun is_operator run → ((text : List ℕ) → begins is_letter text ≡ false → begins is_operator (render more ++ text) ≡ false) → Piece more after → Piece (sign run ∷ more) (run ∷ after)
operator_then run more after is apart next text ends =
    ap words (append_assoc run (render more) text) ∙ words-operator run (render more ++ text) is (apart text ends) ∙ ap (λ found. run ∷ found) (next text ends)

-- a piece in parentheses
pub in_parentheses : (items : List Item) (list : Words) → Piece items list → Piece (parenthesised items) (enclosed list)
in_parentheses items list spelled text ends =
    ap (λ found. codes "(" ∷ found) (and_then items (sign (codes ")") ∷ []) list (codes ")" ∷ []) spelled (λ text ends. refl) (λ text ends. refl) text ends)

-- an operand
pub operand_piece : (bare : Bool) (items : List Item) (list : Words) → Piece items list → Piece (operand bare items) (operand_words bare list)
operand_piece true items list spelled = spelled
operand_piece false items list spelled = in_parentheses items list spelled
