-- How words nest, one at a time.
use Rattle.std.proofs.Common.{◌≡◌, ◌≢◌, ◌↔◌, ◌∙◌, ℕ, zero, suc, ◌≤◌, ◌<◌, List, [], ◌∷◌, length, refl, ap, arith}
use Rattle.dj_depth.specs.declared.effects.Effect.{Effect}
use Rattle.dj_tokens.specs.Words.{Words, first_word, other_words}
use Rattle.dj_tokens.specs.Tokens.{token_of}
use Rattle.dj_depth.specs.Depth.{Nesting, GoesDeep, after, depth, effect_of, most_depth}

-- what comes of the first word
abbrev pub next : Nesting → Words → Nesting
next nesting list = after (effect_of (token_of (first_word list))) nesting

-- where the first word nests too deep, the words do
pub deep_now : (nesting : Nesting) (list : Words) → list ≢ [] → most_depth < depth (next nesting list) → GoesDeep nesting list
deep_now nesting [] some deep = absurd (some refl)
deep_now nesting (word ∷ rest) some deep = (1, deep)

-- where those behind the first word nest too deep, the words do
pub deep_later : (nesting : Nesting) (list : Words) → list ≢ [] → GoesDeep (next nesting list) (other_words list) → GoesDeep nesting list
deep_later nesting [] some deep = absurd (some refl)
deep_later nesting (word ∷ rest) some deep = (suc deep.0, deep.1)

-- words that nest too deep do so behind the first word
pub deep_behind : (nesting : Nesting) (list : Words) → list ≢ [] → depth nesting ≤ most_depth → GoesDeep nesting list → GoesDeep (next nesting list) (other_words list)
deep_behind nesting [] some shallow deep = absurd (some refl)
deep_behind nesting (word ∷ rest) some shallow (zero, deep) = absurd (omega arith)
deep_behind nesting (word ∷ rest) some shallow (suc n, deep) = (n, deep)

-- no words nest too deep
pub never_deep : (nesting : Nesting) → depth nesting ≤ most_depth → GoesDeep nesting [] → ⊥
never_deep nesting shallow (zero, deep) = omega arith
never_deep nesting shallow (suc n, deep) = omega arith

-- one word fewer is left behind the first
pub fewer : (list rest : Words) → list ≢ [] → rest ≡ other_words list → length rest < length list
fewer [] rest some is = absurd (some refl)
fewer (word ∷ others) rest some is = rw is (omega arith)

-- what is read is what comes of the first word
pub next_is : (nesting new : Nesting) (list : Words) (word : List ℕ) (does : Effect) → new ≡ after does nesting → does ≡ effect_of (token_of word) → word ≡ first_word list → new ≡ next nesting list
next_is nesting new list word does is effect first = is ∙ ap (λ e. after e nesting) (effect ∙ ap (λ w. effect_of (token_of w)) first)

-- what is left nests too deep exactly where the words do, with the first of them
pub goes_on : (nesting new : Nesting) (list rest : Words) → list ≢ [] → depth nesting ≤ most_depth → new ≡ next nesting list → rest ≡ other_words list → GoesDeep new rest ↔ GoesDeep nesting list
goes_on nesting new list rest some shallow is behind = rw (is, behind) (deep_later nesting list some, deep_behind nesting list some shallow)

-- what isn't above is at most
pub not_above : (most n : ℕ) → ¬ (most < n) → n ≤ most
not_above most n not = grind arith
