-- Which keywords a word may be, by its first letter (JLS 3.9).
use Rattle.std.proofs.Common.{◌≡◌, ℕ, Bool, true, false, List, [], ◌∷◌, codes, refl, arith}
use Rattle.std.specs.Prelude.{if◌then◌else◌, nat_eq, Some, None}
use Rattle.std.proofs.lemmas.Bool.{false≢true}
use Rattle.std.proofs.lemmas.Bool.Decides.{nat_tests}
use Rattle.dj_tokens.specs.declared.tokens.Token.{Token}
use Rattle.dj_tokens.specs.declared.tokens.Token.TheVariants as token
use Rattle.dj_tokens.specs.Tokens.{token_or, word_of}
use Rattle.dj_tokens.specs.Words.{begins, is_word}

-- the first of two that is, or else another
one_of : (first second : Bool) (one two other : Token) → token_or (if first then Some one else if second then Some two else None) other
    ≡ (if first then one else if second then two else other)
one_of true second one two other = refl
one_of false true one two other = refl
one_of false false one two other = refl

-- a word that begins with `d`
pub in_d : (word : List ℕ) → begins (nat_eq 100) word ≡ true → word_of word ≡ (if is_word word (codes "do") then token.Do else if is_word word (codes "default") then token.Default else token.Name)
in_d [] at = absurd (false≢true at)
in_d (first ∷ rest) at =
    let same : first ≡ 100 = grind (arith, nat_tests) in
    rw same (one_of (is_word (100 ∷ rest) (codes "do")) (is_word (100 ∷ rest) (codes "default")) token.Do token.Default token.Name)

-- a word that begins with `s`
pub in_s : (word : List ℕ) → begins (nat_eq 115) word ≡ true → word_of word ≡ (if is_word word (codes "switch") then token.Switch else if is_word word (codes "synchronized") then token.Synchronized else token.Name)
in_s [] at = absurd (false≢true at)
in_s (first ∷ rest) at =
    let same : first ≡ 115 = grind (arith, nat_tests) in
    rw same (one_of (is_word (115 ∷ rest) (codes "switch")) (is_word (115 ∷ rest) (codes "synchronized")) token.Switch token.Synchronized token.Name)
