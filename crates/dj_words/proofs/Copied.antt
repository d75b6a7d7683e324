-- Words that are copied one after another.
use Rattle.std.proofs.Common.{◌≡◌, ◌+◌, ◌<◌, ℕ, List, [], ◌∷◌, ◌++◌, String, Global, length, get_or, map, refl, string_bytes, take}
use Rattle.std.specs.Borrow.{Bor}
use Rattle.std.proofs.lemmas.List.{get_or-map, length-map, map_push, take_more}

pub one_more_word : (words : List (Bor (List ℕ))) (i : ℕ) (d : Bor (List ℕ)) (before after : List (String Global)) (made : String Global) → i < length words
    → map string_bytes before ≡ take i (map (λ word. word.now) words) → string_bytes made ≡ (get_or words i d).now → after ≡ before ++ made ∷ []
    → map string_bytes after ≡ take (i + 1) (map (λ word. word.now) words)
one_more_word words i d before after made inside so_far is pushed =
    let texts : List (List ℕ) = map (λ word. word.now) words in
    let in_texts : i < length texts = rw length-map inside in
    let at_i : get_or texts i d.now ≡ (get_or words i d).now = get_or-map (λ (word : Bor (List ℕ)). word.now) words i d d.now inside in
    rw (pushed, map_push string_bytes before made, so_far, is, take_more texts i d.now in_texts, at_i) refl
