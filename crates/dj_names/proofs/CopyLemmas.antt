-- A loop that copies a list, element by element.
use Rattle.std.proofs.Common.{◌≡◌, ℕ, ◌+◌, ◌<◌, List, [], ◌∷◌, ◌++◌, length, take, get_or, sym, ap, ◌∙◌}
use Rattle.std.proofs.lemmas.List.{take_more}

-- one more element is copied
pub copied_more : {A : Type 0} (xs : List A) (i : ℕ) (x copy : A) (before after : List A) → i < length xs → x ≡ get_or xs i x → before ≡ take i xs → copy ≡ x → after ≡ before ++ copy ∷ [] → after ≡ take (i + 1) xs
copied_more xs i x copy before after within is taken same pushed =
    pushed ∙ ap (λ list. list ++ copy ∷ []) taken ∙ ap (λ last. take i xs ++ last ∷ []) (same ∙ is) ∙ sym (take_more xs i x within)
