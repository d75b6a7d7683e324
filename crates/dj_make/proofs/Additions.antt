-- The additions of `m0`, one after another.
use Rattle.std.proofs.Common.{◌≡◌, ◌∙◌, ◌+◌, ◌%◌, ◌*◌, ℕ, zero, suc, List, [], ◌∷◌, ◌++◌, sym, ap, arith, flat_map}
use Rattle.std.specs.List.{range_with_len}
use Rattle.std.proofs.lemmas.List.Concat.{flat_map-append}
use Rattle.dj_make.specs.Made.{addition}

range_more : (a n j : ℕ) → a + n ≡ j → range_with_len a (suc n) ≡ range_with_len a n ++ j ∷ []
range_more a zero j e = let same : a ≡ j = omega arith in ap (λ (x : ℕ). x ∷ []) same
range_more a (suc n) j e = ap (λ (rest : List ℕ). a ∷ rest) (range_more (a + 1) n j (omega arith))

-- one addition more
pub addition_more : (k j : ℕ) (before after : List ℕ) → before ≡ 26 ∷ flat_map (addition k) (range_with_len 0 j) → after ≡ before ++ (16 ∷ ((7 * j + k) % 100) ∷ 96 ∷ [])
    → after ≡ 26 ∷ flat_map (addition k) (range_with_len 0 (j + 1))
addition_more k j before after so_far put =
    let next : j + 1 ≡ suc j = omega arith in
    let items : flat_map (addition k) (range_with_len 0 (j + 1)) ≡ flat_map (addition k) (range_with_len 0 j) ++ (16 ∷ ((7 * j + k) % 100) ∷ 96 ∷ []) =
    ap (λ (n : ℕ). flat_map (addition k) (range_with_len 0 n)) next ∙ ap (flat_map (addition k)) (range_more 0 j j (omega arith)) ∙ flat_map-append (addition k) (range_with_len 0 j) (j ∷ []) in
    put ∙ ap (λ (bytes : List ℕ). bytes ++ (16 ∷ ((7 * j + k) % 100) ∷ 96 ∷ [])) so_far ∙ ap (λ (bytes : List ℕ). 26 ∷ bytes) (sym items)
