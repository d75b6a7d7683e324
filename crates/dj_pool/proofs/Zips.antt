-- Lists that go with each other, item by item.
use Rattle.std.proofs.Common.{◌≡◌, ℕ, ◌+◌, ◌<◌, ◌≤◌, List, [], ◌∷◌, ◌++◌, length, get_or, take, subst}
use Rattle.std.specs.List.{AllZip}
use Rattle.std.proofs.lemmas.List.{take_more, take_all}
use Rattle.std.proofs.lemmas.Slice.Zip.{all_zipped_more}

-- all of the items
pub zip_taken : {A B : Type 0} (R : A → B → Type 0) (xs : List A) (n : ℕ) (ys : List B) → length xs ≤ n → AllZip R (take n xs) ys → AllZip R xs ys
zip_taken R xs n ys past all = subst (λ t. AllZip R t ys) (take_all n xs past) all

-- the table of one more item
pub table_more : {A B : Type 0} (R : A → B → Type 0) (items : List A) (i : ℕ) (item : A) (table pushed : List B) (told : B) → i < length items → item ≡ get_or items i item → AllZip R (take i items) table
    → R item told → pushed ≡ table ++ told ∷ [] → AllZip R (take (i + 1) items) pushed
table_more R items i item table pushed told within is so_far one is_pushed =
    rw (is_pushed, take_more items i item within, ← is) (all_zipped_more R (take i items) table item told so_far one)
