-- What is written, part by part.
use Rattle.std.proofs.Common.{◌≡◌, ◌∙◌, ◌+◌, ◌<◌, ◌≤◌, ℕ, Bool, true, false, List, [], ◌∷◌, ◌++◌, length, take, filter, get_or, refl, sym, ap, append_assoc, append-nil, flat_map, if◌then◌else◌}
use Rattle.std.proofs.lemmas.List.{take_all, take_more}
use Rattle.std.proofs.lemmas.List.Concat.{flat_map-append}
use Rattle.dj_pool.specs.declared.entry.Entry.{Entry}
use Rattle.dj_pool.specs.PoolFormat.{isnt_skip, spell_entry}
use Rattle.dj_write.specs.Files.{slot_bytes}

-- one item more behind what stood there before the items
pub item_more : {A : Type 0} (f : A → List ℕ) (xs : List A) (i : ℕ) (x : A) (before now after : List ℕ) → i < length xs → x ≡ get_or xs i x
    → now ≡ before ++ flat_map f (take i xs) → after ≡ now ++ f x → after ≡ before ++ flat_map f (take (i + 1) xs)
item_more f xs i x before now after within is so_far put =
    let items : flat_map f (take (i + 1) xs) ≡ flat_map f (take i xs) ++ f x =
    ap (flat_map f) (take_more xs i x within) ∙ flat_map-append f (take i xs) (get_or xs i x ∷ []) ∙ ap (λ last. flat_map f (take i xs) ++ (f last ++ [])) (sym is)
    ∙ ap (λ last. flat_map f (take i xs) ++ last) (append-nil (f x)) in
    put ∙ ap (λ bytes. bytes ++ f x) so_far ∙ append_assoc before (flat_map f (take i xs)) (f x) ∙ ap (λ last. before ++ last) (sym items)

-- all items, behind their number
pub all_items : {A : Type 0} (f : A → List ℕ) (xs : List A) (i : ℕ) (old number before now : List ℕ) → length xs ≤ i
    → before ≡ old ++ number → now ≡ before ++ flat_map f (take i xs) → now ≡ old ++ (number ++ flat_map f xs)
all_items f xs i old number before now past counted so_far =
    so_far ∙ ap (λ items. before ++ flat_map f items) (take_all i xs past) ∙ ap (λ bytes. bytes ++ flat_map f xs) counted ∙ append_assoc old number (flat_map f xs)

-- parts behind one another
pub two_parts : (old first second a b : List ℕ) → a ≡ old ++ first → b ≡ a ++ second → b ≡ old ++ (first ++ second)
two_parts old first second a b x y = y ∙ ap (λ bytes. bytes ++ second) x ∙ append_assoc old first second

pub two_and_none : (old first second a b : List ℕ) → a ≡ old ++ first → b ≡ a ++ second → b ≡ old ++ (first ++ (second ++ []))
two_and_none old first second a b x y = two_parts old first second a b x y ∙ ap (λ last. old ++ (first ++ last)) (sym (append-nil second))

pub three_parts : (old first second third a b d : List ℕ) → a ≡ old ++ first → b ≡ a ++ second → d ≡ b ++ third → d ≡ old ++ (first ++ (second ++ third))
three_parts old first second third a b d x y z = two_parts old first (second ++ third) a d x (two_parts a second third b d y z)

pub three_and_none : (old first second third a b d : List ℕ) → a ≡ old ++ first → b ≡ a ++ second → d ≡ b ++ third → d ≡ old ++ (first ++ (second ++ (third ++ [])))
three_and_none old first second third a b d x y z = three_parts old first second third a b d x y z ∙ ap (λ last. old ++ (first ++ (second ++ last))) (sym (append-nil third))

pub four_and_none : (old first second third fourth a b d e : List ℕ) → a ≡ old ++ first → b ≡ a ++ second → d ≡ b ++ third → e ≡ d ++ fourth
    → e ≡ old ++ (first ++ (second ++ (third ++ (fourth ++ []))))
four_and_none old first second third fourth a b d e x y z w = two_parts old first (second ++ (third ++ (fourth ++ []))) a e x (three_and_none a second third fourth b d e y z w)

-- what the slots of a pool hold is what its entries spell
of_slot : (there : Bool) (spelled : List ℕ) (found : Entry) (kept : List Entry) (bytes : List ℕ) → bytes ≡ flat_map spell_entry kept → spelled ≡ spell_entry found
    → (if there then spelled else []) ++ bytes ≡ flat_map spell_entry (if there then found ∷ kept else kept)
of_slot true spelled found kept bytes e same = ap (λ last. spelled ++ last) e ∙ ap (λ first. first ++ flat_map spell_entry kept) same
of_slot false spelled found kept bytes e same = e

pub slots_spell : (pool : List Entry) → flat_map slot_bytes pool ≡ flat_map spell_entry (filter isnt_skip pool)
slots_spell [] = refl
slots_spell (found ∷ rest) = of_slot (isnt_skip found) (spell_entry found) found (filter isnt_skip rest) (flat_map slot_bytes rest) (slots_spell rest) refl
