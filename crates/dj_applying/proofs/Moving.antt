-- Forms that fit a stack, and the entries that they pick.
use Rattle.std.proofs.Common.{◌≡◌, ◌↔◌, ℕ, zero, suc, ◌<◌, ◌≤◌, true, false, eqb, List, [], ◌∷◌, ◌++◌, length, map, take, drop, get_or, slice_get, Some, None, refl, sym, ap, ◌∙◌, arith}
use Rattle.std.proofs.lemmas.Bool.Decides.{nat_tests}
use Rattle.std.proofs.lemmas.List.{append_assoc}
use Rattle.std.specs.Option.{option_map}
use Rattle.std.proofs.lemmas.Option.{slice_get-map, same_Some}
use Rattle.dj_frames.specs.declared.tag.Tag as code
use Rattle.dj_frames.specs.Frames.{view_tag, view_tags}
use Rattle.dj_effects.specs.Works.{Form}
use Rattle.dj_effects.specs.Operands.{moved_words, begins, form_of}
use Rattle.dj_effects.specs.Effects.{picked}

-- ---- words

same_word : (n : ℕ) → eqb n n ≡ true
same_word n = grind (arith, nat_tests)

other_word : (m n : ℕ) → (n ≡ m → ⊥) → eqb m n ≡ false
other_word m n other = grind (arith, nat_tests)

pub begins_next : (takes found : List ℕ) (k : ℕ) (d : ℕ) → k < length takes → slice_get found k ≡ Some (get_or takes k d) → begins (drop k takes) (drop k found) ≡ begins (drop (suc k) takes) (drop (suc k) found)
begins_next [] found k d within is = absurd (omega arith)
begins_next (word ∷ takes) [] k d within is = absurd (cc)
begins_next (word ∷ takes) (first ∷ found) zero d within is = let same : first ≡ word = cc in rw (same, same_word word) refl
begins_next (word ∷ takes) (first ∷ found) (suc k) d within is = begins_next takes found k d (omega arith) is

pub begins_wrong : (takes found : List ℕ) (k : ℕ) (d : ℕ) → k < length takes → (slice_get found k ≡ Some (get_or takes k d) → ⊥) → begins (drop k takes) (drop k found) ≡ false
begins_wrong [] found k d within other = absurd (omega arith)
begins_wrong (word ∷ takes) [] zero d within other = refl
begins_wrong (word ∷ takes) [] (suc k) d within other = none takes k (omega arith)
  where
    none : (takes : List ℕ) (k : ℕ) → k < length takes → begins (drop k takes) [] ≡ false
    none [] k within = absurd (omega arith)
    none (w ∷ takes) zero within = refl
    none (w ∷ takes) (suc k) within = none takes k (omega arith)
begins_wrong (word ∷ takes) (first ∷ found) zero d within other = rw (other_word word first (λ same. other (ap Some same))) refl
begins_wrong (word ∷ takes) (first ∷ found) (suc k) d within other = begins_wrong takes found k d (omega arith) other

pub begins_all : (takes found : List ℕ) (k : ℕ) → length takes ≤ k → begins (drop k takes) (drop k found) ≡ true
begins_all [] found zero past = refl
begins_all [] found (suc k) past = refl
begins_all (word ∷ takes) found zero past = absurd (omega arith)
begins_all (word ∷ takes) [] (suc k) past = all takes k (omega arith)
  where
    all : (takes : List ℕ) (k : ℕ) → length takes ≤ k → begins (drop k takes) [] ≡ true
    all [] zero past = refl
    all [] (suc k) past = refl
    all (w ∷ takes) zero past = absurd (omega arith)
    all (w ∷ takes) (suc k) past = all takes k (omega arith)
begins_all (word ∷ takes) (first ∷ found) (suc k) past = begins_all takes found k (omega arith)

-- ---- forms

pub form_here : (forms : List Form) (found : List ℕ) (k : ℕ) (d : Form) → k < length forms → begins (get_or forms k d).takes found ≡ true → form_of (drop k forms) found ≡ Some (get_or forms k d)
form_here [] found k d within fits = absurd (omega arith)
form_here (form ∷ forms) found zero d within fits = rw fits refl
form_here (form ∷ forms) found (suc k) d within fits = form_here forms found k d (omega arith) fits

pub form_next : (forms : List Form) (found : List ℕ) (k : ℕ) (d : Form) → k < length forms → begins (get_or forms k d).takes found ≡ false → form_of (drop k forms) found ≡ form_of (drop (suc k) forms) found
form_next [] found k d within fits = absurd (omega arith)
form_next (form ∷ forms) found zero d within fits = rw fits refl
form_next (form ∷ forms) found (suc k) d within fits = form_next forms found k d (omega arith) fits

pub form_none : (forms : List Form) (found : List ℕ) (k : ℕ) → length forms ≤ k → form_of (drop k forms) found ≡ None
form_none [] found zero past = refl
form_none [] found (suc k) past = refl
form_none (form ∷ forms) found zero past = absurd (omega arith)
form_none (form ∷ forms) found (suc k) past = form_none forms found k (omega arith)

-- ---- places

pub picked_more : {A : Type 0} (places : List ℕ) (list : List A) (k : ℕ) (d : ℕ) → k < length places → picked (take (suc k) places) list ≡ picked (take k places) list ++ take 1 (drop (get_or places k d) list)
picked_more [] list k d within = absurd (omega arith)
picked_more (place ∷ places) list zero d within = none (take 1 (drop place list))
  where
    none : {A : Type 0} (l : List A) → l ++ [] ≡ l
    none [] = refl
    none (x ∷ l) = ap (λ m. x ∷ m) (none l)
picked_more (place ∷ places) list (suc k) d within = ap (λ l. take 1 (drop place list) ++ l) (picked_more places list k d (omega arith)) ∙ sym (append_assoc (take 1 (drop place list)) (picked (take k places) list) (take 1 (drop (get_or places k d) list)))

pub one_there : {A : Type 0} (list : List A) (k : ℕ) (x : A) → slice_get list k ≡ Some x → take 1 (drop k list) ≡ x ∷ []
one_there [] k x is = absurd (cc)
one_there (first ∷ list) zero x is = let same : first ≡ x = cc in rw same refl
one_there (first ∷ list) (suc k) x is = one_there list k x is

pub none_there : {A : Type 0} (list : List A) (k : ℕ) → slice_get list k ≡ None → take 1 (drop k list) ≡ []
none_there [] zero is = refl
none_there [] (suc k) is = refl
none_there (first ∷ list) zero is = absurd (cc)
none_there (first ∷ list) (suc k) is = none_there list k is

-- ---- entries of the code

-- the words of the entry at a place, by the entry
pub words_there : (stack : List code.Tag) (depth : ℕ) (tag : code.Tag) → Some tag ≡ slice_get stack depth → slice_get (map moved_words (view_tags stack)) depth ≡ Some (moved_words (view_tag tag))
words_there stack depth tag is = slice_get-map moved_words (view_tags stack) depth ∙ ap (option_map moved_words) (slice_get-map view_tag stack depth ∙ ap (option_map view_tag) (sym is))

pub words_none : (stack : List code.Tag) (depth : ℕ) → None ≡ slice_get stack depth → slice_get (map moved_words (view_tags stack)) depth ≡ None
words_none stack depth is = slice_get-map moved_words (view_tags stack) depth ∙ ap (option_map moved_words) (slice_get-map view_tag stack depth ∙ ap (option_map view_tag) (sym is))

pub tag_there : (stack : List code.Tag) (depth : ℕ) (tag : code.Tag) → Some tag ≡ slice_get stack depth → take 1 (drop depth (view_tags stack)) ≡ view_tag tag ∷ []
tag_there stack depth tag is = one_there (view_tags stack) depth (view_tag tag) (slice_get-map view_tag stack depth ∙ ap (option_map view_tag) (sym is))

pub tag_none : (stack : List code.Tag) (depth : ℕ) → None ≡ slice_get stack depth → take 1 (drop depth (view_tags stack)) ≡ []
tag_none stack depth is = none_there (view_tags stack) depth (slice_get-map view_tag stack depth ∙ ap (option_map view_tag) (sym is))

pub is_word : (stack : List code.Tag) (depth m word : ℕ) (tag : code.Tag) → Some tag ≡ slice_get stack depth → m ≡ moved_words (view_tag tag) → (eqb m word ≡ true) ↔ (slice_get (map moved_words (view_tags stack)) depth ≡ Some word)
is_word stack depth m word tag is same =
    let there = words_there stack depth tag is in
    (λ yes. let e : m ≡ word = grind (arith, nat_tests) in there ∙ ap Some (sym same ∙ e), λ found. let e : m ≡ word = same ∙ same_Some (moved_words (view_tag tag)) word (sym there ∙ found) in rw e (same_word word))
