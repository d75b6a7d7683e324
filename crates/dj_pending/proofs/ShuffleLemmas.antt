-- Forms that fit a stack, and the values that they move.
use Rattle.std.proofs.Common.{◌≡◌, ◌↔◌, ℕ, zero, suc, ◌<◌, ◌≤◌, Bool, true, false, eqb, List, [], ◌∷◌, ◌++◌, length, map, take, drop, get_or, Option, Some, None, refl, sym, ap, ◌∙◌, arith}
use Rattle.std.specs.Prelude.{if◌then◌else◌, slice_get, slice_index_or, option_map}
use Rattle.std.proofs.lemmas.Bool.Decides.{nat_tests}
use Rattle.std.proofs.lemmas.List.{append_assoc, map-append}
use Rattle.std.proofs.lemmas.Option.{slice_get-map, get_or_from_slice_get, same_Some}
use Rattle.dj_pending.specs.declared.entry.Entry as code_entry
use Rattle.dj_names.specs.Types as types
use Rattle.dj_rebuilding.specs.Pending.{Pending, Kept, Nothing}
use Rattle.dj_pending.specs.Entries.{view_entry}
use Rattle.dj_bytecode.specs.Shuffles.{Form}
use Rattle.dj_rebuilt.specs.Moving.{entry_words, have_words, moved_entries, shuffled_entries}
use Rattle.dj_pending.specs.Forms.{form_of}

-- ---- words

same_word : (n : ℕ) → eqb n n ≡ true
same_word n = grind (arith, nat_tests)

other_word : (m n : ℕ) → (n ≡ m → ⊥) → eqb n m ≡ false
other_word m n other = grind (arith, nat_tests)

pub words_next : (takes : List ℕ) (stack : List Pending) (k : ℕ) (d : ℕ) → k < length takes → slice_get (map entry_words stack) k ≡ Some (get_or takes k d) → have_words (drop k takes) (drop k stack) ≡ have_words (drop (suc k) takes) (drop (suc k) stack)
words_next [] stack k d within is = absurd (omega arith)
words_next (word ∷ takes) [] k d within is = absurd (cc)
words_next (word ∷ takes) (top ∷ below) zero d within is = let same : entry_words top ≡ word = cc in rw (same, same_word word) refl
words_next (word ∷ takes) (top ∷ below) (suc k) d within is = words_next takes below k d (omega arith) is

pub words_wrong : (takes : List ℕ) (stack : List Pending) (k : ℕ) (d : ℕ) → k < length takes → (slice_get (map entry_words stack) k ≡ Some (get_or takes k d) → ⊥) → have_words (drop k takes) (drop k stack) ≡ false
words_wrong [] stack k d within other = absurd (omega arith)
words_wrong (word ∷ takes) [] zero d within other = refl
words_wrong (word ∷ takes) [] (suc k) d within other = none takes k (omega arith)
  where
    none : (takes : List ℕ) (k : ℕ) → k < length takes → have_words (drop k takes) [] ≡ false
    none [] k within = absurd (omega arith)
    none (w ∷ takes) zero within = refl
    none (w ∷ takes) (suc k) within = none takes k (omega arith)
words_wrong (word ∷ takes) (top ∷ below) zero d within other = rw (other_word word (entry_words top) (λ same. other (ap Some same))) refl
words_wrong (word ∷ takes) (top ∷ below) (suc k) d within other = words_wrong takes below k d (omega arith) other

pub words_all : (takes : List ℕ) (stack : List Pending) (k : ℕ) → length takes ≤ k → have_words (drop k takes) (drop k stack) ≡ true
words_all [] stack zero past = refl
words_all [] stack (suc k) past = refl
words_all (word ∷ takes) stack zero past = absurd (omega arith)
words_all (word ∷ takes) [] (suc k) past = all takes k (omega arith)
  where
    all : (takes : List ℕ) (k : ℕ) → length takes ≤ k → have_words (drop k takes) [] ≡ true
    all [] zero past = refl
    all [] (suc k) past = refl
    all (w ∷ takes) zero past = absurd (omega arith)
    all (w ∷ takes) (suc k) past = all takes k (omega arith)
words_all (word ∷ takes) (top ∷ below) (suc k) past = words_all takes below k (omega arith)

-- the words of the entry at a place, by the entry
words_there : (stack : List Pending) (place : ℕ) (entry : Pending) → Some entry ≡ slice_get stack place → slice_get (map entry_words stack) place ≡ Some (entry_words entry)
words_there stack place entry is = slice_get-map entry_words stack place ∙ ap (option_map entry_words) (sym is)

pub words_none : (stack : List Pending) (place : ℕ) → None ≡ slice_get stack place → slice_get (map entry_words stack) place ≡ None
words_none stack place is = slice_get-map entry_words stack place ∙ ap (option_map entry_words) (sym is)

pub is_word : (stack : List Pending) (place m word : ℕ) (entry : Pending) → Some entry ≡ slice_get stack place → m ≡ entry_words entry → (eqb m word ≡ true) ↔ (slice_get (map entry_words stack) place ≡ Some word)
is_word stack place m word entry is same =
    let there = words_there stack place entry is in
    (λ yes. let e : m ≡ word = grind (arith, nat_tests) in there ∙ ap Some (sym same ∙ e), λ found. let e : m ≡ word = same ∙ same_Some (entry_words entry) word (sym there ∙ found) in rw e (same_word word))

-- ---- forms

pub form_here : (forms : List Form) (stack : List Pending) (k : ℕ) (d : Form) → k < length forms → have_words (get_or forms k d).takes stack ≡ true → form_of (drop k forms) stack ≡ Some (get_or forms k d)
form_here [] stack k d within fits = absurd (omega arith)
form_here (form ∷ forms) stack zero d within fits = rw fits refl
form_here (form ∷ forms) stack (suc k) d within fits = form_here forms stack k d (omega arith) fits

pub form_next : (forms : List Form) (stack : List Pending) (k : ℕ) (d : Form) → k < length forms → have_words (get_or forms k d).takes stack ≡ false → form_of (drop k forms) stack ≡ form_of (drop (suc k) forms) stack
form_next [] stack k d within fits = absurd (omega arith)
form_next (form ∷ forms) stack zero d within fits = rw fits refl
form_next (form ∷ forms) stack (suc k) d within fits = form_next forms stack k d (omega arith) fits

pub form_none : (forms : List Form) (stack : List Pending) (k : ℕ) → length forms ≤ k → form_of (drop k forms) stack ≡ None
form_none [] stack zero past = refl
form_none [] stack (suc k) past = refl
form_none (form ∷ forms) stack zero past = absurd (omega arith)
form_none (form ∷ forms) stack (suc k) past = form_none forms stack k (omega arith)

by_test : (form : Form) (forms : List Form) (stack : List Pending) (found : Option Form) → (form_of forms stack ≡ found → shuffled_entries forms stack ≡ option_map (λ form. moved_entries form stack) found)
    → (fits : Bool) → (if fits then Some form else form_of forms stack) ≡ found → (if fits then Some (moved_entries form stack) else shuffled_entries forms stack) ≡ option_map (λ form. moved_entries form stack) found
by_test form forms stack found rest true is = ap (option_map (λ form. moved_entries form stack)) is
by_test form forms stack found rest false is = rest is

-- the stack by the first form that fits it, if there is one
pub by_form : (forms : List Form) (stack : List Pending) (found : Option Form) → form_of forms stack ≡ found → shuffled_entries forms stack ≡ option_map (λ form. moved_entries form stack) found
by_form [] stack found is = ap (option_map (λ form. moved_entries form stack)) is
by_form (form ∷ forms) stack found is = by_test form forms stack found (by_form forms stack found) (have_words form.takes stack) is

-- ---- places

-- one place more
pub copied_more : (places : List ℕ) (stack : List Pending) (copies : List code_entry.Entry) (k d : ℕ) (copy : code_entry.Entry) → k < length places → map view_entry copies ≡ map (λ place. slice_index_or stack place (Kept types.Null Nothing)) (take k places) → view_entry copy ≡ slice_index_or stack (get_or places k d) (Kept types.Null Nothing)
    → map view_entry (copies ++ copy ∷ []) ≡ map (λ place. slice_index_or stack place (Kept types.Null Nothing)) (take (suc k) places)
copied_more places stack copies k d copy within so_far is =
    map-append view_entry copies (copy ∷ []) ∙ rw (so_far, is) (sym (more places k within))
  where
    more : (places : List ℕ) (k : ℕ) → k < length places → map (λ place. slice_index_or stack place (Kept types.Null Nothing)) (take (suc k) places) ≡ map (λ place. slice_index_or stack place (Kept types.Null Nothing)) (take k places) ++ slice_index_or stack (get_or places k d) (Kept types.Null Nothing) ∷ []
    more [] k within = absurd (omega arith)
    more (place ∷ places) zero within = refl
    more (place ∷ places) (suc k) within = ap (λ list. slice_index_or stack place (Kept types.Null Nothing) ∷ list) (more places k (omega arith))

-- the entry at a place
pub at_place : (stack : List Pending) (place : ℕ) (entry : Pending) → Some entry ≡ slice_get stack place → entry ≡ slice_index_or stack place (Kept types.Null Nothing)
at_place stack place entry is = sym (get_or_from_slice_get stack place entry (Kept types.Null Nothing) (sym is))

pub at_none : (stack : List Pending) (place : ℕ) → None ≡ slice_get stack place → Kept types.Null Nothing ≡ slice_index_or stack place (Kept types.Null Nothing)
at_none [] place is = refl
at_none (top ∷ below) zero is = absurd (cc)
at_none (top ∷ below) (suc place) is = at_none below place is

-- one entry more is put on the stack
pub put_more : (left rest : List code_entry.Entry) (entry : code_entry.Entry) (before after all : List Pending) → left ≡ rest ++ entry ∷ [] → after ≡ view_entry entry ∷ before → map view_entry left ++ before ≡ all → map view_entry rest ++ after ≡ all
put_more left rest entry before after all is pushed so_far =
    ap (λ list. map view_entry rest ++ list) pushed ∙ sym (append_assoc (map view_entry rest) (view_entry entry ∷ []) before) ∙ ap (λ list. list ++ before) (sym (ap (map view_entry) is ∙ map-append view_entry rest (entry ∷ []))) ∙ so_far
