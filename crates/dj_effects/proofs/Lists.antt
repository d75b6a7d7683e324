-- Lists of which items are looked at or changed one by one.
use Rattle.std.proofs.Common.{◌≡◌, ℕ, zero, suc, ◌<◌, ◌≤◌, Bool, true, false, ◌||◌, List, [], ◌∷◌, ◌++◌, length, map, drop, get_or, refl, sym, ap, ◌∙◌, arith}
use Rattle.std.specs.Prelude.{slice_set}
use Rattle.std.specs.List.{list_any}
use Rattle.std.proofs.lemmas.List.{map-append}
use Rattle.dj_frames.specs.declared.tag.Tag as code
use Rattle.dj_frames.specs.Frames.{Tag, view_tag, view_tags}
use Rattle.dj_tags.specs.Goes.{reversed}
use Rattle.dj_effects.specs.declared.stack.Entry.{Entry}
use Rattle.dj_effects.specs.Stacked.{tags_of, stacked}
use Rattle.dj_effects.specs.Doing.{passes_at}
use Rattle.dj_effects.proofs.Stacking.{map_reversed}

pub set_map : {A B : Type 0} (f : A → B) (list : List A) (k : ℕ) (x : A) → slice_set (map f list) k (f x) ≡ map f (slice_set list k x)
set_map f [] k x = refl
set_map f (y ∷ list) zero x = refl
set_map f (y ∷ list) (suc k) x = ap (λ l. f y ∷ l) (set_map f list k x)

-- ---- tests

pub entry_passes : (test : Tag → Bool) (top : List Entry) (k : ℕ) (entry : Entry) → k < length top → entry ≡ get_or top k entry → passes_at test k (view_tags (tags_of top)) ≡ test (view_tag entry.tag)
entry_passes test [] k entry within is = absurd (omega arith)
entry_passes test (first ∷ top) zero entry within is = ap (λ e. test (view_tag e.tag)) (sym is)
entry_passes test (first ∷ top) (suc k) entry within is = entry_passes test top k entry (omega arith) is

module _ {A : Type 0} (test : A → Bool) where
  or_false : (b : Bool) → b || false ≡ b
  or_false true = refl
  or_false false = refl

  or_same : (a b c : Bool) → (a || b) || c ≡ a || (b || c)
  or_same true b c = refl
  or_same false b c = refl

  or_turned : (a b : Bool) → a || b ≡ b || a
  or_turned true true = refl
  or_turned true false = refl
  or_turned false true = refl
  or_turned false false = refl

  pub any_here : (list : List A) (k : ℕ) → passes_at test k list ≡ true → list_any test (drop k list) ≡ true
  any_here [] k is = absurd (cc)
  any_here (x ∷ list) zero is = rw is refl
  any_here (x ∷ list) (suc k) is = any_here list k is

  pub any_next : (list : List A) (k : ℕ) → passes_at test k list ≡ false → list_any test (drop k list) ≡ list_any test (drop (suc k) list)
  any_next [] zero none = refl
  any_next [] (suc k) none = refl
  any_next (x ∷ list) zero none = rw none refl
  any_next (x ∷ list) (suc k) none = any_next list k none

  pub any_none : (list : List A) (k : ℕ) → length list ≤ k → list_any test (drop k list) ≡ false
  any_none [] zero past = refl
  any_none [] (suc k) past = refl
  any_none (x ∷ list) zero past = absurd (omega arith)
  any_none (x ∷ list) (suc k) past = any_none list k (omega arith)

  pub any_append : (front back : List A) → list_any test (front ++ back) ≡ list_any test front || list_any test back
  any_append [] back = refl
  any_append (x ∷ front) back = ap (λ b. test x || b) (any_append front back) ∙ sym (or_same (test x) (list_any test front) (list_any test back))

  pub any_reversed : (list : List A) → list_any test (reversed list) ≡ list_any test list
  any_reversed [] = refl
  any_reversed (x ∷ list) = any_append (reversed list) (x ∷ []) ∙ ap (λ b. b || (test x || false)) (any_reversed list) ∙ ap (λ b. list_any test list || b) (or_false (test x)) ∙ or_turned (list_any test list) (test x)

pub any_stacked : (test : Tag → Bool) (below : List code.Tag) (pushed : List Entry) → list_any test (view_tags (stacked below pushed)) ≡ list_any test (view_tags (tags_of pushed)) || list_any test (view_tags below)
any_stacked test below pushed =
    let parts : view_tags (stacked below pushed) ≡ reversed (view_tags (tags_of pushed)) ++ reversed (view_tags below) = map-append view_tag (reversed (tags_of pushed)) (reversed below) ∙ rw (map_reversed view_tag (tags_of pushed), map_reversed view_tag below) refl in
    ap (list_any test) parts ∙ any_append test (reversed (view_tags (tags_of pushed))) (reversed (view_tags below)) ∙ rw (any_reversed test (view_tags (tags_of pushed)), any_reversed test (view_tags below)) refl
