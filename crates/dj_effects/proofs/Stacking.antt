-- Lists from their other end, and the stack as it is kept.
use Rattle.std.proofs.Common.{◌≡◌, ◌⊎◌, ℕ, zero, suc, ◌+◌, ◌-◌, ◌<◌, ◌≤◌, List, [], ◌∷◌, ◌++◌, length, map, take, drop, get_or, slice_get, Some, None, refl, sym, ap, ◌∙◌, arith, inl, inr, add-one}
use Rattle.std.proofs.lemmas.Bool.{cases_order}
use Rattle.std.proofs.lemmas.List.{length-map, length-append, append_assoc, drop-append-le, map-append, get_or-map}
use Rattle.std.proofs.lemmas.Option.{slice_get_past, slice_get-get_or}
use Rattle.dj_frames.specs.declared.tag.Tag.{Tag}
use Rattle.dj_frames.specs.declared.tag.Tag.TheVariants.{Top}
use Rattle.dj_tags.specs.Goes.{reversed}
use Rattle.dj_tags.proofs.SlotLemmas.{length_snoc, length_reversed}
use Rattle.dj_effects.specs.declared.stack.Entry.{Entry}
use Rattle.dj_effects.specs.Stacked.{tags_of, stacked}

-- ---- lists from their other end

module _ {A : Type 0} where
  append_none : (list : List A) → list ++ [] ≡ list
  append_none [] = refl
  append_none (x ∷ list) = ap (λ l. x ∷ l) (append_none list)

  pub reversed_append : (front back : List A) → reversed (front ++ back) ≡ reversed back ++ reversed front
  reversed_append [] back = sym (append_none (reversed back))
  reversed_append (x ∷ front) back = ap (λ l. l ++ x ∷ []) (reversed_append front back) ∙ append_assoc (reversed back) (reversed front) (x ∷ [])

  pub reversed_snoc : (list : List A) (last : A) → reversed (list ++ last ∷ []) ≡ last ∷ reversed list
  reversed_snoc list last = reversed_append list (last ∷ [])

  pub get_left : (front back : List A) (k : ℕ) → k < length front → slice_get (front ++ back) k ≡ slice_get front k
  get_left [] back k within = absurd (omega arith)
  get_left (x ∷ front) back zero within = refl
  get_left (x ∷ front) back (suc k) within = get_left front back k (omega arith)

  pub get_right : (front back : List A) (k : ℕ) → length front ≤ k → slice_get (front ++ back) k ≡ slice_get back (k - length front)
  get_right [] back k past = ap (slice_get back) (omega arith)
  get_right (x ∷ front) back zero past = absurd (omega arith)
  get_right (x ∷ front) back (suc k) past = get_right front back k (omega arith) ∙ ap (slice_get back) (omega arith)

  pub get_reversed : (list : List A) (k : ℕ) → k < length list → slice_get (reversed list) k ≡ slice_get list (length list - 1 - k)
  get_reversed [] k within = absurd (omega arith)
  get_reversed (x ∷ list) k within = at (λ below. get_reversed list k below) (cases_order k (length list))
    where
      many : length (reversed list) ≡ length list
      many = length_reversed list

      at : (k < length list → slice_get (reversed list) k ≡ slice_get list (length list - 1 - k)) → (k ≡ length list) ⊎ ((k < length list) ⊎ (length list < k)) → slice_get (reversed list ++ x ∷ []) k ≡ slice_get (x ∷ list) (length (x ∷ list) - 1 - k)
      at later (inl last) =
          let e : slice_get (reversed list ++ x ∷ []) k ≡ slice_get (x ∷ []) (k - length (reversed list)) = get_right (reversed list) (x ∷ []) k (omega (arith, many)) in
          let n : k - length (reversed list) ≡ 0 = omega (arith, many) in
          let m : length (x ∷ list) - 1 - k ≡ 0 = omega arith in
          e ∙ rw (n, m) refl
      at later (inr (inl below)) =
          let e : slice_get (reversed list ++ x ∷ []) k ≡ slice_get (reversed list) k = get_left (reversed list) (x ∷ []) k (omega (arith, many)) in
          let m : length (x ∷ list) - 1 - k ≡ suc (length list - 1 - k) = omega arith in
          e ∙ later below ∙ rw m refl
      at later (inr (inr above)) = absurd (omega arith)

  pub drop_reversed : (list : List A) (k : ℕ) → drop k (reversed list) ≡ reversed (take (length list - k) list)
  drop_reversed [] zero = refl
  drop_reversed [] (suc k) = let n : length {A = A} [] - suc k ≡ 0 = omega arith in rw n refl
  drop_reversed (x ∷ list) k = at (drop_reversed list k) (cases_order k (suc (length list)))
    where
      many : length (reversed list) ≡ length list
      many = length_reversed list

      past : length list < k → drop k (reversed list ++ x ∷ []) ≡ reversed (take (length (x ∷ list) - k) (x ∷ list))
      past above =
          let n : length (x ∷ list) - k ≡ 0 = omega arith in
          let all : length (reversed list ++ x ∷ []) ≤ k = omega (arith, many, length_snoc (reversed list) x) in
          none (reversed list ++ x ∷ []) k all ∙ rw n refl
        where
          none : (l : List A) (m : ℕ) → length l ≤ m → drop m l ≡ []
          none [] zero few = refl
          none [] (suc m) few = refl
          none (y ∷ l) zero few = absurd (omega arith)
          none (y ∷ l) (suc m) few = none l m (omega arith)

      at : drop k (reversed list) ≡ reversed (take (length list - k) list) → (k ≡ suc (length list)) ⊎ ((k < suc (length list)) ⊎ (suc (length list) < k)) → drop k (reversed list ++ x ∷ []) ≡ reversed (take (length (x ∷ list) - k) (x ∷ list))
      at later (inl last) = past (omega arith)
      at later (inr (inl below)) =
          let n : length (x ∷ list) - k ≡ suc (length list - k) = omega arith in
          drop-append-le k (reversed list) (x ∷ []) (omega (arith, many)) ∙ ap (λ l. l ++ x ∷ []) later ∙ rw n refl
      at later (inr (inr above)) = past (omega arith)

  pub drop_past : (front back : List A) (k : ℕ) → length front ≤ k → drop k (front ++ back) ≡ drop (k - length front) back
  drop_past [] back k past = ap (λ n. drop n back) (omega arith)
  drop_past (x ∷ front) back zero past = absurd (omega arith)
  drop_past (x ∷ front) back (suc k) past = drop_past front back k (omega arith) ∙ ap (λ n. drop n back) (omega arith)

-- ---- the stack

pub map_reversed : {A B : Type 0} (f : A → B) (list : List A) → map f (reversed list) ≡ reversed (map f list)
map_reversed f [] = refl
map_reversed f (x ∷ list) = map-append f (reversed list) (x ∷ []) ∙ ap (λ l. l ++ f x ∷ []) (map_reversed f list)

many_tags : (pushed : List Entry) → length (reversed (tags_of pushed)) ≡ length pushed
many_tags pushed = length_reversed (tags_of pushed) ∙ length-map pushed (λ entry. entry.tag)

take_tags : (n : ℕ) (pushed : List Entry) → tags_of (take n pushed) ≡ take n (tags_of pushed)
take_tags zero pushed = refl
take_tags (suc n) [] = refl
take_tags (suc n) (entry ∷ pushed) = ap (λ l. entry.tag ∷ l) (take_tags n pushed)

pub peek_top : (below : List Tag) (pushed : List Entry) (depth : ℕ) (d : Entry) → depth < length pushed → Some (get_or pushed (length pushed - 1 - depth) d).tag ≡ slice_get (stacked below pushed) depth
peek_top below pushed depth d within =
    let many = many_tags pushed in
    let tags : length (tags_of pushed) ≡ length pushed = length-map pushed (λ entry. entry.tag) in
    let left : slice_get (stacked below pushed) depth ≡ slice_get (reversed (tags_of pushed)) depth = get_left (reversed (tags_of pushed)) (reversed below) depth (omega (arith, many)) in
    let turned : slice_get (reversed (tags_of pushed)) depth ≡ slice_get (tags_of pushed) (length (tags_of pushed) - 1 - depth) = get_reversed (tags_of pushed) depth (omega (arith, tags)) in
    let place : length (tags_of pushed) - 1 - depth ≡ length pushed - 1 - depth = omega (arith, tags) in
    let there : slice_get (tags_of pushed) (length pushed - 1 - depth) ≡ Some (get_or (tags_of pushed) (length pushed - 1 - depth) Top) = slice_get-get_or (tags_of pushed) (length pushed - 1 - depth) Top (omega (arith, tags)) in
    let tag : get_or (tags_of pushed) (length pushed - 1 - depth) Top ≡ (get_or pushed (length pushed - 1 - depth) d).tag = get_or-map (λ entry. entry.tag) pushed (length pushed - 1 - depth) d Top (omega arith) in
    sym (left ∙ turned ∙ ap (slice_get (tags_of pushed)) place ∙ there ∙ ap Some tag)

pub peek_below : (below : List Tag) (pushed : List Entry) (depth : ℕ) → length pushed ≤ depth → depth - length pushed < length below → slice_get below (length below - 1 - (depth - length pushed)) ≡ slice_get (stacked below pushed) depth
peek_below below pushed depth past within =
    let many = many_tags pushed in
    let right : slice_get (stacked below pushed) depth ≡ slice_get (reversed below) (depth - length (reversed (tags_of pushed))) = get_right (reversed (tags_of pushed)) (reversed below) depth (omega (arith, many)) in
    let place : depth - length (reversed (tags_of pushed)) ≡ depth - length pushed = omega (arith, many) in
    sym (right ∙ ap (slice_get (reversed below)) place ∙ get_reversed below (depth - length pushed) within)

pub peek_past : (below : List Tag) (pushed : List Entry) (depth : ℕ) → length pushed + length below ≤ depth → None ≡ slice_get (stacked below pushed) depth
peek_past below pushed depth past =
    let many = many_tags pushed in
    let lower = length_reversed below in
    let all = length-append (reversed (tags_of pushed)) (reversed below) in
    sym (slice_get_past (stacked below pushed) depth (omega (arith, many, lower, all)))

pub push_one : (below : List Tag) (pushed : List Entry) (entry : Entry) → stacked below (pushed ++ entry ∷ []) ≡ entry.tag ∷ stacked below pushed
push_one below pushed entry =
    let tags : tags_of (pushed ++ entry ∷ []) ≡ tags_of pushed ++ entry.tag ∷ [] = map-append (λ e. e.tag) pushed (entry ∷ []) in
    ap (λ l. reversed l ++ reversed below) tags ∙ ap (λ l. l ++ reversed below) (reversed_snoc (tags_of pushed) entry.tag)

pub remove_top : (below : List Tag) (pushed : List Entry) (count : ℕ) → count ≤ length pushed → stacked below (take (length pushed - count) pushed) ≡ drop count (stacked below pushed)
remove_top below pushed count few =
    let many = many_tags pushed in
    let tags : length (tags_of pushed) ≡ length pushed = length-map pushed (λ entry. entry.tag) in
    let front : drop count (stacked below pushed) ≡ drop count (reversed (tags_of pushed)) ++ reversed below = drop-append-le count (reversed (tags_of pushed)) (reversed below) (omega (arith, many)) in
    let turned : drop count (reversed (tags_of pushed)) ≡ reversed (take (length (tags_of pushed) - count) (tags_of pushed)) = drop_reversed (tags_of pushed) count in
    let taken : take (length (tags_of pushed) - count) (tags_of pushed) ≡ tags_of (take (length pushed - count) pushed) = ap (λ n. take (n - count) (tags_of pushed)) tags ∙ sym (take_tags (length pushed - count) pushed) in
    sym (front ∙ ap (λ l. l ++ reversed below) (turned ∙ ap reversed taken))

pub remove_below : (below : List Tag) (pushed : List Entry) (count : ℕ) → length pushed ≤ count → stacked (take (length below - (count - length pushed)) below) [] ≡ drop count (stacked below pushed)
remove_below below pushed count many_out =
    let many = many_tags pushed in
    let past : drop count (stacked below pushed) ≡ drop (count - length (reversed (tags_of pushed))) (reversed below) = drop_past (reversed (tags_of pushed)) (reversed below) count (omega (arith, many)) in
    let place : count - length (reversed (tags_of pushed)) ≡ count - length pushed = omega (arith, many) in
    sym (past ∙ ap (λ n. drop n (reversed below)) place ∙ drop_reversed below (count - length pushed))

pub turned_back : (below : List Tag) (pushed : List Entry) → reversed (below ++ tags_of pushed) ≡ stacked below pushed
turned_back below pushed = reversed_append below (tags_of pushed)

tags_next : (pushed : List Entry) (k : ℕ) (entry : Entry) → k < length pushed → get_or pushed k entry ≡ entry → tags_of (take (suc k) pushed) ≡ tags_of (take k pushed) ++ entry.tag ∷ []
tags_next [] k entry within is = absurd (omega arith)
tags_next (first ∷ pushed) zero entry within is = ap (λ e. e.tag ∷ []) is
tags_next (first ∷ pushed) (suc k) entry within is = ap (λ l. first.tag ∷ l) (tags_next pushed k entry (omega arith) is)

pub tags_more : (pushed : List Entry) (k : ℕ) (entry : Entry) → k < length pushed → get_or pushed k entry ≡ entry → tags_of (take (k + 1) pushed) ≡ tags_of (take k pushed) ++ entry.tag ∷ []
tags_more pushed k entry within is = rw add-one (tags_next pushed k entry within is)
