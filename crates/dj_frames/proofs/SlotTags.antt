-- Tags by slot: of lists, of two halves, and with others put over them.
use Rattle.std.proofs.Common.{◌≡◌, ◌≢◌, ◌⊎◌, ℕ, suc, ◌+◌, ◌-◌, ◌^◌, ◌<◌, ◌≤◌, ltb, cond, List, [], ◌∷◌, ◌++◌, length, get_or, take, drop, set, replicate, Some, refl, sym, ap, ◌∙◌, inl, inr, arith, length-append}
use Rattle.std.specs.Prelude.{slice_get}
use Rattle.std.proofs.Math.Nat.{pow-suc}
use Rattle.std.proofs.lemmas.Bool.{cases_lt, lt-ltb, le-ltb}
use Rattle.std.proofs.lemmas.List.{get_or_past, get_or_default, get_or-take, get_or-drop, get_or_append_left, get_or-append_right, get_or-set_same, get_or-set_other, ext_get_or, length-set, take_all, length-replicate, get_or-replicate}
use Rattle.std.proofs.lemmas.List.FromFn.{length-map-range_with_len, get_or-map-range_with_len, take-map-range_with_len, map-range_with_len_more}
use Rattle.std.proofs.lemmas.Option.{slice_get-get_or}
use Rattle.dj_frames.specs.declared.tag.Tag.{Tag}
use Rattle.dj_frames.specs.declared.tag.Tag.TheVariants.{Top}
use Rattle.dj_frames.specs.declared.tree.Tree.{Tree}
use Rattle.dj_frames.specs.declared.tree.Tree.TheVariants.{All}
use Rattle.dj_frames.specs.SlotTree.{listed, joined, tag_in, over, cut, first_tags}

-- ---- below and above a place

pub joined_below : (half slot : ℕ) (lower upper : ℕ → Tag) → slot < half → joined half lower upper slot ≡ lower slot
joined_below half slot lower upper lt = rw (lt-ltb slot half lt) refl

pub joined_above : (half slot : ℕ) (lower upper : ℕ → Tag) → half ≤ slot → joined half lower upper slot ≡ upper (slot - half)
joined_above half slot lower upper le = rw (le-ltb slot half le) refl

pub over_below : (start slot : ℕ) (tags : List Tag) (before : ℕ → Tag) → slot < start → over start tags before slot ≡ before slot
over_below start slot tags before lt = rw (lt-ltb slot start lt) refl

pub over_above : (start slot : ℕ) (tags : List Tag) (before : ℕ → Tag) → start ≤ slot → over start tags before slot ≡ get_or tags (slot - start) (before slot)
over_above start slot tags before le = rw (le-ltb slot start le) refl

-- no tag is put behind the last one
over_behind : (start slot : ℕ) (tags : List Tag) (before : ℕ → Tag) → start + length tags ≤ slot → over start tags before slot ≡ before slot
over_behind start slot tags before le = over_above start slot tags before (omega arith) ∙ get_or_past tags (slot - start) (before slot) (omega arith)

-- the tag in a slot asks only for the one before in that slot
over_same : (start slot : ℕ) (tags : List Tag) (before after : ℕ → Tag) → before slot ≡ after slot → over start tags before slot ≡ over start tags after slot
over_same start slot tags before after same = ap (λ (tag : Tag). cond (ltb slot start) tag (get_or tags (slot - start) tag)) same

joined_same : (half slot : ℕ) (lower upper lower' upper' : ℕ → Tag) → slot < half + half → ((s : ℕ) → s < half → lower s ≡ lower' s) → ((s : ℕ) → s < half → upper s ≡ upper' s) → joined half lower upper slot ≡ joined half lower' upper' slot
joined_same half slot lower upper lower' upper' within low up = elim (cases_lt slot half) [
  | inl lt ↦ joined_below half slot lower upper lt ∙ low slot lt ∙ sym (joined_below half slot lower' upper' lt)
  | inr le ↦ joined_above half slot lower upper le ∙ up (slot - half) (omega arith) ∙ sym (joined_above half slot lower' upper' le)
]

-- ---- Top from a place on

cut_below : (from slot : ℕ) (before : ℕ → Tag) → slot < from → cut from before slot ≡ before slot
cut_below from slot before lt = rw (lt-ltb slot from lt) refl

pub cut_above : (from slot : ℕ) (before : ℕ → Tag) → from ≤ slot → cut from before slot ≡ Top
cut_above from slot before le = rw (le-ltb slot from le) refl

-- the tag in a slot asks only for the one before in that slot
pub cut_same : (from slot : ℕ) (before after : ℕ → Tag) → before slot ≡ after slot → cut from before slot ≡ cut from after slot
cut_same from slot before after same = ap (λ (tag : Tag). cond (ltb slot from) tag Top) same

-- where there is Top already, nothing changes
pub cut_clear : (from slot : ℕ) (at : ℕ → Tag) → (from ≤ slot → at slot ≡ Top) → at slot ≡ cut from at slot
cut_clear from slot at top = elim (cases_lt slot from) [
  | inl lt ↦ sym (cut_below from slot at lt)
  | inr le ↦ top le ∙ sym (cut_above from slot at le)
]

-- the first tags of a list, and Top behind them
pub listed_cut : (from slot : ℕ) (list made : List Tag) (rest : Tag) → made ≡ first_tags from (over 0 [] (listed list rest)) → listed made Top slot ≡ cut from (listed list rest) slot
listed_cut from slot list made rest is = elim (cases_lt slot from) [
  | inl lt ↦
      ap (λ (l : List Tag). get_or l slot Top) is ∙ get_or-map-range_with_len (over 0 [] (listed list rest)) 0 from slot slot Top lt (omega arith) ∙ over_behind 0 slot [] (listed list rest) (omega arith)
      ∙ sym (cut_below from slot (listed list rest) lt)
  | inr le ↦
      let many : length made ≡ from = ap length is ∙ length-map-range_with_len (over 0 [] (listed list rest)) 0 from in
      get_or_past made slot Top (omega arith) ∙ sym (cut_above from slot (listed list rest) le)
]

module _ (half from slot : ℕ) (lower upper : ℕ → Tag) where
  cut_upper : half ≤ from → joined half lower (cut (from - half) upper) slot ≡ cut from (joined half lower upper) slot
  cut_upper past = elim (cases_lt slot half) [
    | inl lt ↦ joined_below half slot lower (cut (from - half) upper) lt ∙ sym (cut_below from slot (joined half lower upper) (omega arith) ∙ joined_below half slot lower upper lt)
    | inr le ↦ joined_above half slot lower (cut (from - half) upper) le ∙ above le (cases_lt slot from)
  ]
    where
      above : half ≤ slot → (slot < from) ⊎ (from ≤ slot) → cut (from - half) upper (slot - half) ≡ cut from (joined half lower upper) slot
      above le (inl lt) = cut_below (from - half) (slot - half) upper (omega arith) ∙ sym (cut_below from slot (joined half lower upper) lt ∙ joined_above half slot lower upper le)
      above le (inr past) = cut_above (from - half) (slot - half) upper (omega arith) ∙ sym (cut_above from slot (joined half lower upper) past)

  cut_lower : from < half → joined half (cut from lower) (λ s. Top) slot ≡ cut from (joined half lower upper) slot
  cut_lower before = elim (cases_lt slot half) [
    | inl lt ↦ joined_below half slot (cut from lower) (λ s. Top) lt ∙ cut_same from slot lower (joined half lower upper) (sym (joined_below half slot lower upper lt))
    | inr le ↦ joined_above half slot (cut from lower) (λ s. Top) le ∙ sym (cut_above from slot (joined half lower upper) (omega arith))
  ]

-- ---- lists

-- as many tags as there are
pub put_listed : (len start slot : ℕ) (list tags made : List Tag) (rest behind : Tag) → length list ≤ len → start + length tags ≤ len → made ≡ first_tags len (over start tags (listed list rest)) → behind ≡ rest
    → listed made behind slot ≡ over start tags (listed list rest) slot
put_listed len start slot list tags made rest behind le put is same = elim (cases_lt slot len) [
  | inl lt ↦ ap (λ (l : List Tag). get_or l slot behind) is ∙ get_or-map-range_with_len (over start tags (listed list rest)) 0 len slot slot behind lt (omega arith)
  | inr past ↦
      let many : length made ≡ len = ap length is ∙ length-map-range_with_len (over start tags (listed list rest)) 0 len in
      get_or_past made slot behind (omega arith) ∙ same ∙ sym (over_behind start slot tags (listed list rest) (omega arith) ∙ get_or_past list slot rest (omega arith))
]

-- ---- tags put over two halves

module _ (half start slot : ℕ) (tags : List Tag) (lower upper : ℕ → Tag) where
  pub over_upper : half ≤ start → joined half lower (over (start - half) tags upper) slot ≡ over start tags (joined half lower upper) slot
  over_upper past = elim (cases_lt slot half) [
    | inl lt ↦
        joined_below half slot lower (over (start - half) tags upper) lt ∙ sym (over_below start slot tags (joined half lower upper) (omega arith) ∙ joined_below half slot lower upper lt)
    | inr le ↦ joined_above half slot lower (over (start - half) tags upper) le ∙ above le (cases_lt slot start)
  ]
    where
      above : half ≤ slot → (slot < start) ⊎ (start ≤ slot) → over (start - half) tags upper (slot - half) ≡ over start tags (joined half lower upper) slot
      above le (inl lt) = over_below (start - half) (slot - half) tags upper (omega arith) ∙ sym (over_below start slot tags (joined half lower upper) lt ∙ joined_above half slot lower upper le)
      above le (inr put) =
          let e : slot - half - (start - half) ≡ slot - start = omega arith in
          over_above (start - half) (slot - half) tags upper (omega arith) ∙ ap (λ (s : ℕ). get_or tags s (upper (slot - half))) e
          ∙ sym (over_above start slot tags (joined half lower upper) put ∙ ap (get_or tags (slot - start)) (joined_above half slot lower upper le))

  pub over_lower : start + length tags ≤ half → joined half (over start tags lower) upper slot ≡ over start tags (joined half lower upper) slot
  over_lower within = elim (cases_lt slot half) [
    | inl lt ↦ joined_below half slot (over start tags lower) upper lt ∙ over_same start slot tags lower (joined half lower upper) (sym (joined_below half slot lower upper lt))
    | inr le ↦ joined_above half slot (over start tags lower) upper le ∙ sym (over_behind start slot tags (joined half lower upper) (omega arith) ∙ joined_above half slot lower upper le)
  ]

  pub over_both : start < half → joined half (over start (take (half - start) tags) lower) (over 0 (drop (half - start) tags) upper) slot ≡ over start tags (joined half lower upper) slot
  over_both before = elim (cases_lt slot half) [
    | inl lt ↦ joined_below half slot (over start (take (half - start) tags) lower) (over 0 (drop (half - start) tags) upper) lt ∙ below lt (cases_lt slot start)
    | inr le ↦
        let zero_less : slot - half - 0 ≡ slot - half = omega arith in
        let place : half - start + (slot - half) ≡ slot - start = omega arith in
        joined_above half slot (over start (take (half - start) tags) lower) (over 0 (drop (half - start) tags) upper) le ∙ over_above 0 (slot - half) (drop (half - start) tags) upper (omega arith)
        ∙ ap (λ (s : ℕ). get_or (drop (half - start) tags) s (upper (slot - half))) zero_less ∙ get_or-drop (half - start) tags (slot - half) (upper (slot - half))
        ∙ ap (λ (s : ℕ). get_or tags s (upper (slot - half))) place ∙ sym (over_above start slot tags (joined half lower upper) (omega arith) ∙ ap (get_or tags (slot - start)) (joined_above half slot lower upper le))
  ]
    where
      below : slot < half → (slot < start) ⊎ (start ≤ slot) → over start (take (half - start) tags) lower slot ≡ over start tags (joined half lower upper) slot
      below lt (inl less) = over_below start slot (take (half - start) tags) lower less ∙ sym (over_below start slot tags (joined half lower upper) less ∙ joined_below half slot lower upper lt)
      below lt (inr put) =
          over_above start slot (take (half - start) tags) lower put ∙ get_or-take (half - start) tags (slot - start) (lower slot) (omega arith)
          ∙ sym (over_above start slot tags (joined half lower upper) put ∙ ap (get_or tags (slot - start)) (joined_below half slot lower upper lt))

-- ---- the first slots

pub length_first : (count : ℕ) (at : ℕ → Tag) → length (first_tags count at) ≡ count
length_first count at = length-map-range_with_len at 0 count

pub get_first : (count slot : ℕ) (at : ℕ → Tag) → slot < count → get_or (first_tags count at) slot Top ≡ at slot
get_first count slot at lt = get_or-map-range_with_len at 0 count slot slot Top lt (omega arith)

pub slice_get_first : (count slot : ℕ) (at : ℕ → Tag) → slot < count → slice_get (first_tags count at) slot ≡ Some (at slot)
slice_get_first count slot at lt = let many = length_first count at in slice_get-get_or (first_tags count at) slot Top (omega arith) ∙ ap Some (get_first count slot at lt)

pub take_first : (count len : ℕ) (at : ℕ → Tag) → len ≤ count → first_tags len at ≡ take len (first_tags count at)
take_first count len at le = sym (take-map-range_with_len at 0 count len le)

pub take_whole : (count len : ℕ) (at : ℕ → Tag) → count ≤ len → first_tags count at ≡ take len (first_tags count at)
take_whole count len at le = let many = length_first count at in sym (take_all len (first_tags count at) (omega arith))

-- the tags of a list
pub first_are : (tags : List Tag) (at : ℕ → Tag) → ((s : ℕ) → s < length tags → at s ≡ listed tags Top s) → first_tags (length tags) at ≡ tags
first_are tags at same =
    let long = length_first (length tags) at in
    ext_get_or Top (first_tags (length tags) at) tags (omega arith) (λ s lt. get_first (length tags) s at (omega arith) ∙ same s (omega arith))

-- one more of the first slots
pub first_more : (count : ℕ) (at : ℕ → Tag) (made now : List Tag) (tag : Tag) → made ≡ first_tags count at → now ≡ made ++ tag ∷ [] → tag ≡ at count → now ≡ first_tags (count + 1) at
first_more count at made now tag made_is pushed tag_is =
    pushed ∙ ap (λ (l : List Tag). l ++ tag ∷ []) made_is ∙ ap (λ (t : Tag). first_tags count at ++ t ∷ []) tag_is ∙ sym (map-range_with_len_more at 0 count count (omega arith))

-- tags put behind the first ones
pub first_appended : (count : ℕ) (tags : List Tag) (before grown after : ℕ → Tag) → ((s : ℕ) → s < count → grown s ≡ before s) → ((s : ℕ) → s < count + length tags → after s ≡ over count tags grown s)
    → first_tags (count + length tags) after ≡ first_tags count before ++ tags
first_appended count tags before grown after same put =
    let many = length_first count before in
    let long = length_first (count + length tags) after in
    let both = length-append (first_tags count before) tags in
    ext_get_or Top (first_tags (count + length tags) after) (first_tags count before ++ tags) (omega arith) (λ s lt. get_first (count + length tags) s after (omega arith) ∙ put s (omega arith) ∙ there s (omega arith) (cases_lt s count))
  where
    there : (s : ℕ) → s < count + length tags → (s < count) ⊎ (count ≤ s) → over count tags grown s ≡ get_or (first_tags count before ++ tags) s Top
    there s within (inl lt) =
        let many = length_first count before in
        over_below count s tags grown lt ∙ same s lt ∙ sym (get_or_append_left (first_tags count before) tags Top s (omega arith) ∙ get_first count s before lt)
    there s within (inr le) = over_above count s tags grown le ∙ get_or_default tags (s - count) (grown s) Top (omega arith) ∙ sym (get_or-append_right (first_tags count before) tags count s Top (length_first count before) le)

-- Top in the slots behind the first ones
pub first_padded : (count more : ℕ) (before grown after : ℕ → Tag) → ((s : ℕ) → s < count → grown s ≡ before s) → ((s : ℕ) → s < count + more → after s ≡ cut count grown s) → first_tags (count + more) after ≡ first_tags count before ++ replicate more Top
first_padded count more before grown after same clear =
    let many = length_first count before in
    let long = length_first (count + more) after in
    let tops = length-replicate more Top in
    let both = length-append (first_tags count before) (replicate more Top) in
    ext_get_or Top (first_tags (count + more) after) (first_tags count before ++ replicate more Top) (omega arith)
    (λ s lt. get_first (count + more) s after (omega arith) ∙ clear s (omega arith) ∙ there s (omega arith) (cases_lt s count))
  where
    there : (s : ℕ) → s < count + more → (s < count) ⊎ (count ≤ s) → cut count grown s ≡ get_or (first_tags count before ++ replicate more Top) s Top
    there s within (inl lt) =
        let many = length_first count before in
        cut_below count s grown lt ∙ same s lt ∙ sym (get_or_append_left (first_tags count before) (replicate more Top) Top s (omega arith) ∙ get_first count s before lt)
    there s within (inr le) =
        cut_above count s grown le ∙ sym (get_or-append_right (first_tags count before) (replicate more Top) count s Top (length_first count before) le ∙ get_or-replicate more (s - count) Top Top (omega arith))

-- tags that stand in the slots already
pub stand_over : (start slot : ℕ) (tags : List Tag) (at : ℕ → Tag) → ((s : ℕ) → s < length tags → at (start + s) ≡ get_or tags s Top) → at slot ≡ over start tags at slot
stand_over start slot tags at same = elim (cases_lt slot start) [
  | inl lt ↦ sym (over_below start slot tags at lt)
  | inr le ↦ above le (cases_lt (slot - start) (length tags))
]
  where
    above : start ≤ slot → (slot - start < length tags) ⊎ (length tags ≤ slot - start) → at slot ≡ over start tags at slot
    above le (inl within) =
        let place : start + (slot - start) ≡ slot = omega arith in
        sym (over_above start slot tags at le ∙ get_or_default tags (slot - start) (at slot) Top within ∙ sym (same (slot - start) within) ∙ ap at place)
    above le (inr past) = sym (over_behind start slot tags at (omega arith))

-- one more of the tags stands in its slot
pub stand_more : (start place : ℕ) (tags : List Tag) (at : ℕ → Tag) (found tag : Tag) → ((s : ℕ) → s < place → at (start + s) ≡ get_or tags s Top) → place < length tags → found ≡ at (start + place) → found ≡ tag → tag ≡ get_or tags place tag
    → (s : ℕ) → s < place + 1 → at (start + s) ≡ get_or tags s Top
stand_more start place tags at found tag before within found_is same tag_is s lt = elim (cases_lt s place) [
  | inl less ↦ before s less
  | inr le ↦
      let e : s ≡ place = omega arith in
      ap (λ (n : ℕ). at (start + n)) e ∙ sym found_is ∙ same ∙ tag_is ∙ get_or_default tags place tag Top within ∙ ap (λ (n : ℕ). get_or tags n Top) (sym e)
]

-- a tag put into one of the first slots
pub first_set : (count slot : ℕ) (tag : Tag) (before after : ℕ → Tag) → slot < count → ((s : ℕ) → s < count → after s ≡ over slot (tag ∷ []) before s) → first_tags count after ≡ set (first_tags count before) slot tag
first_set count slot tag before after within put =
    let many = length_first count before in
    let long = length_first count after in
    let same = length-set (first_tags count before) slot tag in
    ext_get_or Top (first_tags count after) (set (first_tags count before) slot tag) (omega arith) (λ s lt. get_first count s after (omega arith) ∙ put s (omega arith) ∙ there s (omega arith) (cases_lt s slot) (cases_lt slot s))
  where
    other : (s : ℕ) → s < count → s ≢ slot → before s ≡ get_or (set (first_tags count before) slot tag) s Top
    other s lt differ = sym (get_or-set_other (first_tags count before) slot s tag Top differ ∙ get_first count s before lt)

    there : (s : ℕ) → s < count → (s < slot) ⊎ (slot ≤ s) → (slot < s) ⊎ (s ≤ slot) → over slot (tag ∷ []) before s ≡ get_or (set (first_tags count before) slot tag) s Top
    there s lt (inl less) more = over_below slot s (tag ∷ []) before less ∙ other s lt (omega arith)
    there s lt (inr le) (inl more) = over_behind slot s (tag ∷ []) before (omega arith) ∙ other s lt (omega arith)
    there s lt (inr le) (inr ge) =
        let e : s ≡ slot = omega arith in
        let none : s - slot ≡ 0 = omega arith in
        let many = length_first count before in
        over_above slot s (tag ∷ []) before le ∙ ap (λ (n : ℕ). get_or (tag ∷ []) n (before s)) none ∙ sym (ap (λ (n : ℕ). get_or (set (first_tags count before) slot tag) n Top) e ∙ get_or-set_same (first_tags count before) slot tag Top (omega arith))

-- ---- trees

twice : (k : ℕ) → 2 ^ suc k ≡ 2 ^ k + 2 ^ k
twice k = let e = pow-suc 2 k in omega arith

module _ (depth half : ℕ) (tree lower upper : Tree) (deep : depth ≢ 0) (half_is : half ≡ 2 ^ (depth - 1)) (halves : (k s : ℕ) → half ≡ 2 ^ k → tag_in (suc k) tree s ≡ joined half (tag_in k lower) (tag_in k upper) s) where
  in_halves : (slot : ℕ) → tag_in depth tree slot ≡ joined half (tag_in (depth - 1) lower) (tag_in (depth - 1) upper) slot
  in_halves slot = let e : depth ≡ suc (depth - 1) = omega arith in ap (λ (n : ℕ). tag_in n tree slot) e ∙ halves (depth - 1) slot half_is

  -- a fork whose halves have these tags
  made_of : (slot : ℕ) (low up fork : Tree) (lower' upper' : ℕ → Tag) → slot < 2 ^ depth → ((k s : ℕ) → tag_in (suc k) fork s ≡ joined (2 ^ k) (tag_in k low) (tag_in k up) s)
      → ((s : ℕ) → s < 2 ^ (depth - 1) → tag_in (depth - 1) low s ≡ lower' s) → ((s : ℕ) → s < 2 ^ (depth - 1) → tag_in (depth - 1) up s ≡ upper' s) → tag_in depth fork slot ≡ joined half lower' upper' slot
  made_of slot low up fork lower' upper' within made lows ups =
      let e : depth ≡ suc (depth - 1) = omega arith in
      let all : 2 ^ depth ≡ 2 ^ suc (depth - 1) = ap (λ (n : ℕ). 2 ^ n) e in
      let both = twice (depth - 1) in
      ap (λ (n : ℕ). tag_in n fork slot) e ∙ made (depth - 1) slot ∙ ap (λ (h : ℕ). joined h (tag_in (depth - 1) low) (tag_in (depth - 1) up) slot) (sym half_is)
      ∙ joined_same half slot (tag_in (depth - 1) low) (tag_in (depth - 1) up) lower' upper' (omega arith) (λ s lt. lows s (omega arith)) (λ s lt. ups s (omega arith))

  module _ (start slot : ℕ) (tags : List Tag) (within : slot < 2 ^ depth) where
    as_before : over start tags (joined half (tag_in (depth - 1) lower) (tag_in (depth - 1) upper)) slot ≡ over start tags (tag_in depth tree) slot
    as_before = over_same start slot tags (joined half (tag_in (depth - 1) lower) (tag_in (depth - 1) upper)) (tag_in depth tree) (sym (in_halves slot))

    pub put_upper : (given after now fork : Tree) → half ≤ start → given ≡ upper → now ≡ after → ((s : ℕ) → s < 2 ^ (depth - 1) → tag_in (depth - 1) after s ≡ over (start - half) tags (tag_in (depth - 1) given) s)
        → ((k s : ℕ) → tag_in (suc k) fork s ≡ joined (2 ^ k) (tag_in k lower) (tag_in k now) s) → tag_in depth fork slot ≡ over start tags (tag_in depth tree) slot
    put_upper given after now fork past is same put made =
        made_of slot lower now fork (tag_in (depth - 1) lower) (over (start - half) tags (tag_in (depth - 1) upper)) within made (λ s lt. refl)
        (λ s lt. ap (λ (t : Tree). tag_in (depth - 1) t s) same ∙ put s lt ∙ ap (λ (t : Tree). over (start - half) tags (tag_in (depth - 1) t) s) is)
        ∙ over_upper half start slot tags (tag_in (depth - 1) lower) (tag_in (depth - 1) upper) past ∙ as_before

    pub put_lower : (given after now fork : Tree) → start + length tags ≤ half → given ≡ lower → now ≡ after → ((s : ℕ) → s < 2 ^ (depth - 1) → tag_in (depth - 1) after s ≡ over start tags (tag_in (depth - 1) given) s)
        → ((k s : ℕ) → tag_in (suc k) fork s ≡ joined (2 ^ k) (tag_in k now) (tag_in k upper) s) → tag_in depth fork slot ≡ over start tags (tag_in depth tree) slot
    put_lower given after now fork fits is same put made =
        made_of slot now upper fork (over start tags (tag_in (depth - 1) lower)) (tag_in (depth - 1) upper) within made
        (λ s lt. ap (λ (t : Tree). tag_in (depth - 1) t s) same ∙ put s lt ∙ ap (λ (t : Tree). over start tags (tag_in (depth - 1) t) s) is) (λ s lt. refl)
        ∙ over_lower half start slot tags (tag_in (depth - 1) lower) (tag_in (depth - 1) upper) fits ∙ as_before

    pub put_both : (first others : List Tag) (given given' below above low up fork : Tree) → start < half → given ≡ lower → given' ≡ upper → low ≡ below → up ≡ above
        → ((s : ℕ) → s < 2 ^ (depth - 1) → tag_in (depth - 1) below s ≡ over start first (tag_in (depth - 1) given) s) → ((s : ℕ) → s < 2 ^ (depth - 1) → tag_in (depth - 1) above s ≡ over 0 others (tag_in (depth - 1) given') s)
        → first ≡ take (half - start) tags → others ≡ drop (half - start) tags → ((k s : ℕ) → tag_in (suc k) fork s ≡ joined (2 ^ k) (tag_in k low) (tag_in k up) s) → tag_in depth fork slot ≡ over start tags (tag_in depth tree) slot
    put_both first others given given' below above low up fork before is is' same same' put put' first_is others_are made =
        made_of slot low up fork (over start (take (half - start) tags) (tag_in (depth - 1) lower)) (over 0 (drop (half - start) tags) (tag_in (depth - 1) upper)) within made
        (λ s lt. ap (λ (t : Tree). tag_in (depth - 1) t s) same ∙ put s lt ∙ ap (λ (list : List Tag). over start list (tag_in (depth - 1) given) s) first_is ∙ ap (λ (t : Tree). over start (take (half - start) tags) (tag_in (depth - 1) t) s) is)
        (λ s lt. ap (λ (t : Tree). tag_in (depth - 1) t s) same' ∙ put' s lt ∙ ap (λ (list : List Tag). over 0 list (tag_in (depth - 1) given') s) others_are ∙ ap (λ (t : Tree). over 0 (drop (half - start) tags) (tag_in (depth - 1) t) s) is')
        ∙ over_both half start slot tags (tag_in (depth - 1) lower) (tag_in (depth - 1) upper) before ∙ as_before

  module _ (from slot : ℕ) (within : slot < 2 ^ depth) where
    as_before_cut : cut from (joined half (tag_in (depth - 1) lower) (tag_in (depth - 1) upper)) slot ≡ cut from (tag_in depth tree) slot
    as_before_cut = cut_same from slot (joined half (tag_in (depth - 1) lower) (tag_in (depth - 1) upper)) (tag_in depth tree) (sym (in_halves slot))

    pub clear_upper : (given after now fork : Tree) → half ≤ from → given ≡ upper → now ≡ after → ((s : ℕ) → s < 2 ^ (depth - 1) → tag_in (depth - 1) after s ≡ cut (from - half) (tag_in (depth - 1) given) s)
        → ((k s : ℕ) → tag_in (suc k) fork s ≡ joined (2 ^ k) (tag_in k lower) (tag_in k now) s) → tag_in depth fork slot ≡ cut from (tag_in depth tree) slot
    clear_upper given after now fork past is same clear made =
        made_of slot lower now fork (tag_in (depth - 1) lower) (cut (from - half) (tag_in (depth - 1) upper)) within made (λ s lt. refl)
        (λ s lt. ap (λ (t : Tree). tag_in (depth - 1) t s) same ∙ clear s lt ∙ ap (λ (t : Tree). cut (from - half) (tag_in (depth - 1) t) s) is)
        ∙ cut_upper half from slot (tag_in (depth - 1) lower) (tag_in (depth - 1) upper) past ∙ as_before_cut

    pub clear_lower : (given after now above fork : Tree) → from < half → given ≡ lower → now ≡ after → above ≡ All Top → ((s : ℕ) → s < 2 ^ (depth - 1) → tag_in (depth - 1) after s ≡ cut from (tag_in (depth - 1) given) s)
        → ((k s : ℕ) → tag_in (suc k) fork s ≡ joined (2 ^ k) (tag_in k now) (tag_in k above) s) → tag_in depth fork slot ≡ cut from (tag_in depth tree) slot
    clear_lower given after now above fork before is same top clear made =
        made_of slot now above fork (cut from (tag_in (depth - 1) lower)) (λ s. Top) within made
        (λ s lt. ap (λ (t : Tree). tag_in (depth - 1) t s) same ∙ clear s lt ∙ ap (λ (t : Tree). cut from (tag_in (depth - 1) t) s) is) (λ s lt. ap (λ (t : Tree). tag_in (depth - 1) t s) top)
        ∙ cut_lower half from slot (tag_in (depth - 1) lower) (tag_in (depth - 1) upper) before ∙ as_before_cut

-- a tree of depth 0 stays the same from its second slot on
pub root_clear : (depth from slot : ℕ) (after tree : Tree) → depth ≡ 0 → from ≢ 0 → slot < 2 ^ depth → tag_in depth after slot ≡ tag_in depth tree slot → tag_in depth after slot ≡ cut from (tag_in depth tree) slot
root_clear depth from slot after tree root some within same =
    let small : slot < 2 ^ 0 = rw root at within in
    same ∙ sym (cut_below from slot (tag_in depth tree) (omega arith))

-- a tree of depth 0 has one slot
pub root_over : (depth start slot : ℕ) (tags : List Tag) (after tree : Tree) → depth ≡ 0 → slot < 2 ^ depth → tag_in 0 after 0 ≡ over start tags (tag_in 0 tree) 0 → tag_in depth after slot ≡ over start tags (tag_in depth tree) slot
root_over depth start slot tags after tree root within is =
    let small : slot < 2 ^ 0 = rw root at within in
    let first : slot ≡ 0 = omega arith in
    ap (λ (n : ℕ). tag_in n after slot) root ∙ ap (tag_in 0 after) first ∙ is ∙ ap (over start tags (tag_in 0 tree)) (sym first) ∙ ap (λ (n : ℕ). over start tags (tag_in n tree) slot) (sym root)
