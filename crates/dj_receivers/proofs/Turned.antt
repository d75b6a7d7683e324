-- Lists from their last item to their first.
use Rattle.std.proofs.Common.{◌≡◌, ◌↔◌, ℕ, zero, suc, ◌+◌, ◌-◌, ◌<◌, ◌≤◌, Bool, true, false, IsTrue, List, [], ◌∷◌, ◌++◌, Option, Some, None, map, take, drop, reverse, length, get_or, refl, sym, ap, subst, inl, inr, ◌∙◌, arith}
use Rattle.std.specs.Prelude.{MatchOption, slice_index_or}
use Rattle.std.proofs.lemmas.Bool.{cases_lt}
use Rattle.std.proofs.lemmas.List.{map-append, reverse-append, length-reverse, get_or-reverse, get_or-drop, length-drop, length_push, drop-drop, take_more, get_or_append_left}
use Rattle.dj_frames.specs.declared.tag.Tag as code_tag
use Rattle.dj_frames.specs.Frames.{Tag, view_tag, view_tags}
use Rattle.dj_tags.specs.Goes.{reversed}
use Rattle.dj_receivers.specs.Steps.{IsAt, IsHeld, IsCut, IsMet}

pub reverse_push : {A : Type 0} (x : A) (list : List A) → reverse (x ∷ list) ≡ reverse list ++ x ∷ []
reverse_push x list = reverse-append (x ∷ []) list

pub turned_push : {A : Type 0} (x : A) (list : List A) → reverse (list ++ x ∷ []) ≡ x ∷ reverse list
turned_push x list = reverse-append list (x ∷ [])

pub viewed_turned : (tags : List code_tag.Tag) → view_tags (reversed tags) ≡ reverse (view_tags tags)
viewed_turned [] = refl
viewed_turned (tag ∷ rest) =
    map-append view_tag (reversed rest) (tag ∷ []) ∙ ap (λ (list : List Tag). list ++ view_tag tag ∷ []) (viewed_turned rest) ∙ sym (reverse_push (view_tag tag) (view_tags rest))

-- ---- marks

pub at_within : (marks : List Bool) (place : ℕ) → IsAt marks place → place < length marks
at_within [] place is = absurd cc
at_within (mark ∷ marks) zero is = omega arith
at_within (mark ∷ marks) (suc place) is = let more = at_within marks place is in omega (arith, more)

-- by the place from the bottom up
pub at_turned : (marks : List Bool) (place : ℕ) → IsAt (reverse marks) place ↔ ((place < length marks) × (get_or marks (length marks - 1 - place) false ≡ true))
at_turned marks place = (
  λ is. (let within : place < length marks = (let w = at_within (reverse marks) place is in let l = length-reverse marks in omega (arith, w, l)) in (within, sym (get_or-reverse marks place false within) ∙ is)),
  λ is. get_or-reverse marks place false is.0 ∙ is.1,
)

-- those that are left at the end
pub cut_is : (marks : List Bool) (height : ℕ) → height < length marks → IsCut (reverse marks) height (reverse (drop (length marks - height) marks))
cut_is marks height below place =
    let size : length (drop (length marks - height) marks) ≡ height = (let l = length-drop (length marks - height) marks in omega (arith, l, below)) in (
      λ is. (let at = (at_turned (drop (length marks - height) marks) place).0 is in
          let low : place < height = (let a = at.0 in omega (arith, a, size)) in
          let index : length marks - height + (length (drop (length marks - height) marks) - 1 - place) ≡ length marks - 1 - place = omega (arith, size, low, below) in
          (low, (at_turned marks place).1 (omega (arith, low, below), ap (λ (n : ℕ). get_or marks n false) (sym index) ∙ sym (get_or-drop (length marks - height) marks (length (drop (length marks - height) marks) - 1 - place) false) ∙ at.1))),
      λ is. (let at = (at_turned marks place).0 is.1 in
          let low = is.0 in
          let index : length marks - height + (length (drop (length marks - height) marks) - 1 - place) ≡ length marks - 1 - place = omega (arith, size, low, below) in
          (at_turned (drop (length marks - height) marks) place).1 (omega (arith, size, low), get_or-drop (length marks - height) marks (length (drop (length marks - height) marks) - 1 - place) false ∙ ap (λ (n : ℕ). get_or marks n false) index ∙ at.1)),
    )

pub cut_all : (marks : List Bool) (height : ℕ) → length marks ≤ height → IsCut (reverse marks) height (reverse marks)
cut_all marks height above place = (λ is. (let w = at_within (reverse marks) place is in let l = length-reverse marks in omega (arith, w, l, above), is), λ is. is.1)

-- one is taken from the end
pub popped : (old new : List Bool) (last : Option Bool) → MatchOption last ((old ≡ []) × (new ≡ [])) (λ mark. old ≡ new ++ mark ∷ []) → reverse new ≡ drop 1 (reverse old)
popped old new None none = rw (none.0, none.1) refl
popped old new (Some mark) is = rw is (sym (ap (λ (list : List Bool). drop 1 list) (turned_push mark new)))

pub popped_more : (whole old new : List Bool) (count : ℕ) (last : Option Bool) → MatchOption last ((old ≡ []) × (new ≡ [])) (λ mark. old ≡ new ++ mark ∷ []) → reverse old ≡ drop count whole → reverse new ≡ drop (count + 1) whole
popped_more whole old new count last is before = popped old new last is ∙ ap (λ (list : List Bool). drop 1 list) before ∙ drop-drop 1 count whole

-- the item at a place, and those behind it
pub drop_item : (list : List Bool) (place : ℕ) (d : Bool) → place < length list → drop place list ≡ get_or list place d ∷ drop (place + 1) list
drop_item [] place d within = absurd (omega arith)
drop_item (x ∷ list) zero d within = refl
drop_item (x ∷ list) (suc place) d within = let next : suc place + 1 ≡ suc (place + 1) = omega arith in rw next (drop_item list place d (omega arith))

pub pushed_more : (more below marks : List Bool) (place : ℕ) (d : Bool) → place < length more → reverse marks ≡ drop (length more - place) more ++ below
    → reverse (marks ++ get_or more (length more - 1 - place) d ∷ []) ≡ drop (length more - (place + 1)) more ++ below
pushed_more more below marks place d within is =
    let at : length more - (place + 1) ≡ length more - 1 - place = omega arith in
    let next : length more - (place + 1) + 1 ≡ length more - place = omega arith in
    let item = drop_item more (length more - (place + 1)) d (omega arith) in
    turned_push (get_or more (length more - 1 - place) d) marks ∙ ap (λ (list : List Bool). get_or more (length more - 1 - place) d ∷ list) is
    ∙ sym (ap (λ (list : List Bool). list ++ below) (item ∙ ap (λ (n : ℕ). get_or more n d ∷ drop (length more - (place + 1) + 1) more) at ∙ ap (λ (n : ℕ). get_or more (length more - 1 - place) d ∷ drop n more) next))

-- ---- what is marked in both

pub record AreMet (known marks : List Bool) (height place : ℕ) (found : List Bool) : Type 0 where
  pub size : length found ≡ place
  pub each : (k : ℕ) → k < place → (get_or found k false ≡ true) ↔ (IsAt (reverse known) (length known - 1 - k) × IsHeld (reverse marks) height (length known - 1 - k))

at_last : (found : List Bool) (mark : Bool) → get_or (found ++ mark ∷ []) (length found) false ≡ mark
at_last [] mark = refl
at_last (x ∷ found) mark = at_last found mark

pub met_more : (known marks : List Bool) (height place : ℕ) (found : List Bool) (mark : Bool) → IsTrue mark ↔ (IsAt (reverse known) (length known - 1 - place) × IsHeld (reverse marks) height (length known - 1 - place))
    → AreMet known marks height place found → AreMet known marks height (place + 1) (found ++ mark ∷ [])
met_more known marks height place found mark is were = record {
  size = (let l = length_push found mark in let size = were.size in omega (arith, l, size));
  each = λ k within. elim (cases_lt k place) [
    | inl before ↦ (let same : get_or (found ++ mark ∷ []) k false ≡ get_or found k false = get_or_append_left found (mark ∷ []) false k (let size = were.size in omega (arith, size, before)) in
        (λ at. (were.each k before).0 (sym same ∙ at), λ both. same ∙ (were.each k before).1 both))
    | inr behind ↦ (let here : k ≡ place = omega (arith, within, behind) in
        let same : get_or (found ++ mark ∷ []) k false ≡ mark = ap (λ (n : ℕ). get_or (found ++ mark ∷ []) n false) (here ∙ sym were.size) ∙ at_last found mark in (
          λ at. subst (λ (n : ℕ). IsAt (reverse known) (length known - 1 - n) × IsHeld (reverse marks) height (length known - 1 - n)) (sym here) (is.0 (sym same ∙ at)),
          λ both. same ∙ is.1 (subst (λ (n : ℕ). IsAt (reverse known) (length known - 1 - n) × IsHeld (reverse marks) height (length known - 1 - n)) here both),
        ))
  ];
}

pub met_all : (known marks : List Bool) (height place : ℕ) (found : List Bool) → length known ≤ place → place ≤ length known → AreMet known marks height place found → IsMet (reverse known) (reverse marks) height (reverse found)
met_all known marks height place found past within were at =
    let size : length found ≡ length known = (let s = were.size in omega (arith, s, past, within)) in (
      λ is. (let by = (at_turned found at).0 is in
          let low : at < length known = (let b = by.0 in omega (arith, b, size)) in
          let index : length known - 1 - (length found - 1 - at) ≡ at = omega (arith, size, low) in
          subst (λ (n : ℕ). IsAt (reverse known) n × IsHeld (reverse marks) height n) index ((were.each (length found - 1 - at) (omega (arith, size, low, past))).0 by.1)),
      λ both. (let low : at < length known = ((at_turned known at).0 both.0).0 in
          let index : length known - 1 - (length found - 1 - at) ≡ at = omega (arith, size, low) in
          (at_turned found at).1 (omega (arith, low, size), (were.each (length found - 1 - at) (omega (arith, size, low, past))).1 (subst (λ (n : ℕ). IsAt (reverse known) n × IsHeld (reverse marks) height n) (sym index) both))),
    )

-- ---- what is picked

same_bool : (first second : Bool) → IsTrue first ↔ (second ≡ true) → first ≡ second
same_bool true second is = sym (is.0 refl)
same_bool false true is = is.1 refl
same_bool false false is = refl

pub picked_more : (marks : List Bool) (places : List ℕ) (i x : ℕ) (mark : Bool) (found : List Bool) → i < length places → x ≡ get_or places i x → IsTrue mark ↔ IsAt (reverse marks) x
    → found ≡ map (λ place. slice_index_or (reverse marks) place false) (take i places) → found ++ mark ∷ [] ≡ map (λ place. slice_index_or (reverse marks) place false) (take (i + 1) places)
picked_more marks places i x mark found within is at were =
    rw were
    (ap (λ (m : Bool). map (λ place. slice_index_or (reverse marks) place false) (take i places) ++ m ∷ []) (same_bool mark (slice_index_or (reverse marks) x false) at)
    ∙ sym (map-append (λ place. slice_index_or (reverse marks) place false) (take i places) (x ∷ []))
    ∙ sym (ap (λ (list : List ℕ). map (λ place. slice_index_or (reverse marks) place false) list) (take_more places i x within ∙ ap (λ (n : ℕ). take i places ++ n ∷ []) (sym is))))
