-- Values of locals and the slots that they take.
use Rattle.std.proofs.Common.{◌≡◌, ℕ, zero, suc, ◌+◌, ◌-◌, ◌<◌, ◌≤◌, Bool, true, false, not, cond, eqb, ltb, ◌||◌, List, [], ◌∷◌, ◌++◌, length, get_or, take, drop, Option, Some, None, is_some, refl, sym, ap, ◌∙◌, arith, length-append}
use Rattle.std.specs.List.{flat_map, prefix_len, position, position_or_len, list_any}
use Rattle.std.proofs.lemmas.Bool.{lt-ltb}
use Rattle.std.proofs.lemmas.Bool.Decides.{nat_tests}
use Rattle.std.proofs.lemmas.List.{take-map, take_at, take_all, take_more, take-append-drop, get_or_append_left, length-take-le, length-map, append-nil, map-append}
use Rattle.std.proofs.lemmas.List.Folds.{prefix_len-append}
use Rattle.std.proofs.lemmas.List.Sums.{prefix_len-le-length, position_or_len_is}
use Rattle.std.proofs.lemmas.List.Quantifiers.{position-Some}
use Rattle.std.proofs.lemmas.Grind.{flat_map-append}
use Rattle.dj_frames.specs.declared.tag.Tag as declared
use Rattle.dj_frames.specs.Frames.{Tag, Top, Frame, view_tag, view_tags, slots_of, is_unborn_this, frame_of}
use Rattle.dj_frames.specs.Locals.{IsFront}

-- ---- the first that passes

none_at_end : (a n : ℕ) → (b : Bool) → ltb a n ≡ b → cond b (Some a) None ≡ None → a ≤ n → a ≡ n
none_at_end a n true is e le = absurd cc
none_at_end a n false is e le = grind (arith, nat_tests)

some_within : (a n : ℕ) → a < n → cond (ltb a n) (Some a) None ≡ Some a
some_within a n lt = rw (lt-ltb a n lt) refl

-- behind those that fail, one that passes
position_pushed : {X : Type 0} (p : X → Bool) (xs : List X) (x : X) → position p xs ≡ None → p x ≡ true → position p (xs ++ x ∷ []) ≡ Some (length xs)
position_pushed p xs x none passes =
    let P = prefix_len (λ y. not (p y)) in
    let all : P xs ≡ length xs = none_at_end (P xs) (length xs) (ltb (P xs) (length xs)) refl none (prefix_len-le-length (λ y. not (p y)) xs) in
    let alone : P (x ∷ []) ≡ 0 = rw passes refl in
    let test : eqb (P xs) (length xs) ≡ true = grind (arith, nat_tests) in
    let here : P (xs ++ x ∷ []) ≡ length xs = prefix_len-append (λ y. not (p y)) xs (x ∷ []) ∙ rw (test, alone) (omega arith) in
    let long = length-append xs (x ∷ []) in
    rw here (some_within (length xs) (length (xs ++ x ∷ [])) (omega arith))

-- behind those that fail, one that fails
position_passed : {X : Type 0} (p : X → Bool) (xs : List X) (x : X) → position p xs ≡ None → p x ≡ false → position p (xs ++ x ∷ []) ≡ None
position_passed p xs x none fails =
    let P = prefix_len (λ y. not (p y)) in
    let all : P xs ≡ length xs = none_at_end (P xs) (length xs) (ltb (P xs) (length xs)) refl none (prefix_len-le-length (λ y. not (p y)) xs) in
    let alone : P (x ∷ []) ≡ 1 = rw fails refl in
    let test : eqb (P xs) (length xs) ≡ true = grind (arith, nat_tests) in
    let here : P (xs ++ x ∷ []) ≡ length xs + 1 = prefix_len-append (λ y. not (p y)) xs (x ∷ []) ∙ rw (test, alone) refl in
    let long = length-append xs (x ∷ []) in
    let past : ltb (length xs + 1) (length (xs ++ x ∷ [])) ≡ false = grind (arith, nat_tests) in
    rw (here, past) refl

-- the first one that passes, whatever stands behind
position_kept : {X : Type 0} (p : X → Bool) (xs ys : List X) (i : ℕ) (d : X) → position p xs ≡ Some i → position p (xs ++ ys) ≡ Some i
position_kept p xs ys i d is =
    let facts = position-Some p xs i d is in
    let long = length-append xs ys in
    let here : position_or_len p (xs ++ ys) ≡ i = position_or_len_is p (xs ++ ys) i d (omega arith) (λ k lt. ap p (get_or_append_left xs ys d k (omega arith)) ∙ facts.2 k lt) (λ within. ap p (get_or_append_left xs ys d i facts.0) ∙ facts.1) in
    rw here (some_within i (length (xs ++ ys)) (omega arith))

-- ---- the first value that is UnbornThis

module _ (values : List declared.Tag) where
  -- it is known among the first ones
  pub unborn_kept : (known at : ℕ) → position is_unborn_this (view_tags (take known values)) ≡ Some at → Some at ≡ position is_unborn_this (view_tags values)
  unborn_kept known at is =
      sym (ap (λ (t : List declared.Tag). position is_unborn_this (view_tags t)) (sym (take-append-drop known values)) ∙ ap (position is_unborn_this) (map-append view_tag (take known values) (drop known values))
      ∙ position_kept is_unborn_this (view_tags (take known values)) (view_tags (drop known values)) at Top is)

  next : (place : ℕ) (value : declared.Tag) → place < length values → value ≡ get_or values place value → view_tags (take (place + 1) values) ≡ view_tags (take place values) ++ view_tag value ∷ []
  next place value within is = ap view_tags (take_more values place value within ∙ ap (λ (v : declared.Tag). take place values ++ v ∷ []) (sym is)) ∙ map-append view_tag (take place values) (value ∷ [])

  pub unborn_passed : (place : ℕ) (value : declared.Tag) → place < length values → value ≡ get_or values place value → position is_unborn_this (view_tags (take place values)) ≡ None → is_unborn_this (view_tag value) ≡ false
      → position is_unborn_this (view_tags (take (place + 1) values)) ≡ None
  unborn_passed place value within is none fails = ap (position is_unborn_this) (next place value within is) ∙ position_passed is_unborn_this (view_tags (take place values)) (view_tag value) none fails

  pub unborn_here : (place : ℕ) (value : declared.Tag) → place < length values → value ≡ get_or values place value → position is_unborn_this (view_tags (take place values)) ≡ None → is_unborn_this (view_tag value) ≡ true
      → Some place ≡ position is_unborn_this (view_tags values)
  unborn_here place value within is none passes =
      let long : length (view_tags (take place values)) ≡ place = length-map (take place values) view_tag ∙ length-take-le place values (omega arith) in
      unborn_kept (place + 1) place (ap (position is_unborn_this) (next place value within is) ∙ position_pushed is_unborn_this (view_tags (take place values)) (view_tag value) none passes ∙ ap Some long)

  pub unborn_nowhere : (n : ℕ) → length values ≤ n → position is_unborn_this (view_tags (take n values)) ≡ None → None ≡ position is_unborn_this (view_tags values)
  unborn_nowhere n le none = sym (ap (λ (t : List declared.Tag). position is_unborn_this (view_tags t)) (sym (take_all n values le)) ∙ none)

is_some_cond : {X : Type 0} (b : Bool) (x : X) → is_some (cond b (Some x) None) ≡ b
is_some_cond true x = refl
is_some_cond false x = refl

any_within : {X : Type 0} (p : X → Bool) (xs : List X) → ltb (prefix_len (λ y. not (p y)) xs) (length xs) ≡ list_any p xs
any_within p [] = refl
any_within p (x ∷ xs) = first (p x) (any_within p xs)
  where
    first : (b : Bool) → ltb (prefix_len (λ y. not (p y)) xs) (length xs) ≡ list_any p xs → ltb (cond (not b) (1 + prefix_len (λ y. not (p y)) xs) 0) (length (x ∷ xs)) ≡ b || list_any p xs
    first true later = lt-ltb 0 (length (x ∷ xs)) (omega arith)
    first false later = let more : ltb (1 + prefix_len (λ y. not (p y)) xs) (length (x ∷ xs)) ≡ ltb (prefix_len (λ y. not (p y)) xs) (length xs) = grind (arith, nat_tests) in more ∙ later

pub some_position : {X : Type 0} (p : X → Bool) (xs : List X) → is_some (position p xs) ≡ list_any p xs
some_position p xs = is_some_cond (ltb (prefix_len (λ y. not (p y)) xs) (length xs)) (prefix_len (λ y. not (p y)) xs) ∙ any_within p xs

-- ---- slots

-- the slots without those of the last value
pub spread_front : (front values slots : List declared.Tag) (last : declared.Tag) → values ≡ front ++ last ∷ [] → view_tags slots ≡ flat_map slots_of (view_tags values)
    → view_tags (take (length slots - length (slots_of (view_tag last))) slots) ≡ flat_map slots_of (view_tags front)
spread_front front values slots last is spread =
    let before = flat_map slots_of (view_tags front) in
    let behind = slots_of (view_tag last) in
    let text : view_tags slots ≡ before ++ behind = spread ∙ ap (λ (t : List declared.Tag). flat_map slots_of (view_tags t)) is ∙ ap (flat_map slots_of) (map-append view_tag front (last ∷ []))
    ∙ flat_map-append slots_of (view_tags front) (view_tag last ∷ []) ∙ ap (λ (t : List Tag). before ++ t) (append-nil behind) in
    let long = ap length text ∙ length-append before behind in
    let slots_long = length-map slots view_tag in
    let left : length slots - length behind ≡ length before = omega arith in
    sym (take-map view_tag (length slots - length behind) slots) ∙ ap (λ (n : ℕ). take n (view_tags slots)) left ∙ ap (take (length before)) text ∙ take_at before behind (length before) refl

-- as many slots as the last value takes
pub last_within : (front values slots : List declared.Tag) (last : declared.Tag) → values ≡ front ++ last ∷ [] → view_tags slots ≡ flat_map slots_of (view_tags values) → length (slots_of (view_tag last)) ≤ length slots
last_within front values slots last is spread =
    let before = flat_map slots_of (view_tags front) in
    let behind = slots_of (view_tag last) in
    let text : view_tags slots ≡ before ++ behind = spread ∙ ap (λ (t : List declared.Tag). flat_map slots_of (view_tags t)) is ∙ ap (flat_map slots_of) (map-append view_tag front (last ∷ []))
    ∙ flat_map-append slots_of (view_tags front) (view_tag last ∷ []) ∙ ap (λ (t : List Tag). before ++ t) (append-nil behind) in
    let long = ap length text ∙ length-append before behind in
    let slots_long = length-map slots view_tag in
    omega arith

-- one value less of the first ones
pub front_taken : {A : Type 0} (xs now : List A) (n : ℕ) → IsFront now (take (length xs - n) xs) → n ≤ length xs → record { enough : n + 1 ≤ length xs; first : now ≡ take (length xs - (n + 1)) xs }
front_taken {A = A} xs now n front le =
    let long = ap length front.is ∙ length-append now (front.last ∷ []) in
    let taken = length_taken (length xs - n) xs (omega arith) in
    let now_long : length now ≡ length xs - (n + 1) = omega arith in
    let less : take (length now) (take (length xs - n) xs) ≡ take (length now) xs = take_less (length now) (length xs - n) xs (omega arith) in
    record {
      enough = omega arith;
      first = sym (take_at now (front.last ∷ []) (length now) refl) ∙ ap (take (length now)) (sym front.is) ∙ less ∙ ap (λ (k : ℕ). take k xs) now_long;
    }
  where
    length_taken : (k : ℕ) (ys : List A) → k ≤ length ys → length (take k ys) ≡ k
    length_taken zero ys le = refl
    length_taken (suc k) [] le = absurd (omega arith)
    length_taken (suc k) (y ∷ ys) le = ap suc (length_taken k ys (omega arith))

    take_less : (k m : ℕ) (ys : List A) → k ≤ m → take k (take m ys) ≡ take k ys
    take_less zero m ys le = refl
    take_less (suc k) zero ys le = absurd (omega arith)
    take_less (suc k) (suc m) [] le = refl
    take_less (suc k) (suc m) (y ∷ ys) le = ap (λ (t : List A). y ∷ t) (take_less k m ys (omega arith))

abbrev with_parts : List Tag → List Tag → Bool → Frame
with_parts locals stack unborn = record { locals = locals; stack = stack; unborn_this = unborn }

-- the frame of values that are spread over slots
pub frame_is : (values slots stack : List declared.Tag) (unborn : Option ℕ) → view_tags slots ≡ flat_map slots_of (view_tags values) → unborn ≡ position is_unborn_this (view_tags values)
    → (frame : Frame) → frame ≡ record { locals = view_tags slots; stack = view_tags stack; unborn_this = is_some unborn } → frame ≡ frame_of (view_tags values) (view_tags stack)
frame_is values slots stack unborn spread first frame is =
    let flag : is_some unborn ≡ list_any is_unborn_this (view_tags values) = ap is_some first ∙ some_position is_unborn_this (view_tags values) in is ∙ made (view_tags slots) (flat_map slots_of (view_tags values)) (view_tags stack) (is_some unborn) (list_any is_unborn_this (view_tags values)) spread flag
  where
    made : (a b stack : List Tag) (x y : Bool) → a ≡ b → x ≡ y → with_parts a stack x ≡ with_parts b stack y
    made a b stack x y p q = rw (p, q) refl
