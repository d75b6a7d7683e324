-- Orders of search, and the first in them.
use Rattle.std.proofs.Common.{◌≡◌, ◌≢◌, ℕ, zero, suc, ◌+◌, ◌-◌, ◌<◌, ◌≤◌, List, [], ◌∷◌, ◌++◌, Option, Some, None, Bool, true, false, bytes_eq, if◌then◌else◌, Contains, length, get_or, drop, flat_map, refl, sym, ap, subst, inl, inr, arith}
use Rattle.std.proofs.lemmas.Slice.Eq.{bytes_eq-Decides}
use Rattle.dj_names.specs.declared.header.Header.{Header}
use Rattle.dj_names.specs.Headers.{Name, HasInterface, Implements}
use Rattle.dj_kinds.specs.Search.{header_of, superclass_in, interfaces_in, interfaces_of, upward, depth_first, beside, enough, classes_then_interfaces, field_order, IsFirstIn, FindsOne}
use Rattle.dj_kinds.specs.Deciding.{NoneIn, Finds}

interface_by : (header : Header) (headers : List Header) (class parent : Name) (b : Bool) → bytes_eq header.name class ≡ b → Contains (interfaces_in (if b then Some header else header_of headers class)) parent
    → (Contains (interfaces_of headers class) parent → HasInterface headers class parent) → HasInterface (header ∷ headers) class parent
interface_by header headers class parent true is there rest = (0, header, omega arith, refl, ((bytes_eq-Decides header.name class).0 is, there))
interface_by header headers class parent false is there rest =
    let found = rest there in (suc found.0, found.1, omega (arith, found.2), found.3, found.4)

-- the interfaces that a class's header names are right above it
interface_parent : (headers : List Header) (class parent : Name) → Contains (interfaces_of headers class) parent → HasInterface headers class parent
interface_parent [] class parent (k, within, is) = absurd (omega (arith, within))
interface_parent (header ∷ headers) class parent there = interface_by header headers class parent (bytes_eq header.name class) refl there (interface_parent headers class parent)

module _ {A : Type 0} (Own : Name → A → Type 0) where
  NoneIn-append : (xs ys : List Name) → NoneIn Own xs → NoneIn Own ys → NoneIn Own (xs ++ ys)
  NoneIn-append [] ys first second = second
  NoneIn-append (x ∷ xs) ys first second = (first.0, NoneIn-append xs ys first.1 second)

  IsFirstIn-left : (xs ys : List Name) (member : A) → IsFirstIn Own xs member → IsFirstIn Own (xs ++ ys) member
  IsFirstIn-left [] ys member first = absurd first
  IsFirstIn-left (x ∷ xs) ys member (inl here) = inl here
  IsFirstIn-left (x ∷ xs) ys member (inr later) = inr (later.0, IsFirstIn-left xs ys member later.1)

  IsFirstIn-right : (xs ys : List Name) (member : A) → NoneIn Own xs → IsFirstIn Own ys member → IsFirstIn Own (xs ++ ys) member
  IsFirstIn-right [] ys member none first = first
  IsFirstIn-right (x ∷ xs) ys member none first = inr (none.0, IsFirstIn-right xs ys member none.1 first)

  -- where the first part has nothing, what is found in the second is found in all
  pub Finds-right : (xs ys : List Name) (found : Option A) → NoneIn Own xs → Finds Own ys found → Finds Own (xs ++ ys) found
  Finds-right xs ys None none rest = NoneIn-append xs ys none rest
  Finds-right xs ys (Some member) none rest = IsFirstIn-right xs ys member none rest

  -- where none has such a member none is first
  pub NoneIn-not : (xs : List Name) (member : A) → NoneIn Own xs → ¬ IsFirstIn Own xs member
  NoneIn-not [] member none first = first
  NoneIn-not (x ∷ xs) member none (inl here) = none.0 member here
  NoneIn-not (x ∷ xs) member none (inr later) = NoneIn-not xs member none.1 later.1

  NoneIn-flat_map : (f : Name → List Name) (xs : List Name) → ((x : Name) → Contains xs x → NoneIn Own (f x)) → NoneIn Own (flat_map f xs)
  NoneIn-flat_map f [] each = tt
  NoneIn-flat_map f (x ∷ xs) each =
      NoneIn-append (f x) (flat_map f xs) (each x (0, omega arith, refl)) (NoneIn-flat_map f xs (λ y there. each y (suc there.0, omega (arith, there.1), there.2)))

  -- ---- a loop over a list, each item with an order of its own

  pub step_hit : (f : Name → List Name) (items : List Name) (k : ℕ) (x : Name) (member : A) → k < length items → x ≡ get_or items k x → IsFirstIn Own (f x) member → IsFirstIn Own (flat_map f (drop k items)) member
  step_hit f [] k x member within is first = absurd (omega arith)
  step_hit f (y ∷ items) zero x member within is first = IsFirstIn-left (f y) (flat_map f items) member (subst (λ z. IsFirstIn Own (f z) member) is first)
  step_hit f (y ∷ items) (suc k) x member within is first = step_hit f items k x member (omega arith) is first

  pub step_miss : (f : Name → List Name) (items : List Name) (k : ℕ) (x : Name) (found : Option A) → k < length items → x ≡ get_or items k x → NoneIn Own (f x) → Finds Own (flat_map f (drop (k + 1) items)) found → Finds Own (flat_map f (drop k items)) found
  step_miss f [] k x found within is none rest = absurd (omega arith)
  step_miss f (y ∷ items) zero x found within is none rest = Finds-right (f y) (flat_map f items) found (subst (λ z. NoneIn Own (f z)) is none) rest
  step_miss f (y ∷ items) (suc k) x found within is none rest =
      step_miss f items k x found (omega arith) is none (subst (λ n. Finds Own (flat_map f (drop n (y ∷ items))) found) (let e : suc k + 1 ≡ suc (k + 1) = omega arith in e) rest)

  pub step_end : (f : Name → List Name) (items : List Name) (k : ℕ) → length items ≤ k → NoneIn Own (flat_map f (drop k items))
  step_end f [] zero past = tt
  step_end f [] (suc k) past = tt
  step_end f (x ∷ items) zero past = absurd (omega arith)
  step_end f (x ∷ items) (suc k) past = step_end f items k (omega arith)

  -- ---- upward

  upward-step : (headers : List Header) (most : ℕ) (class : Name) → most ≢ 0 → upward most headers (Some class) ≡ class ∷ upward (most - 1) headers (superclass_in (header_of headers class))
  upward-step headers zero class more = absurd (more refl)
  upward-step headers (suc most) class more = ap (λ n. class ∷ upward n headers (superclass_in (header_of headers class))) (let e : most ≡ suc most - 1 = omega arith in e)

  module _ (f : Name → List Name) (headers : List Header) (most at : ℕ) (class : Name) where
    -- the first of a class and its superclasses, each with an order of its own
    pub above_here : (member : A) → at < most → IsFirstIn Own (f class) member → IsFirstIn Own (flat_map f (upward (most - at) headers (Some class))) member
    above_here member below here =
        rw (upward-step headers (most - at) class (let e : most - at ≢ 0 = omega (arith, below) in e))
        (IsFirstIn-left (f class) (flat_map f (upward (most - at - 1) headers (superclass_in (header_of headers class)))) member here)

    above_rest : (found : Option A) → at < most → NoneIn Own (f class) → Finds Own (flat_map f (upward (most - (at + 1)) headers (superclass_in (header_of headers class)))) found
        → Finds Own (flat_map f (upward (most - at) headers (Some class))) found
    above_rest found below none rest =
        rw (upward-step headers (most - at) class (let e : most - at ≢ 0 = omega (arith, below) in e))
        (Finds-right (f class) (flat_map f (upward (most - at - 1) headers (superclass_in (header_of headers class)))) found none
        (subst (λ n. Finds Own (flat_map f (upward n headers (superclass_in (header_of headers class)))) found) (let e : most - (at + 1) ≡ most - at - 1 = omega (arith, below) in e) rest))

    pub above_next : (next : Name) (found : Option A) → at < most → NoneIn Own (f class) → Some next ≡ superclass_in (header_of headers class)
        → Finds Own (flat_map f (upward (most - (at + 1)) headers (Some next))) found → Finds Own (flat_map f (upward (most - at) headers (Some class))) found
    above_next next found below none super rest =
        above_rest found below none (subst (λ s. Finds Own (flat_map f (upward (most - (at + 1)) headers s)) found) super rest)

    pub above_last : at < most → NoneIn Own (f class) → None ≡ superclass_in (header_of headers class) → NoneIn Own (flat_map f (upward (most - at) headers (Some class)))
    above_last below none super =
        above_rest None below none (subst (λ s. NoneIn Own (flat_map f (upward (most - (at + 1)) headers s))) super (nothing (most - (at + 1))))
      where
        nothing : (n : ℕ) → NoneIn Own (flat_map f (upward n headers None))
        nothing zero = tt
        nothing (suc n) = tt

    pub above_end : most ≤ at → NoneIn Own (flat_map f (upward (most - at) headers (Some class)))
    above_end past = subst (λ n. NoneIn Own (flat_map f (upward n headers (Some class)))) (let e : 0 ≡ most - at = omega (arith, past) in e) tt

  -- ---- upward alone

  singles : (xs : List Name) → flat_map (λ one. one ∷ []) xs ≡ xs
  singles [] = refl
  singles (x ∷ xs) = ap (λ ys. x ∷ ys) (singles xs)

  module _ (headers : List Header) (most at : ℕ) (class : Name) where
    pub up_here : (member : A) → at < most → Own class member → IsFirstIn Own (upward (most - at) headers (Some class)) member
    up_here member below own = subst (λ xs. IsFirstIn Own xs member) (singles (upward (most - at) headers (Some class))) (above_here (λ one. one ∷ []) headers most at class member below (inl own))

    pub up_next : (next : Name) (found : Option A) → at < most → ((member : A) → ¬ Own class member) → Some next ≡ superclass_in (header_of headers class)
        → Finds Own (upward (most - (at + 1)) headers (Some next)) found → Finds Own (upward (most - at) headers (Some class)) found
    up_next next found below none super rest =
        subst (λ xs. Finds Own xs found) (singles (upward (most - at) headers (Some class)))
        (above_next (λ one. one ∷ []) headers most at class next found below (none, tt) super (subst (λ xs. Finds Own xs found) (sym (singles (upward (most - (at + 1)) headers (Some next)))) rest))

    pub up_last : at < most → ((member : A) → ¬ Own class member) → None ≡ superclass_in (header_of headers class) → NoneIn Own (upward (most - at) headers (Some class))
    up_last below none super = subst (NoneIn Own) (singles (upward (most - at) headers (Some class))) (above_last (λ one. one ∷ []) headers most at class below (none, tt) super)

    pub up_end : most ≤ at → NoneIn Own (upward (most - at) headers (Some class))
    up_end past = subst (NoneIn Own) (singles (upward (most - at) headers (Some class))) (above_end (λ one. one ∷ []) headers most at class past)

  -- ---- depth first

  pub depth_hit : (headers : List Header) (most : ℕ) (interface : Name) (member : A) → most ≢ 0 → Own interface member → IsFirstIn Own (depth_first most headers interface) member
  depth_hit headers zero interface member more own = absurd (more refl)
  depth_hit headers (suc most) interface member more own = inl own

  depth_first-step : (headers : List Header) (most : ℕ) (interface : Name) → most ≢ 0 → depth_first most headers interface ≡ interface ∷ flat_map (depth_first (most - 1) headers) (interfaces_of headers interface)
  depth_first-step headers zero interface more = absurd (more refl)
  depth_first-step headers (suc most) interface more =
      ap (λ n. interface ∷ flat_map (depth_first n headers) (interfaces_of headers interface)) (let e : most ≡ suc most - 1 = omega arith in e)

  pub depth_miss : (headers : List Header) (most : ℕ) (interface : Name) (found : Option A) → most ≢ 0 → ((member : A) → ¬ Own interface member)
      → Finds Own (flat_map (depth_first (most - 1) headers) (interfaces_of headers interface)) found → Finds Own (depth_first most headers interface) found
  depth_miss headers most interface found more none rest =
      rw (depth_first-step headers most interface more) (Finds-right (interface ∷ []) (flat_map (depth_first (most - 1) headers) (interfaces_of headers interface)) found (none, tt) rest)

  -- where nothing above an interface has it, the order from there has nothing
  pub depth_none : (headers : List Header) (most : ℕ) (interface : Name) → ((upper : Name) → Implements headers interface upper → (member : A) → ¬ Own upper member) → NoneIn Own (depth_first most headers interface)
  depth_none headers zero interface none = tt
  depth_none headers (suc most) interface none = (
    none interface (record { path = []; is_path = refl }),
    NoneIn-flat_map (depth_first most headers) (interfaces_of headers interface)
        (λ parent there. depth_none headers most parent (λ upper above. none upper (record { path = parent ∷ above.path; is_path = (inr (interface_parent headers interface parent there), above.is_path) }))),
  )

  -- ---- whole orders

  pub found_first : (headers : List Header) (class : Name) (most : ℕ) (member : A) → most ≡ enough headers → IsFirstIn Own (upward most headers (Some class)) member → IsFirstIn Own (classes_then_interfaces headers class) member
  found_first headers class most member size first =
      IsFirstIn-left (upward (enough headers) headers (Some class)) (flat_map (beside (enough headers) headers) (upward (enough headers) headers (Some class))) member
      (subst (λ n. IsFirstIn Own (upward n headers (Some class)) member) size first)

  pub found_rest : (headers : List Header) (class : Name) (most : ℕ) (found : Option A) → most ≡ enough headers → NoneIn Own (upward most headers (Some class))
      → Finds Own (flat_map (beside most headers) (upward most headers (Some class))) found → Finds Own (classes_then_interfaces headers class) found
  found_rest headers class most found size none rest =
      Finds-right (upward (enough headers) headers (Some class)) (flat_map (beside (enough headers) headers) (upward (enough headers) headers (Some class))) found
      (subst (λ n. NoneIn Own (upward n headers (Some class))) size none)
      (subst (λ n. Finds Own (flat_map (beside n headers) (upward n headers (Some class))) found) size rest)

  pub found_by_class : (headers : List Header) (class : Name) (most : ℕ) (found : Option A) → most ≡ enough headers
      → Finds Own (flat_map (λ one. one ∷ beside most headers one) (upward most headers (Some class))) found → Finds Own (field_order headers class) found
  found_by_class headers class most found size rest = subst (λ n. Finds Own (flat_map (λ one. one ∷ beside n headers one) (upward n headers (Some class))) found) size rest

  -- what a search finds is the one that there is
  pub finds_one : (order : List Name) (found : Option A) → Finds Own order found → FindsOne (IsFirstIn Own order) found
  finds_one order None none = λ member. NoneIn-not order member none
  finds_one order (Some member) first = first
