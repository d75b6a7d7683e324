-- Whether some class in an order of search passes a test, step by step.
use Rattle.std.proofs.Common.{◌≡◌, ◌≢◌, ℕ, zero, suc, ◌+◌, ◌-◌, ◌<◌, ◌≤◌, Bool, true, false, ◌||◌, List, [], ◌∷◌, ◌++◌, length, get_or, drop, flat_map, Some, None, refl, sym, ap, subst, ◌∙◌, arith}
use Rattle.std.specs.List.{list_any}
use Rattle.std.proofs.lemmas.Bool.{true≢false}
use Rattle.dj_names.specs.declared.header.Header.{Header}
use Rattle.dj_names.specs.Headers.{Name, Implements}
use Rattle.dj_kinds.specs.Search.{header_of, superclass_in, upward, depth_first, interfaces_of}
use Rattle.dj_kinds.specs.Deciding.{NoneIn}
use Rattle.dj_kinds.proofs.SearchLemmas.{depth_none}

module _ {A : Type 0} (test : A → Bool) where
  -- where the first fails the others tell, and where it passes one does
  pub first-fails : (x : A) (xs : List A) → test x ≡ false → list_any test (x ∷ xs) ≡ list_any test xs
  first-fails x xs is = ap (λ one. one || list_any test xs) is

  pub first-passes : (x : A) (xs : List A) → test x ≡ true → list_any test (x ∷ xs) ≡ true
  first-passes x xs is = ap (λ one. one || list_any test xs) is

  pub any-append : (xs ys : List A) → list_any test (xs ++ ys) ≡ list_any test xs || list_any test ys
  any-append [] ys = refl
  any-append (x ∷ xs) ys = by (test x) (any-append xs ys)
    where
      by : (one : Bool) → list_any test (xs ++ ys) ≡ list_any test xs || list_any test ys → one || list_any test (xs ++ ys) ≡ (one || list_any test xs) || list_any test ys
      by true rest = refl
      by false rest = rest

  pub any-flat : {B : Type 0} (f : B → List A) (xs : List B) → list_any test (flat_map f xs) ≡ list_any (λ x. list_any test (f x)) xs
  any-flat f [] = refl
  any-flat f (x ∷ xs) = any-append (f x) (flat_map f xs) ∙ ap (λ rest. list_any test (f x) || rest) (any-flat f xs)

  -- ---- a list, place by place

  pub item-fails : (items : List A) (k : ℕ) (x : A) → k < length items → x ≡ get_or items k x → test x ≡ false → list_any test (drop k items) ≡ list_any test (drop (k + 1) items)
  item-fails [] k x within is fails = absurd (omega (arith, within))
  item-fails (y ∷ items) zero x within is fails = first-fails y items (subst (λ z. test z ≡ false) is fails)
  item-fails (y ∷ items) (suc k) x within is fails =
      item-fails items k x (omega (arith, within)) is fails ∙ ap (λ n. list_any test (drop n (y ∷ items))) (let e : suc (k + 1) ≡ suc k + 1 = omega arith in e)

  pub item-passes : (items : List A) (k : ℕ) (x : A) → k < length items → x ≡ get_or items k x → test x ≡ true → list_any test (drop k items) ≡ true
  item-passes [] k x within is passes = absurd (omega (arith, within))
  item-passes (y ∷ items) zero x within is passes = first-passes y items (subst (λ z. test z ≡ true) is passes)
  item-passes (y ∷ items) (suc k) x within is passes = item-passes items k x (omega (arith, within)) is passes

  pub items-end : (items : List A) (k : ℕ) → length items ≤ k → list_any test (drop k items) ≡ false
  items-end [] zero past = refl
  items-end [] (suc k) past = refl
  items-end (x ∷ items) zero past = absurd (omega (arith, past))
  items-end (x ∷ items) (suc k) past = items-end items k (omega (arith, past))

-- ---- upward

upward-step : (headers : List Header) (most : ℕ) (class : Name) → most ≢ 0 → upward most headers (Some class) ≡ class ∷ upward (most - 1) headers (superclass_in (header_of headers class))
upward-step headers zero class more = absurd (more refl)
upward-step headers (suc most) class more = ap (λ n. class ∷ upward n headers (superclass_in (header_of headers class))) (let e : most ≡ suc most - 1 = omega arith in e)

none-upward : (headers : List Header) (most : ℕ) → upward most headers None ≡ []
none-upward headers zero = refl
none-upward headers (suc most) = refl

zero-upward : (headers : List Header) (most : ℕ) (class : Name) → most ≡ 0 → upward most headers (Some class) ≡ []
zero-upward headers most class is = ap (λ n. upward n headers (Some class)) is

module _ (test : Name → Bool) (headers : List Header) (most at : ℕ) (class : Name) where
  pub up-passes : at < most → test class ≡ true → list_any test (upward (most - at) headers (Some class)) ≡ true
  up-passes below passes =
      ap (list_any test) (upward-step headers (most - at) class (let e : most - at ≢ 0 = omega (arith, below) in e)) ∙ first-passes test class (upward (most - at - 1) headers (superclass_in (header_of headers class))) passes

  up-step : at < most → test class ≡ false → list_any test (upward (most - at) headers (Some class)) ≡ list_any test (upward (most - (at + 1)) headers (superclass_in (header_of headers class)))
  up-step below fails =
      ap (list_any test) (upward-step headers (most - at) class (let e : most - at ≢ 0 = omega (arith, below) in e))
      ∙ first-fails test class (upward (most - at - 1) headers (superclass_in (header_of headers class))) fails
      ∙ ap (λ n. list_any test (upward n headers (superclass_in (header_of headers class)))) (let e : most - at - 1 ≡ most - (at + 1) = omega (arith, below) in e)

  pub up-next : (next : Name) → at < most → test class ≡ false → Some next ≡ superclass_in (header_of headers class) → list_any test (upward (most - at) headers (Some class)) ≡ list_any test (upward (most - (at + 1)) headers (Some next))
  up-next next below fails super = up-step below fails ∙ ap (λ above. list_any test (upward (most - (at + 1)) headers above)) (sym super)

  pub up-last : at < most → test class ≡ false → None ≡ superclass_in (header_of headers class) → list_any test (upward (most - at) headers (Some class)) ≡ false
  up-last below fails super = up-step below fails ∙ ap (λ above. list_any test (upward (most - (at + 1)) headers above)) (sym super) ∙ ap (list_any test) (none-upward headers (most - (at + 1)))

  pub up-end : most ≤ at → list_any test (upward (most - at) headers (Some class)) ≡ false
  up-end past = ap (list_any test) (zero-upward headers (most - at) class (let e : most - at ≡ 0 = omega (arith, past) in e))

-- ---- depth first

module _ (test : Name → Bool) (headers : List Header) where
  depth-step : (most : ℕ) (interface : Name) → most ≢ 0 → depth_first most headers interface ≡ interface ∷ flat_map (depth_first (most - 1) headers) (interfaces_of headers interface)
  depth-step zero interface more = absurd (more refl)
  depth-step (suc most) interface more = ap (λ n. interface ∷ flat_map (depth_first n headers) (interfaces_of headers interface)) (let e : most ≡ suc most - 1 = omega arith in e)

  pub depth-passes : (most : ℕ) (interface : Name) → most ≢ 0 → test interface ≡ true → list_any test (depth_first most headers interface) ≡ true
  depth-passes most interface more passes = ap (list_any test) (depth-step most interface more) ∙ first-passes test interface (flat_map (depth_first (most - 1) headers) (interfaces_of headers interface)) passes

  pub depth-fails : (most : ℕ) (interface : Name) → most ≢ 0 → test interface ≡ false
      → list_any test (depth_first most headers interface) ≡ list_any (λ parent. list_any test (depth_first (most - 1) headers parent)) (interfaces_of headers interface)
  depth-fails most interface more fails =
      ap (list_any test) (depth-step most interface more) ∙ first-fails test interface (flat_map (depth_first (most - 1) headers) (interfaces_of headers interface)) fails
      ∙ any-flat test (depth_first (most - 1) headers) (interfaces_of headers interface)

  pub depth-none : (most : ℕ) (interface : Name) → most ≡ 0 → list_any test (depth_first most headers interface) ≡ false
  depth-none most interface is = ap (λ n. list_any test (depth_first n headers interface)) is

  none-pass : (classes : List Name) → NoneIn (λ class (one : Unit {0}). test class ≡ true) classes → list_any test classes ≡ false
  none-pass [] none = refl
  none-pass (class ∷ classes) none = by (test class) refl (none-pass classes none.1)
    where
      by : (one : Bool) → test class ≡ one → list_any test classes ≡ false → one || list_any test classes ≡ false
      by true at rest = absurd (none.0 tt at)
      by false at rest = rest

  -- where no class above an interface passes, none in the order from there does
  pub depth-nowhere : (most : ℕ) (interface : Name) → ((upper : Name) → Implements headers interface upper → test upper ≡ false) → list_any test (depth_first most headers interface) ≡ false
  depth-nowhere most interface none =
      none-pass (depth_first most headers interface)
      (depth_none (λ class (one : Unit {0}). test class ≡ true) headers most interface (λ upper above one passes. true≢false (sym passes ∙ none upper above)))
