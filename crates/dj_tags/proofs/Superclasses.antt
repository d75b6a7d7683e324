-- One step at a time up the superclasses.
use Rattle.std.proofs.Common.{◌≡◌, ℕ, zero, suc, ◌+◌, ◌<◌, ◌≤◌, List, [], ◌∷◌, length, get_or, slice_get, Option, Some, None, Any, Contains, ◌↔◌, ◌==◌, IsTrue, IsBitSet, bit_and, not, Bor, refl, sym, ap, subst, inl, inr, ◌∙◌, arith}
use Rattle.std.specs.Prelude.{IsSomeAnd}
use Rattle.std.specs.Option.{option_copied}
use Rattle.std.proofs.lemmas.Bool.{cases_order}
use Rattle.std.proofs.lemmas.Bool.Decides.{nat_tests}
use Rattle.std.proofs.lemmas.List.{get_or-map, length-map}
use Rattle.std.proofs.lemmas.Option.{slice_get_within, get_or_from_slice_get, same_Some}
use Rattle.dj_names.specs.declared.header.Header.{Header}
use Rattle.dj_names.specs.Headers.{Name, names, HasDistinctNames, HasSuperclass, IsInterface, IsPath, IsSubclass}
use Rattle.dj_names.proofs.PathLemmas.{short_subclass}
use Rattle.dj_tags.specs.Laxly.{IsUnknown, HasUnknownAbove}

-- a class that names a superclass is known
pub known_below : (headers : List Header) (lower upper : Name) → HasSuperclass headers lower upper → Contains (names headers) lower
known_below headers lower upper (k, header, within, is, both) =
    (k, omega (arith, length-map headers (λ (h : Header). h.name)), get_or-map (λ (h : Header). h.name) headers k header lower within ∙ ap (λ (h : Header). h.name) is ∙ both.0)

-- two headers of one name stand at one place
same_place : (headers : List Header) → HasDistinctNames headers → (i j : ℕ) (d : Header) → i < length headers → j < length headers → (get_or headers i d).name ≡ (get_or headers j d).name → i ≡ j
same_place headers distinct i j d i_in j_in same = elim (cases_order i j) [
  | inl equal ↦ equal
  | inr (inl below) ↦ absurd (distinct i j d below j_in same)
  | inr (inr above) ↦ absurd (distinct j i d above i_in (sym same))
]

-- what some header of a class has, its header at a place has, since no two are of one class
one_header : (headers : List Header) → HasDistinctNames headers → (at : ℕ) (header : Header) (class : Name) (Has : Header → Type 0) → at < length headers → get_or headers at header ≡ header → header.name ≡ class
    → Any (λ (h : Header). (h.name ≡ class) × Has h) headers → Has header
one_header headers distinct at header class Has within is named (k, found, k_in, k_is, both) =
    let names_agree : (get_or headers at header).name ≡ (get_or headers k header).name = ap (λ (h : Header). h.name) is ∙ named ∙ sym both.0 ∙ sym (ap (λ (h : Header). h.name) (other_default headers k found header k_in k_is)) in
    let at_k : at ≡ k = same_place headers distinct at k header within k_in names_agree in
    let same : header ≡ found = sym is ∙ ap (λ n. get_or headers n header) at_k ∙ other_default headers k found header k_in k_is in
    subst Has (sym same) both.1
  where
    other_default : (headers : List Header) (k : ℕ) (found d : Header) → k < length headers → get_or headers k found ≡ found → get_or headers k d ≡ found
    other_default [] k found d within is = absurd (omega arith)
    other_default (h ∷ headers) zero found d within is = is
    other_default (h ∷ headers) (suc k) found d within is = other_default headers k found d (omega arith) is

-- an unknown class is reached from here in fewer steps than by a path
pub record IsNear (headers : List Header) (now : Name) (steps most : ℕ) (upper : Name) : Type 0 where
  pub path : List Name
  pub is_path : IsPath (HasSuperclass headers) now path upper
  pub short : length path + steps ≤ most

-- so many steps lead up to a class, through which all paths to unknown classes go
pub record IsWalk (headers : List Header) (start now : Name) (steps : ℕ) : Type 0 where
  pub reached : IsSubclass headers start now
  pub rest : (upper : Name) (path : List Name) → IsPath (HasSuperclass headers) start path upper → IsUnknown headers upper → IsNear headers now steps (length path) upper

path_more : (headers : List Header) (start now next : Name) (path : List Name) → IsPath (HasSuperclass headers) start path now → HasSuperclass headers now next → IsSubclass headers start next
path_more headers start now next [] same step = record { path = next ∷ []; is_path = (subst (λ n. HasSuperclass headers n next) (sym same) step, refl) }
path_more headers start now next (n ∷ path) steps step =
    let more = path_more headers n now next path steps.1 step in record { path = n ∷ more.path; is_path = (steps.0, more.is_path) }

module _ (headers : List Header) (start : Name) where
  pub walk_none : IsWalk headers start start 0
  walk_none = record { reached = record { path = []; is_path = refl }; rest = λ upper path is unknown. record { path = path; is_path = is; short = omega arith } }

  pub walk_more : (now next : Name) (steps : ℕ) → IsWalk headers start now steps → HasSuperclass headers now next → ((other : Name) → HasSuperclass headers now other → other ≡ next) → IsWalk headers start next (steps + 1)
  walk_more now next steps walk step one = record {
    reached = path_more headers start now next walk.reached.path walk.reached.is_path step;
    rest = λ upper path is unknown. let near = walk.rest upper path is unknown in nearer near.path upper (length path) near.is_path near.short unknown;
  }
    where
      nearer : (path : List Name) (upper : Name) (most : ℕ) → IsPath (HasSuperclass headers) now path upper → length path + steps ≤ most → IsUnknown headers upper → IsNear headers next (steps + 1) most upper
      nearer [] upper most same short unknown = absurd (unknown (subst (Contains (names headers)) same (known_below headers now next step)))
      nearer (n ∷ path) upper most is short unknown = record { path = path; is_path = subst (λ m. IsPath (HasSuperclass headers) m path upper) (one n is.0) is.1; short = omega arith }

  -- a class that is reached is unknown, or nothing is
  pub walk_known : (now : Name) (steps : ℕ) → IsWalk headers start now steps → IsUnknown headers now → HasUnknownAbove headers start
  walk_known now steps walk unknown = record { upper = now; above = walk.reached; unknown = unknown }

  -- there are no more steps
  pub walk_ends : (now : Name) (steps : ℕ) → IsWalk headers start now steps → ((other : Name) → HasSuperclass headers now other → ⊥) → HasUnknownAbove headers start → IsUnknown headers now
  walk_ends now steps walk none above = go (walk.rest above.upper above.above.path above.above.is_path above.unknown)
    where
      at : (path : List Name) → IsPath (HasSuperclass headers) now path above.upper → IsUnknown headers now
      at [] same = subst (IsUnknown headers) (sym same) above.unknown
      at (n ∷ path) is = absurd (none n is.0)

      go : IsNear headers now steps (length above.above.path) above.upper → IsUnknown headers now
      go near = at near.path near.is_path

  -- as many steps were taken as there are headers
  pub walk_done : (now : Name) → IsWalk headers start now (length headers) → HasUnknownAbove headers start → IsUnknown headers now
  walk_done now walk above =
      let short = short_subclass headers start above.upper above.above in
      at short.path short.short (walk.rest above.upper short.path short.is_path above.unknown)
    where
      at : (path : List Name) → length path ≤ length headers → IsNear headers now (length headers) (length path) above.upper → IsUnknown headers now
      at path short near = none near.path near.is_path (let s = near.short in omega arith)
        where
          none : (path : List Name) → IsPath (HasSuperclass headers) now path above.upper → length path ≤ 0 → IsUnknown headers now
          none [] same few = subst (IsUnknown headers) (sym same) above.unknown
          none (n ∷ path) is few = absurd (omega arith)

-- what a header is, whatever stands beyond the list
defaults : (headers : List Header) (at : ℕ) → at < length headers → (d e : Header) → get_or headers at e ≡ get_or headers at d
defaults [] at within d e = absurd (omega arith)
defaults (h ∷ headers) zero within d e = refl
defaults (h ∷ headers) (suc at) within d e = defaults headers at (omega arith) d e

-- the place of a class is that of a header
pub place_within : (headers : List Header) (at : ℕ) (class : Name) → slice_get (names headers) at ≡ Some class → at < length headers
place_within headers at class there = omega (arith, slice_get_within (names headers) at class there, length-map headers (λ (h : Header). h.name))

-- a class that has a place is known
pub known_at : (headers : List Header) (at : ℕ) (class : Name) → slice_get (names headers) at ≡ Some class → Contains (names headers) class
known_at headers at class there = (at, slice_get_within (names headers) at class there, get_or_from_slice_get (names headers) at class class there)

-- a class is below itself
pub same_is_below : (headers : List Header) (lower upper : Name) → lower ≡ upper → IsSubclass headers lower upper
same_is_below headers lower upper same = record { path = []; is_path = same }

-- some header of a class has what the header at the class's place has
pub has_at : (headers : List Header) → HasDistinctNames headers → (at : ℕ) (d : Header) (class : Name) (Has : Header → Type 0) → slice_get (names headers) at ≡ Some class → Has (get_or headers at d) ↔ Any (λ (h : Header). (h.name ≡ class) × Has h) headers
has_at headers distinct at d class Has there =
    let within = place_within headers at class there in
    let header : Header = get_or headers at d in
    let named : header.name ≡ class = sym (get_or-map (λ (h : Header). h.name) headers at d class within) ∙ get_or_from_slice_get (names headers) at class class there in
    let stands : get_or headers at header ≡ header = defaults headers at within d header in
    (λ has. (at, header, within, stands, (named, has)), λ some. one_header headers distinct at header class Has within stands named some)

-- a test of bits and what it tells
set_bits : (n : ℕ) → IsTrue (not (n == 0)) → n ≡ 0 → ⊥
set_bits n is none = grind (arith, nat_tests)

bits_set : (n : ℕ) → (n ≡ 0 → ⊥) → IsTrue (not (n == 0))
bits_set n some = grind (arith, nat_tests)

-- whether the header at a class's place is an interface's
pub interface_at : (headers : List Header) → HasDistinctNames headers → (at : ℕ) (d : Header) (class : Name) → slice_get (names headers) at ≡ Some class → IsTrue (not (bit_and (get_or headers at d).flags 512 == 0)) ↔ IsInterface headers class
interface_at headers distinct at d class there =
    let some = has_at headers distinct at d class (λ (h : Header). IsBitSet h.flags 9) there in
    (λ bit. some.0 (set_bits (bit_and (get_or headers at d).flags 512) bit), λ is. bits_set (bit_and (get_or headers at d).flags 512) (some.1 is))

-- the superclass that the header at a class's place names
pub superclass_at : (headers : List Header) → HasDistinctNames headers → (at : ℕ) (d : Header) (class other : Name) → slice_get (names headers) at ≡ Some class → HasSuperclass headers class other → (get_or headers at d).superclass ≡ Some other
superclass_at headers distinct at d class other there has = (has_at headers distinct at d class (λ (h : Header). h.superclass ≡ Some other) there).1 has

pub copied_some : (result : Option (Bor Name)) (other : Name) → option_copied result ≡ Some other → IsSomeAnd result (λ upper. other ≡ upper.now)
copied_some None other is = absurd (cc)
copied_some (Some upper) other is = sym (same_Some upper.now other is)
