-- A path over n headers can be cut to at most n steps.
use Rattle.std.proofs.Common.{◌≡◌, ◌≢◌, ℕ, zero, suc, ◌<◌, ◌≤◌, ◌⊎◌, List, [], ◌∷◌, Bool, true, false, length, get_or, bytes_eq, refl, sym, ap, subst, inl, inr, ◌∙◌, arith}
use Rattle.std.proofs.lemmas.List.{length-map}
use Rattle.std.proofs.lemmas.Bool.{false≢true}
use Rattle.std.proofs.lemmas.Slice.Eq.{bytes_eq-Decides}
use Rattle.dj_names.specs.declared.header.Header.{Header}
use Rattle.dj_names.specs.Headers.{Name, names, HasSuperclass, HasInterface, HasParent, IsPath, HasShortPath, IsSubclass, Implements}

same_name_by : (x y : Name) (b : Bool) → bytes_eq x y ≡ b → (x ≡ y) ⊎ (x ≢ y)
same_name_by x y true is = inl ((bytes_eq-Decides x y).0 is)
same_name_by x y false is = inr (λ same. false≢true (sym is ∙ (bytes_eq-Decides x y).1 same))

pub same_name : (x y : Name) → (x ≡ y) ⊎ (x ≢ y)
same_name x y = same_name_by x y (bytes_eq x y) refl

-- no step begins at x
abbrev Avoids : Name → Name → List Name → Type 0
Avoids x lower [] = Unit {0}
Avoids x lower (next ∷ path) = (x ≢ lower) × Avoids x next path

-- no two steps begin at one name
abbrev IsSimple : Name → List Name → Type 0
IsSimple lower [] = Unit {0}
IsSimple lower (next ∷ path) = Avoids lower next path × IsSimple next path

abbrev IsMember : Name → List Name → Type 0
IsMember x [] = ⊥
IsMember x (y ∷ ys) = (x ≡ y) ⊎ IsMember x ys

-- each step begins at one of these names
abbrev BeginsAmong : List Name → Name → List Name → Type 0
BeginsAmong all lower [] = Unit {0}
BeginsAmong all lower (next ∷ path) = IsMember lower all × BeginsAmong all next path

record SimplePath (Step : Name → Name → Type 0) (lower upper : Name) : Type 0 where
  path : List Name
  is_path : IsPath Step lower path upper
  simple : IsSimple lower path

module _ (Step : Name → Name → Type 0) (upper : Name) where
  -- a simple path avoids x, or there is one from x
  avoids_or_from : (x lower : Name) (path : List Name) → IsPath Step lower path upper → IsSimple lower path → Avoids x lower path ⊎ SimplePath Step x upper
  avoids_or_from x lower [] is_path simple = inl tt
  avoids_or_from x lower (next ∷ path) is_path simple =
      elim (same_name x lower) [
        | inl same ↦ inr (subst (λ y. SimplePath Step y upper) (sym same) (record { path = next ∷ path; is_path = is_path; simple = simple }))
        | inr other ↦ elim (avoids_or_from x next path is_path.1 simple.1) [ inl avoids ↦ inl (other, avoids) | inr found ↦ inr found ]
      ]

  simple_path : (lower : Name) (path : List Name) → IsPath Step lower path upper → SimplePath Step lower upper
  simple_path lower [] is_path = record { path = []; is_path = is_path; simple = tt }
  simple_path lower (next ∷ path) is_path =
      let s = simple_path next path is_path.1 in
      elim (avoids_or_from lower next s.path s.is_path s.simple) [
        | inl avoids ↦ record { path = next ∷ s.path; is_path = (is_path.0, s.is_path); simple = (avoids, s.simple) }
        | inr found ↦ found
      ]

  begins_among : (all : List Name) → ((x y : Name) → Step x y → IsMember x all) → (lower : Name) (path : List Name) → IsPath Step lower path upper → BeginsAmong all lower path
  begins_among all member lower [] is_path = tt
  begins_among all member lower (next ∷ path) is_path = (member lower next is_path.0, begins_among all member next path is_path.1)

-- the other names of a list that has x
record Others (x : Name) (all : List Name) : Type 0 where
  rest : List Name
  size : suc (length rest) ≡ length all
  keeps : (y : Name) → y ≢ x → IsMember y all → IsMember y rest

others : (x : Name) (all : List Name) → IsMember x all → Others x all
others x [] none = absurd none
others x (y ∷ ys) (inl is) = record { rest = ys; size = refl; keeps = λ z other member. elim member [ inl same ↦ absurd (other (same ∙ sym is)) | inr later ↦ later ] }
others x (y ∷ ys) (inr later) =
    let o = others x ys later in
    record {
      rest = y ∷ o.rest;
      size = ap suc o.size;
      keeps = λ z other member. elim member [ inl same ↦ inl same | inr more ↦ inr (o.keeps z other more) ];
    }

among_others : (x : Name) (all rest lower_path : List Name) (lower : Name) → ((y : Name) → y ≢ x → IsMember y all → IsMember y rest) → Avoids x lower lower_path → BeginsAmong all lower lower_path → BeginsAmong rest lower lower_path
among_others x all rest [] lower keeps avoids among = tt
among_others x all rest (next ∷ path) lower keeps avoids among =
    (keeps lower (λ same. avoids.0 (sym same)) among.0, among_others x all rest path next keeps avoids.1 among.1)

-- a simple path has at most as many steps as there are names to begin at
simple_is_short : (all : List Name) (lower : Name) (path : List Name) → IsSimple lower path → BeginsAmong all lower path → length path ≤ length all
simple_is_short all lower [] simple among = omega arith
simple_is_short all lower (next ∷ path) simple among =
    let o = others lower all among.0 in
    let short = simple_is_short o.rest next path simple.1 (among_others lower all o.rest path next o.keeps simple.0 among.1) in
    omega (arith, short, o.size)

has_header : (headers : List Header) (k : ℕ) (header : Header) → k < length headers → get_or headers k header ≡ header → IsMember header.name (names headers)
has_header [] k header within is = absurd (omega arith)
has_header (first ∷ headers) zero header within is = inl (ap (λ (h : Header). h.name) (sym is))
has_header (first ∷ headers) (suc k) header within is = inr (has_header headers k header (omega arith) is)

superclass_member : (headers : List Header) (x y : Name) → HasSuperclass headers x y → IsMember x (names headers)
superclass_member headers x y (k, header, within, is, named) = subst (λ n. IsMember n (names headers)) named.0 (has_header headers k header within is)

interface_member : (headers : List Header) (x y : Name) → HasInterface headers x y → IsMember x (names headers)
interface_member headers x y (k, header, within, is, named) = subst (λ n. IsMember n (names headers)) named.0 (has_header headers k header within is)

parent_member : (headers : List Header) (x y : Name) → HasParent headers x y → IsMember x (names headers)
parent_member headers x y step = elim step [ inl super ↦ superclass_member headers x y super | inr interface ↦ interface_member headers x y interface ]

short_path : (headers : List Header) (Step : Name → Name → Type 0) → ((x y : Name) → Step x y → IsMember x (names headers)) → (lower upper : Name) (path : List Name) → IsPath Step lower path upper
    → HasShortPath Step (length headers) lower upper
short_path headers Step member lower upper path is_path =
    let s = simple_path Step upper lower path is_path in
    record {
      path = s.path;
      is_path = s.is_path;
      short = omega (arith, simple_is_short (names headers) lower s.path s.simple (begins_among Step upper (names headers) member lower s.path s.is_path), length-map headers (λ (header : Header). header.name));
    }

pub short_subclass : (headers : List Header) (lower upper : Name) → IsSubclass headers lower upper → HasShortPath (HasSuperclass headers) (length headers) lower upper
short_subclass headers lower upper h = short_path headers (HasSuperclass headers) (superclass_member headers) lower upper h.path h.is_path

pub short_implements : (headers : List Header) (lower upper : Name) → Implements headers lower upper → HasShortPath (HasParent headers) (length headers) lower upper
short_implements headers lower upper h = short_path headers (HasParent headers) (parent_member headers) lower upper h.path h.is_path
