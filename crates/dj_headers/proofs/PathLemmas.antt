-- Paths, and what one more header changes.
use Rattle.std.proofs.Common.{◌≡◌, ◌⊎◌, ◌↔◌, List, [], ◌∷◌, ◌++◌, Some, Contains, Bool, IsTrue, ℕ, zero, suc, ◌<◌, length, map, get_or, Any, refl, sym, ap, subst, inl, inr, ◌∙◌, arith}
use Rattle.std.proofs.lemmas.List.Quantifiers.{Any-push}
use Rattle.std.proofs.lemmas.List.{get_or_append_left, length_push}
use Rattle.dj_names.specs.declared.header.Header.{Header}
use Rattle.dj_names.specs.Headers.{Name, HasSuperclass, HasParent, IsPath, IsSubclass, Implements}
use Rattle.dj_headers.specs.Table.{IsParent, IsAbove, bare}

-- ---- one more element

pub Any-before : {A : Type 0} (P : A → Type 0) (xs : List A) (y : A) → Any P xs → Any P (xs ++ y ∷ [])
Any-before P xs y (k, x, within, is, holds) =
    (k, x, omega (arith, length_push xs y), get_or_append_left xs (y ∷ []) x k within ∙ is, holds)

Any-shift : {A : Type 0} (P : A → Type 0) (y : A) (xs : List A) → Any P xs → Any P (y ∷ xs)
Any-shift P y xs (k, x, within, is, holds) = (suc k, x, omega arith, is, holds)

pub Any-push_cases : {A : Type 0} (P : A → Type 0) (xs : List A) (y : A) → Any P (xs ++ y ∷ []) → Any P xs ⊎ P y
Any-push_cases P [] y (zero, x, within, is, holds) = inr (subst P (sym is) holds)
Any-push_cases P [] y (suc k, x, within, is, holds) = absurd (omega arith)
Any-push_cases P (z ∷ xs) y (zero, x, within, is, holds) = inl (zero, x, omega arith, is, holds)
Any-push_cases P (z ∷ xs) y (suc k, x, within, is, holds) =
    elim (Any-push_cases P xs y (k, x, omega arith, is, holds)) [ inl before ↦ inl (Any-shift P z xs before) | inr last ↦ inr last ]

-- ---- paths joined

pub Implements-own : (headers : List Header) (x : Name) → Implements headers x x
Implements-own headers x = record { path = []; is_path = refl }

Implements-step : (headers : List Header) (x y z : Name) → HasParent headers x y → Implements headers y z → Implements headers x z
Implements-step headers x y z step rest = record { path = y ∷ rest.path; is_path = (step, rest.is_path) }

pub join_paths : (headers : List Header) (x y z : Name) (path : List Name) → IsPath (HasParent headers) x path y → Implements headers y z → Implements headers x z
join_paths headers x y z [] same rest = subst (λ n. Implements headers n z) (sym same) rest
join_paths headers x y z (n ∷ path) steps rest = Implements-step headers x n z steps.0 (join_paths headers n y z path steps.1 rest)

path-none : (x y : Name) (path : List Name) → IsPath (HasParent []) x path y → x ≡ y
path-none x y [] same = same
path-none x y (n ∷ path) steps = absurd (elim steps.0 [ inl up ↦ (let w = up.2 in omega arith) | inr up ↦ (let w = up.2 in omega arith) ])

-- without headers nothing stands above another
pub Implements-none : (x y : Name) → Implements [] x y → x ≡ y
Implements-none x y h = path-none x y h.path h.is_path

pub word_alone : (headers : List Header) (word units class : Name) (r : Bool) → headers ≡ [] → units ≡ class → IsTrue r ↔ (word ≡ units) → IsTrue r ↔ Implements headers class word
word_alone headers word units class r none same is = (
  λ yes. subst (λ name. Implements headers name word) (is.0 yes ∙ same) (Implements-own headers word),
  λ above. is.1 (sym (Implements-none class word (subst (λ all. Implements all class word) none above)) ∙ sym same),
)

-- ---- one more header: the steps from its name to its parents

pub HasParent-before : (headers : List Header) (header : Header) (x y : Name) → HasParent headers x y → HasParent (headers ++ header ∷ []) x y
HasParent-before headers header x y (inl up) = inl (Any-before (λ (h : Header). (h.name ≡ x) × (h.superclass ≡ Some y)) headers header up)
HasParent-before headers header x y (inr up) = inr (Any-before (λ (h : Header). (h.name ≡ x) × Contains h.interfaces y) headers header up)

pub HasParent-last : (headers : List Header) (header : Header) (y : Name) → IsParent header.superclass header.interfaces y → HasParent (headers ++ header ∷ []) header.name y
HasParent-last headers header y (inl up) = inl (Any-push (λ (h : Header). (h.name ≡ header.name) × (h.superclass ≡ Some y)) headers header (refl, up))
HasParent-last headers header y (inr up) = inr (Any-push (λ (h : Header). (h.name ≡ header.name) × Contains h.interfaces y) headers header (refl, up))

pub HasParent-cases : (headers : List Header) (header : Header) (x y : Name) → HasParent (headers ++ header ∷ []) x y → HasParent headers x y ⊎ ((header.name ≡ x) × IsParent header.superclass header.interfaces y)
HasParent-cases headers header x y (inl up) =
    elim (Any-push_cases (λ (h : Header). (h.name ≡ x) × (h.superclass ≡ Some y)) headers header up) [ inl before ↦ inl (inl before) | inr last ↦ inr (last.0, inl last.1) ]
HasParent-cases headers header x y (inr up) =
    elim (Any-push_cases (λ (h : Header). (h.name ≡ x) × Contains h.interfaces y) headers header up) [ inl before ↦ inl (inr before) | inr last ↦ inr (last.0, inr last.1) ]

path_between : (P Q : Name → Name → Type 0) → ((x y : Name) → P x y → Q x y) → (x y : Name) (path : List Name) → IsPath P x path y → IsPath Q x path y
path_between P Q each x y [] same = same
path_between P Q each x y (n ∷ path) steps = (each x n steps.0, path_between P Q each n y path steps.1)

pub Implements-before : (headers : List Header) (header : Header) (x y : Name) → Implements headers x y → Implements (headers ++ header ∷ []) x y
Implements-before headers header x y h =
    record { path = h.path; is_path = path_between (HasParent headers) (HasParent (headers ++ header ∷ [])) (HasParent-before headers header) x y h.path h.is_path }

-- up to the new header, and on from one of its parents
pub Implements-through : (headers : List Header) (header : Header) (x y : Name) → Implements headers x header.name → IsAbove headers (IsParent header.superclass header.interfaces) y → Implements (headers ++ header ∷ []) x y
Implements-through headers header x y to above =
    let more = headers ++ header ∷ [] in
    let lower = Implements-before headers header x header.name to in
    join_paths more x header.name y lower.path lower.is_path
    (Implements-step more header.name above.parent y (HasParent-last headers header above.parent above.is_parent) (Implements-before headers header above.parent y above.reached))

path_cases : (headers : List Header) (header : Header) (x y : Name) (path : List Name) → IsPath (HasParent (headers ++ header ∷ [])) x path y
    → Implements headers x y ⊎ (Implements headers x header.name × IsAbove headers (IsParent header.superclass header.interfaces) y)
path_cases headers header x y [] same = inl (record { path = []; is_path = same })
path_cases headers header x y (n ∷ path) steps =
    elim (HasParent-cases headers header x n steps.0) [
      | inl before ↦ elim (path_cases headers header n y path steps.1) [
        | inl all_before ↦ inl (Implements-step headers x n y before all_before)
        | inr through ↦ inr (Implements-step headers x n header.name before through.0, through.1)
      ]
      | inr last ↦ elim (path_cases headers header n y path steps.1) [
        | inl all_before ↦ inr (record { path = []; is_path = sym last.0 }, record { parent = n; is_parent = last.1; reached = all_before })
        | inr through ↦ inr (record { path = []; is_path = sym last.0 }, through.1)
      ]
    ]

-- also in circles: a path is cut before its first step from the new header and after its last
pub Implements-cases : (headers : List Header) (header : Header) (x y : Name) → Implements (headers ++ header ∷ []) x y
    → Implements headers x y ⊎ (Implements headers x header.name × IsAbove headers (IsParent header.superclass header.interfaces) y)
Implements-cases headers header x y h = path_cases headers header x y h.path h.is_path

-- ---- headers without interfaces tell the superclasses

line_on : (headers : List Header) (x y : Name) (k : ℕ) (header : Header) → k < length headers → get_or headers k header ≡ header → header.name ≡ x → header.superclass ≡ Some y
    → Any (λ (h : Header). (h.name ≡ x) × (h.superclass ≡ Some y)) (map bare headers)
line_on [] x y k header within is named super = absurd (omega arith)
line_on (h ∷ headers) x y zero header within is named super =
    (0, bare h, omega arith, refl, (ap (λ (g : Header). g.name) is ∙ named, ap (λ (g : Header). g.superclass) is ∙ super))
line_on (h ∷ headers) x y (suc k) header within is named super =
    Any-shift (λ (g : Header). (g.name ≡ x) × (g.superclass ≡ Some y)) (bare h) (map bare headers) (line_on headers x y k header (omega arith) is named super)

line_back : (headers : List Header) (x y : Name) (k : ℕ) (header : Header) → k < length (map bare headers) → get_or (map bare headers) k header ≡ header → header.name ≡ x → header.superclass ≡ Some y → HasSuperclass headers x y
line_back [] x y k header within is named super = absurd (omega arith)
line_back (h ∷ headers) x y zero header within is named super =
    (0, h, omega arith, refl, (ap (λ (g : Header). g.name) is ∙ named, ap (λ (g : Header). g.superclass) is ∙ super))
line_back (h ∷ headers) x y (suc k) header within is named super =
    Any-shift (λ (g : Header). (g.name ≡ x) × (g.superclass ≡ Some y)) h headers (line_back headers x y k header (omega arith) is named super)

none_listed : (headers : List Header) (y : Name) (k : ℕ) (header : Header) → k < length (map bare headers) → get_or (map bare headers) k header ≡ header → Contains header.interfaces y → ⊥
none_listed [] y k header within is there = omega arith
none_listed (h ∷ headers) y zero header within is there =
    let gone : Contains (bare h).interfaces y = subst (λ (g : Header). Contains g.interfaces y) (sym is) there in
    (let w = gone.1 in omega arith)
none_listed (h ∷ headers) y (suc k) header within is there = none_listed headers y k header (omega arith) is there

line_step : (headers : List Header) (x y : Name) → HasSuperclass headers x y → HasParent (map bare headers) x y
line_step headers x y (k, header, within, is, both) = inl (line_on headers x y k header within is both.0 both.1)

bare_step : (headers : List Header) (x y : Name) → HasParent (map bare headers) x y → HasSuperclass headers x y
bare_step headers x y (inl (k, header, within, is, both)) = line_back headers x y k header within is both.0 both.1
bare_step headers x y (inr (k, header, within, is, both)) = absurd (none_listed headers y k header within is both.1)

pub Implements-bare : (headers : List Header) (x y : Name) → Implements (map bare headers) x y ↔ IsSubclass headers x y
Implements-bare headers x y = (
  λ h. record { path = h.path; is_path = path_between (HasParent (map bare headers)) (HasSuperclass headers) (bare_step headers) x y h.path h.is_path },
  λ h. record { path = h.path; is_path = path_between (HasSuperclass headers) (HasParent (map bare headers)) (line_step headers) x y h.path h.is_path },
)
