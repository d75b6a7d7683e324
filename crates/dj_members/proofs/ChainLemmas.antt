-- Chains through the places of a name.
use Rattle.std.proofs.Common.{◌≡◌, ◌≢◌, ◌⊎◌, ℕ, zero, suc, ◌+◌, ◌<◌, ◌≤◌, List, [], ◌∷◌, ◌++◌, bytes_eq, Option, Some, None, slice_get, length, refl, sym, ap, subst, inl, inr, ◌∙◌, arith}
use Rattle.std.specs.Ordering.{nat_cmp}
use Rattle.std.specs.Cmp.Lexicographic.{slice_cmp}
use Rattle.std.specs.BTreeMap as tree
use Rattle.std.specs.BTreeMap.{BTreeMap, Updates}
use Rattle.std.proofs.lemmas.Bool.{cases_lt, cases_Bool, both_ways}
use Rattle.std.proofs.lemmas.List.{length-map, length_push}
use Rattle.std.proofs.lemmas.Option.{same_Some, none-some, slice_get_within}
use Rattle.std.proofs.lemmas.Slice.Eq.{bytes_eq-Decides}
use Rattle.dj_names.specs.Headers.{Name}
use Rattle.dj_headers.proofs.PlaceLemmas.{Gives, gives}
use Rattle.dj_members.specs.declared.name_table.Link.{Link}
use Rattle.dj_members.specs.Names.{IsLast}
use Rattle.dj_members.specs.Links.{linked_names, KeepsNames}
use Rattle.dj_members.specs.Picks.{PicksFirst}

-- ---- one more item

pub get-before : {A : Type 0} (xs : List A) (y : A) (k : ℕ) → k < length xs → slice_get (xs ++ y ∷ []) k ≡ slice_get xs k
get-before [] y k within = absurd (omega (arith, within))
get-before (x ∷ xs) y zero within = refl
get-before (x ∷ xs) y (suc k) within = get-before xs y k (omega (arith, within))

pub get-last : {A : Type 0} (xs : List A) (y : A) → slice_get (xs ++ y ∷ []) (length xs) ≡ Some y
get-last [] y = refl
get-last (x ∷ xs) y = get-last xs y

pub get-cases : {A : Type 0} (xs : List A) (y : A) (k : ℕ) (z : A) → slice_get (xs ++ y ∷ []) k ≡ Some z → (slice_get xs k ≡ Some z) ⊎ ((k ≡ length xs) × (y ≡ z))
get-cases [] y zero z is = inr (refl, same_Some y z is)
get-cases [] y (suc k) z is = absurd (none-some z is)
get-cases (x ∷ xs) y zero z is = inl is
get-cases (x ∷ xs) y (suc k) z is = elim (get-cases xs y k z is) [ inl before ↦ inl before | inr last ↦ inr (ap suc last.0, last.1) ]

names-push : (links : List Link) (link : Link) → linked_names (links ++ link ∷ []) ≡ linked_names links ++ link.name ∷ []
names-push [] link = refl
names-push (l ∷ links) link = ap (λ ns. l.name ∷ ns) (names-push links link)

-- ---- the last place of a name

last-before : (names : List Name) (name y : Name) (bound : ℕ) (place : Option ℕ) → bound ≤ length names → IsLast names name bound place → IsLast (names ++ y ∷ []) name bound place
last-before names name y bound None within last = λ k below is. last k below (sym (get-before names y k (omega (arith, within, below))) ∙ is)
last-before names name y bound (Some at) within last = (
  last.0,
  get-before names y at (omega (arith, within, last.0)) ∙ last.1,
  λ k above below is. last.2 k above below (sym (get-before names y k (omega (arith, within, below))) ∙ is),
)

last-other : (names : List Name) (name y : Name) (place : Option ℕ) → y ≢ name → IsLast names name (length names) place → IsLast (names ++ y ∷ []) name (length names + 1) place
last-other names name y None other last = λ k below is.
    elim (get-cases names y k name is) [ inl before ↦ last k (slice_get_within names k name before) before | inr here ↦ other here.1 ]
last-other names name y (Some at) other last = (
  omega (arith, last.0),
  get-before names y at last.0 ∙ last.1,
  λ k above below is. elim (get-cases names y k name is) [ inl before ↦ last.2 k above (slice_get_within names k name before) before | inr here ↦ other here.1 ],
)

last-here : (names : List Name) (y : Name) → IsLast (names ++ y ∷ []) y (length names + 1) (Some (length names))
last-here names y = (omega arith, get-last names y, λ k above below is. absurd (omega (arith, above, below)))

module _ (links : List Link) (link : Link) (last last' : BTreeMap Name ℕ) (keeps : KeepsNames links last) (before_is : link.before ≡ tree.get (slice_cmp nat_cmp) last link.name)
    (given : Gives last last' link.name (length links)) where
  size : length (linked_names links) ≡ length links
  size = length-map links (λ (l : Link). l.name)

  ends_old : (name : Name) → IsLast (linked_names links) name (length (linked_names links)) (tree.get (slice_cmp nat_cmp) last name)
  ends_old name = subst (λ n. IsLast (linked_names links) name n (tree.get (slice_cmp nat_cmp) last name)) (sym size) (keeps.ends name)

  ends_names : (name : Name) → IsLast (linked_names links ++ link.name ∷ []) name (length (linked_names links) + 1) (tree.get (slice_cmp nat_cmp) last' name)
  ends_names name = elim (cases_Bool (bytes_eq link.name name)) [
    | inl is ↦
        let same : link.name ≡ name = (bytes_eq-Decides link.name name).0 is in
        let at : Some (length (linked_names links)) ≡ tree.get (slice_cmp nat_cmp) last' name = ap Some size ∙ sym given.here ∙ ap (tree.get (slice_cmp nat_cmp) last') same in
        subst (λ p. IsLast (linked_names links ++ link.name ∷ []) name (length (linked_names links) + 1) p) at
        (subst (λ n. IsLast (linked_names links ++ link.name ∷ []) n (length (linked_names links) + 1) (Some (length (linked_names links)))) same (last-here (linked_names links) link.name))
    | inr is ↦
        let apart : link.name ≢ name = λ same. both_ways (bytes_eq link.name name) is ((bytes_eq-Decides link.name name).1 same) in
        subst (λ p. IsLast (linked_names links ++ link.name ∷ []) name (length (linked_names links) + 1) p) (sym (given.apart name apart))
        (last-other (linked_names links) name link.name (tree.get (slice_cmp nat_cmp) last name) apart (ends_old name))
  ]

  chain_names : (at : ℕ) (other : Link) → slice_get (links ++ link ∷ []) at ≡ Some other → IsLast (linked_names links ++ link.name ∷ []) other.name at other.before
  chain_names at other is = elim (get-cases links link at other is) [
    | inl before ↦ last-before (linked_names links) other.name link.name at other.before (omega (arith, slice_get_within links at other before, size)) (keeps.chain at other before)
    | inr here ↦
        let here_is : IsLast (linked_names links ++ link.name ∷ []) link.name (length links) link.before =
        subst (λ p. IsLast (linked_names links ++ link.name ∷ []) link.name (length links) p) (sym before_is)
        (last-before (linked_names links) link.name link.name (length links) (tree.get (slice_cmp nat_cmp) last link.name) (omega (arith, size)) (keeps.ends link.name)) in
        subst (λ (l : Link). IsLast (linked_names links ++ link.name ∷ []) l.name at l.before) here.1
        (subst (λ n. IsLast (linked_names links ++ link.name ∷ []) link.name n link.before) (sym here.0) here_is)
  ]

  -- one more name
  pub KeepsNames-push : KeepsNames (links ++ link ∷ []) last'
  KeepsNames-push = record {
    ends = λ name.
        subst (λ ns. IsLast ns name (length (links ++ link ∷ [])) (tree.get (slice_cmp nat_cmp) last' name)) (sym (names-push links link))
        (subst (λ n. IsLast (linked_names links ++ link.name ∷ []) name n (tree.get (slice_cmp nat_cmp) last' name)) (let e : length (linked_names links) + 1 ≡ length (links ++ link ∷ []) = omega (arith, size, length_push links link) in e) (ends_names name));
    chain = λ at other is. subst (λ ns. IsLast ns other.name at other.before) (sym (names-push links link)) (chain_names at other is);
  }

-- ---- a walk through the places of a name, from the last

-- a place is still to be looked at
abbrev pub IsLeft : Option ℕ → ℕ → Type 0
IsLeft None k = ⊥
IsLeft (Some at) k = k ≤ at

-- how many places there are up to this one
abbrev pub left : Option ℕ → ℕ
left None = 0
left (Some at) = at + 1

-- the name stands at the place
abbrev pub Stands : List Name → Name → Option ℕ → Type 0
Stands names name None = Unit {0}
Stands names name (Some at) = slice_get names at ≡ Some name

-- the first that is picked among the places that were looked at
abbrev pub Seen : List Name → Name → (ℕ → Type 0) → Option ℕ → Option ℕ → Type 0
Seen names name Picks place None = (k : ℕ) → slice_get names k ≡ Some name → ¬ IsLeft place k → ¬ Picks k
Seen names name Picks place (Some found) =
    (slice_get names found ≡ Some name) × Picks found × (¬ IsLeft place found) × ((k : ℕ) → k < found → slice_get names k ≡ Some name → ¬ IsLeft place k → ¬ Picks k)

pub stands-last : (names : List Name) (name : Name) (bound : ℕ) (place : Option ℕ) → IsLast names name bound place → Stands names name place
stands-last names name bound None last = tt
stands-last names name bound (Some at) last = last.1

pub left-below : (names : List Name) (name : Name) (bound : ℕ) (place : Option ℕ) → IsLast names name bound place → left place ≤ bound
left-below names name bound None last = omega arith
left-below names name bound (Some at) last = omega (arith, last.0)

left-in : (place : Option ℕ) (k : ℕ) → IsLeft place k → k < left place
left-in None k is = absurd is
left-in (Some at) k is = omega (arith, is)

left-all : (names : List Name) (name : Name) (bound : ℕ) (place : Option ℕ) (k : ℕ) → IsLast names name bound place → slice_get names k ≡ Some name → k < bound → IsLeft place k
left-all names name bound None k last named below = absurd (last k below named)
left-all names name bound (Some at) k last named below = elim (cases_lt at k) [ inl above ↦ absurd (last.2 k above below named) | inr not_above ↦ not_above ]

module _ (names : List Name) (name : Name) (Picks : ℕ → Type 0) where
  pub seen-start : (place : Option ℕ) → IsLast names name (length names) place → Seen names name Picks place None
  seen-start place last = λ k named gone picks. gone (left-all names name (length names) place k last named (slice_get_within names k name named))

  not_picked : (at : ℕ) (next : Option ℕ) → IsLast names name at next → ¬ Picks at → (k : ℕ) → slice_get names k ≡ Some name → ¬ IsLeft next k → (¬ IsLeft (Some at) k → ¬ Picks k) → ¬ Picks k
  not_picked at next last none k named gone before picks = elim (cases_lt k at) [
    | inl below ↦ gone (left-all names name at next k last named below)
    | inr from ↦ elim (cases_lt at k) [
      | inl above ↦ before (λ is. absurd (omega (arith, is, above))) picks
      | inr to ↦ none (subst Picks (let e : k ≡ at = omega (arith, from, to) in e) picks)
    ]
  ]

  pub seen-skip : (at : ℕ) (next found : Option ℕ) → IsLast names name at next → ¬ Picks at → Seen names name Picks (Some at) found → Seen names name Picks next found
  seen-skip at next None last none seen = λ k named gone. not_picked at next last none k named gone (seen k named)
  seen-skip at next (Some found) last none seen = (
    seen.0,
    seen.1,
    λ is. seen.2 (omega (arith, left-in next found is, left-below names name at next last)),
    λ k below named gone. not_picked at next last none k named gone (seen.3 k below named),
  )

  pub seen-take : (at : ℕ) (next : Option ℕ) → IsLast names name at next → slice_get names at ≡ Some name → Picks at → Seen names name Picks next (Some at)
  seen-take at next last named picks = (
    named,
    picks,
    λ is. absurd (omega (arith, left-in next at is, left-below names name at next last)),
    λ k below named_k gone picks_k. gone (left-all names name at next k last named_k below),
  )

  pub seen-end : (found : Option ℕ) → Seen names name Picks None found → PicksFirst (λ at. (slice_get names at ≡ Some name) × Picks at) found
  seen-end None seen = λ at both. seen at both.0 (λ left. left) both.1
  seen-end (Some found) seen = record {
    picked = (seen.0, seen.1);
    first = λ earlier below both. seen.3 earlier below both.0 (λ left. left) both.1;
  }

-- ---- a walk that stops at the first place that isn't picked

abbrev pub AllSeen : List Name → Name → (ℕ → Type 0) → Option ℕ → Type 0
AllSeen names name Picks place = (k : ℕ) → slice_get names k ≡ Some name → ¬ IsLeft place k → Picks k

module _ (names : List Name) (name : Name) (Picks : ℕ → Type 0) where
  pub all-start : (place : Option ℕ) → IsLast names name (length names) place → AllSeen names name Picks place
  all-start place last = λ k named gone. absurd (gone (left-all names name (length names) place k last named (slice_get_within names k name named)))

  pub all-step : (at : ℕ) (next : Option ℕ) → IsLast names name at next → Picks at → AllSeen names name Picks (Some at) → AllSeen names name Picks next
  all-step at next last here seen = λ k named gone. elim (cases_lt k at) [
    | inl below ↦ absurd (gone (left-all names name at next k last named below))
    | inr from ↦ elim (cases_lt at k) [
      | inl above ↦ seen k named (λ is. absurd (omega (arith, is, above)))
      | inr to ↦ subst Picks (let e : at ≡ k = omega (arith, from, to) in e) here
    ]
  ]

-- ---- what a table and a walk want of these

pub pushed : (links : List Link) (name key asked : Name) (before : Option ℕ) (at : ℕ) (last last' : BTreeMap Name ℕ) → KeepsNames links last → name ≡ asked → key ≡ asked → before ≡ tree.get (slice_cmp nat_cmp) last asked → at ≡ length links
    → Updates (slice_cmp nat_cmp) last last' key (Some at) → KeepsNames (links ++ record { name = name; before = before } ∷ []) last'
pushed links name key asked before at last last' keeps name_is key_is before_is at_is updates =
    KeepsNames-push links (record { name = name; before = before }) last last' keeps (before_is ∙ ap (tree.get (slice_cmp nat_cmp) last) (sym name_is))
    (subst (λ n. Gives last last' n (length links)) (key_is ∙ sym name_is) (subst (Gives last last' key) at_is (gives last last' key at updates)))

pub smaller : (names : List Name) (name : Name) (place next : Option ℕ) (at : ℕ) → place ≡ Some at → IsLast names name at next → left next < left place
smaller names name place next at is last = subst (λ p. left next < left p) (sym is) (omega (arith, left-below names name at next last))
