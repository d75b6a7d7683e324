-- Places, as names gain one.
use Rattle.std.proofs.Common.{◌≡◌, ◌≢◌, ◌⊎◌, ℕ, ◌+◌, ◌*◌, ◌%◌, ◌^◌, ◌<◌, List, [], ◌∷◌, ◌++◌, Contains, take, length, get_or, bytes_eq, nat_eq, Bool, false, true, is_some, if◌then◌else◌, Option, Some, None, Result, Ok, Err, OnErr, refl, sym, ap, subst, inl, inr, ◌∙◌, arith}
use Rattle.std.specs.Ordering.{nat_cmp}
use Rattle.std.specs.Cmp.Lexicographic.{slice_cmp}
use Rattle.std.specs.BTreeMap as tree
use Rattle.std.specs.BTreeMap.{BTreeMap, btree_map_len, is_at}
use Rattle.std.specs.Map.{lookup}
use Rattle.std.specs.declared.hash.FoldHasher.{FoldHasher}
use Rattle.std.specs.declared.hash.BuildHasherDefault.{BuildHasherDefault}
use Rattle.std.proofs.lemmas.Bool.{false_from_ne_true, cases_Bool, both_ways, eqb-true}
use Rattle.std.proofs.lemmas.Slice.Eq.{bytes_eq-Decides}
use Rattle.std.proofs.lemmas.List.{take_more}
use Rattle.std.proofs.lemmas.List.Sums.{fold_more}
use Rattle.std.proofs.lemmas.List.Elements.{Contains-push_cases, Contains-push, Contains-append_left}
use Rattle.std.proofs.lemmas.Map.Lookups.{exact_bytes}
use Rattle.std.proofs.lemmas.Map.Views.{tells_apart}
use Rattle.std.proofs.lemmas.Option.{none-some, same_Some}
use Rattle.indexmap.specs.IndexMap.{IndexMap, Updates, get, index_map_len}
use Rattle.dj_names.specs.Headers.{Name}
use Rattle.dj_headers.specs.declared.places.Placed.{Placed}
use Rattle.dj_headers.specs.declared.places.Places.{Places}
use Rattle.dj_headers.specs.Table.{digest, place_by, place_of, count, HasPlace, IsBehind, IsIndex, Extends, Keeps, Gains, HasNone}

pub same_name : (x y : Name) → (x ≡ y) ⊎ (x ≢ y)
same_name x y = elim (cases_Bool (bytes_eq x y)) [ inl is ↦ inl ((bytes_eq-Decides x y).0 is) | inr is ↦ inr (λ same. both_ways (bytes_eq x y) is ((bytes_eq-Decides x y).1 same)) ]

-- ---- a loop over names

pub Contains-take_cases : (names : List Name) (i : ℕ) (x y : Name) → i < length names → x ≡ get_or names i x → Contains (take (i + 1) names) y → Contains (take i names) y ⊎ (x ≡ y)
Contains-take_cases names i x y within is there =
    Contains-push_cases (take i names) x y (subst (λ (zs : List Name). Contains zs y) (take_more names i x within ∙ ap (λ (z : Name). take i names ++ z ∷ []) (sym is)) there)

pub Contains-take_more : (names : List Name) (i : ℕ) (x y : Name) → i < length names → x ≡ get_or names i x → Contains (take i names) y ⊎ (x ≡ y) → Contains (take (i + 1) names) y
Contains-take_more names i x y within is either =
    subst (λ (zs : List Name). Contains zs y) (sym (take_more names i x within ∙ ap (λ (z : Name). take i names ++ z ∷ []) (sym is)))
    (elim either [
      | inl before ↦ Contains-append_left (take i names) (x ∷ []) y before
      | inr same ↦ subst (λ (z : Name). Contains (take i names ++ x ∷ []) z) same (Contains-push (take i names) x)
    ])

-- ---- ordered maps

-- one name gets a number, and each other keeps its own
pub record Gives (old new : BTreeMap Name ℕ) (name : Name) (at : ℕ) : Type 0 where
  pub here : tree.get (slice_cmp nat_cmp) new name ≡ Some at
  pub apart : (other : Name) → name ≢ other → tree.get (slice_cmp nat_cmp) new other ≡ tree.get (slice_cmp nat_cmp) old other

pub gives : (old new : BTreeMap Name ℕ) (name : Name) (at : ℕ) → tree.Updates (slice_cmp nat_cmp) old new name (Some at) → Gives old new name at
gives old new name at updates = record {
  here = updates.1;
  apart = λ other ne. updates.2 other (false_from_ne_true (is_at (slice_cmp nat_cmp name) other) (λ is. ne (tells_apart exact_bytes name other is)));
}

-- ---- places

same_digest : (x y : Name) → (digest x ≡ digest y) ⊎ (nat_eq (digest x) (digest y) ≡ false)
same_digest x y = elim (cases_Bool (nat_eq (digest x) (digest y))) [ inl is ↦ inl (eqb-true (digest x) (digest y) is) | inr isnt ↦ inr isnt ]

-- the digest of one unit more
pub digest-more : (name : Name) (i : ℕ) → i < length name → digest (take (i + 1) name) ≡ ((digest (take i name) * 40503) % 2 ^ 16 + get_or name i 0) % 2 ^ 16
unfolding digest
digest-more name i within = fold_more (λ sum u. ((sum * 40503) % 2 ^ 16 + u) % 2 ^ 16) 0 name i 0 within

same_name_by : (x y : Name) → x ≡ y → bytes_eq x y ≡ true
same_name_by x y = (bytes_eq-Decides x y).1

other_name_by : (x y : Name) → x ≢ y → bytes_eq x y ≡ false
other_name_by x y ne = false_from_ne_true (bytes_eq x y) (λ is. ne ((bytes_eq-Decides x y).0 is))

-- what the first name of a digest tells
pub place_by-same : (first : Placed) (name : Name) (other : Option ℕ) → first.name ≡ name → place_by (Some first) name other ≡ Some first.at
place_by-same first name other same = ap (λ (b : Bool). if b then Some first.at else other) (same_name_by first.name name same)

pub place_by-other : (first : Placed) (name : Name) (other : Option ℕ) → first.name ≢ name → place_by (Some first) name other ≡ other
place_by-other first name other ne = ap (λ (b : Bool). if b then Some first.at else other) (other_name_by first.name name ne)

pub place-by : (places : Places) (name : Name) (found : Option Placed) → get nat_eq places.firsts (digest name) ≡ found → place_of places name ≡ place_by found name (tree.get (slice_cmp nat_cmp) places.others name)
unfolding place_of
place-by places name found is = ap (λ (f : Option Placed). place_by f name (tree.get (slice_cmp nat_cmp) places.others name)) is

-- a name that stands behind another gets its place among the others
module _ (old new : Places) (name : Name) (at : ℕ) (behind : IsBehind old (digest name) name) (firsts : new.firsts ≡ old.firsts)
    (updates : tree.Updates (slice_cmp nat_cmp) old.others new.others name (Some at)) where
  found : (other : Name) → get nat_eq new.firsts (digest other) ≡ get nat_eq old.firsts (digest other)
  found other = ap (λ (m : IndexMap ℕ Placed (BuildHasherDefault FoldHasher)). get nat_eq m (digest other)) firsts

  place-behind : place_of old name ≡ tree.get (slice_cmp nat_cmp) old.others name
  place-behind = place-by old name (Some behind.first) behind.is ∙ place_by-other behind.first name _ behind.differs

  pub Gains-behind : (was : Option ℕ) → was ≡ tree.get (slice_cmp nat_cmp) old.others name → btree_map_len new.others ≡ btree_map_len old.others + (if is_some was then 0 else 1) → Gains old new name at
  unfolding count
  Gains-behind was had size =
      let given = gives old.others new.others name at updates in
      record {
        here = place-by new name (Some behind.first) (found name ∙ behind.is) ∙ place_by-other behind.first name _ behind.differs ∙ given.here;
        apart = λ other ne.
            place-by new other (get nat_eq old.firsts (digest other)) (found other)
            ∙ ap (place_by (get nat_eq old.firsts (digest other)) other) (given.apart other ne)
            ∙ sym (place-by old other _ refl);
        more = λ none.
            let unknown : was ≡ None = had ∙ sym place-behind ∙ none in
            let one : btree_map_len new.others ≡ btree_map_len old.others + 1 = subst (λ (w : Option ℕ). btree_map_len new.others ≡ btree_map_len old.others + (if is_some w then 0 else 1)) unknown size in
            let same = ap (λ (m : IndexMap ℕ Placed (BuildHasherDefault FoldHasher)). index_map_len m) firsts in
            omega (arith, one, same);
      }

-- a name that stands behind none gets its place as the first of its digest
module _ (old new : Places) (name : Name) (at : ℕ) (ahead : ¬ IsBehind old (digest name) name) (others : new.others ≡ old.others)
    (updates : Updates nat_eq old.firsts new.firsts (digest name) (Some (record { name = name; at = at }))) where
  place-others : (other : Name) → tree.get (slice_cmp nat_cmp) new.others other ≡ tree.get (slice_cmp nat_cmp) old.others other
  place-others other = ap (λ (m : BTreeMap Name ℕ). tree.get (slice_cmp nat_cmp) m other) others

  -- what the digest had was nothing, or the name itself
  was_own : (first : Placed) → get nat_eq old.firsts (digest name) ≡ Some first → first.name ≡ name
  was_own first is = elim (same_name first.name name) [ inl same ↦ same | inr ne ↦ absurd (ahead (record { first = first; is = is; differs = ne })) ]

  place-apart : (other : Name) (found : Option Placed) → name ≢ other → get nat_eq old.firsts (digest name) ≡ found → digest name ≡ digest other → place_of old other ≡ tree.get (slice_cmp nat_cmp) old.others other
  place-apart other None ne is same = place-by old other None (ap (get nat_eq old.firsts) (sym same) ∙ is)
  place-apart other (Some first) ne is same =
      place-by old other (Some first) (ap (get nat_eq old.firsts) (sym same) ∙ is) ∙ place_by-other first other _ (λ own. ne (sym (was_own first is) ∙ own))

  apart-first : (other : Name) → name ≢ other → (digest name ≡ digest other) ⊎ (nat_eq (digest name) (digest other) ≡ false) → place_of new other ≡ place_of old other
  apart-first other ne (inl same) =
      place-by new other (Some (record { name = name; at = at })) (ap (get nat_eq new.firsts) (sym same) ∙ updates.1) ∙ place_by-other (record { name = name; at = at }) other _ ne
      ∙ place-others other ∙ sym (place-apart other _ ne refl same)
  apart-first other ne (inr differs) =
      place-by new other (get nat_eq old.firsts (digest other)) (updates.2 (digest other) differs)
      ∙ ap (place_by (get nat_eq old.firsts (digest other)) other) (place-others other) ∙ sym (place-by old other _ refl)

  none-first : (found : Option Placed) → get nat_eq old.firsts (digest name) ≡ found → place_of old name ≡ None → found ≡ None
  none-first None is none = refl
  none-first (Some first) is none = absurd (none-some first.at (sym none ∙ place-by old name (Some first) is ∙ place_by-same first name _ (was_own first is)))

  gains_first : (was : Option Placed) → was ≡ get nat_eq old.firsts (digest name) → index_map_len new.firsts ≡ index_map_len old.firsts + (if is_some was then 0 else 1) → Gains old new name at
  unfolding count
  gains_first was had size = record {
    here = place-by new name (Some (record { name = name; at = at })) updates.1 ∙ place_by-same (record { name = name; at = at }) name _ refl;
    apart = λ other ne. apart-first other ne (same_digest name other);
    more = λ none.
        let unknown : was ≡ None = had ∙ none-first _ refl none in
        let one : index_map_len new.firsts ≡ index_map_len old.firsts + 1 = subst (λ (w : Option Placed). index_map_len new.firsts ≡ index_map_len old.firsts + (if is_some w then 0 else 1)) unknown size in
        let same = ap btree_map_len others in
        omega (arith, one, same);
  }

pub Gains-first : (old new : Places) (name : Name) (at d : ℕ) → d ≡ digest name → ¬ IsBehind old d name → new.others ≡ old.others → Updates nat_eq old.firsts new.firsts d (Some (record { name = name; at = at }))
    → (was : Option Placed) → was ≡ get nat_eq old.firsts d → index_map_len new.firsts ≡ index_map_len old.firsts + (if is_some was then 0 else 1) → Gains old new name at
Gains-first old new name at d is =
    subst (λ (k : ℕ). ¬ IsBehind old k name → new.others ≡ old.others → Updates nat_eq old.firsts new.firsts k (Some (record { name = name; at = at }))
    → (was : Option Placed) → was ≡ get nat_eq old.firsts k → index_map_len new.firsts ≡ index_map_len old.firsts + (if is_some was then 0 else 1) → Gains old new name at) (sym is)
    (gains_first old new name at)

pub on_err : {T E P : Type 0} (r : Result T E) → P → OnErr r P
on_err (Ok value) p = tt
on_err (Err error) p = p

-- maps that have the entries they had keep all places
pub Keeps-entries : (old new : Places) → new.firsts.entries ≡ old.firsts.entries → new.others.entries ≡ old.others.entries → Keeps old new
unfolding place_of count
Keeps-entries old new firsts others = record {
  places = λ name.
      ap (λ (es : List (ℕ × Placed)). place_by (lookup (nat_eq (digest name)) es) name (tree.get (slice_cmp nat_cmp) new.others name)) firsts
      ∙ ap (λ (es : List (Name × ℕ)). place_by (lookup (nat_eq (digest name)) old.firsts.entries) name (lookup (is_at (slice_cmp nat_cmp name)) es)) others;
  count = let first = ap (λ (es : List (ℕ × Placed)). length es) firsts in let other = ap (λ (es : List (Name × ℕ)). length es) others in omega (arith, first, other);
}

pub HasNone-entries : (places : Places) → places.firsts.entries ≡ [] → places.others.entries ≡ [] → HasNone places
unfolding place_of
HasNone-entries places firsts others = λ name.
    ap (λ (es : List (ℕ × Placed)). place_by (lookup (nat_eq (digest name)) es) name (tree.get (slice_cmp nat_cmp) places.others name)) firsts
    ∙ ap (lookup (is_at (slice_cmp nat_cmp name))) others

pub Extends-gains : (old new : Places) (name : Name) (at : ℕ) → place_of old name ≡ None → Gains old new name at → Extends old new
Extends-gains old new name at none given other i is =
    given.apart other (λ same. none-some i (sym none ∙ (ap (place_of old) same ∙ is))) ∙ is

pub Extends-keeps : (old new : Places) → Keeps old new → Extends old new
Extends-keeps old new keeps name at is = keeps.places name ∙ is

pub IsIndex-keeps : (old new : Places) → Keeps old new → IsIndex old → IsIndex new
IsIndex-keeps old new keeps index = record {
  one_name = λ first second at one two. index.one_name first second at (sym (keeps.places first) ∙ one) (sym (keeps.places second) ∙ two);
  below = λ name at is. (let low = index.below name at (sym (keeps.places name) ∙ is) in let same = keeps.count in omega arith);
}

pub IsIndex-gains : (old new : Places) (name : Name) → place_of old name ≡ None → Gains old new name (count old) → IsIndex old → IsIndex new
IsIndex-gains old new name none given index =
    let n = count old in
    let size : count new ≡ n + 1 = given.more none in
    let fresh : (other : Name) (at : ℕ) → place_of new other ≡ Some at → ((name ≡ other) × (at ≡ n)) ⊎ (place_of old other ≡ Some at) = λ other at is.
    elim (same_name name other) [
      | inl same ↦ inl (same, sym (same_Some n at (sym given.here ∙ (ap (place_of new) same ∙ is))))
      | inr apart ↦ inr (sym (given.apart other apart) ∙ is)
    ] in
    record {
      one_name = λ first second at one two. elim (fresh first at one) [
        | inl first_new ↦ elim (fresh second at two) [
          | inl second_new ↦ sym first_new.0 ∙ second_new.0
          | inr second_old ↦ absurd (let low = index.below second at second_old in let high = first_new.1 in omega arith)
        ]
        | inr first_old ↦ elim (fresh second at two) [
          | inl second_new ↦ absurd (let low = index.below first at first_old in let high = second_new.1 in omega arith)
          | inr second_old ↦ index.one_name first second at first_old second_old
        ]
      ];
      below = λ other at is. elim (fresh other at is) [
        | inl new_one ↦ (let high = new_one.1 in omega arith)
        | inr old_one ↦ (let low = index.below other at old_one in omega arith)
      ];
    }

pub HasPlace-extends : (old new : Places) (name : Name) → Extends old new → HasPlace old name → HasPlace new name
HasPlace-extends old new name extends has = record { at = has.at; is = extends name has.at has.is }

pub HasPlace-more : (old new : Places) (names : List Name) (i : ℕ) (x : Name) (at : ℕ) → i < length names → x ≡ get_or names i x → Extends old new → place_of new x ≡ Some at
    → ((name : Name) → Contains (take i names) name → HasPlace old name) → (name : Name) → Contains (take (i + 1) names) name → HasPlace new name
HasPlace-more old new names i x at within is extends here known name there = elim (Contains-take_cases names i x name within is there) [
  | inl before ↦ HasPlace-extends old new name extends (known name before)
  | inr same ↦ record { at = at; is = ap (place_of new) (sym same) ∙ here }
]

-- names that compare as different
pub apart_names : (x y : Name) (b : Bool) → b ≡ bytes_eq x y → b ≡ false → x ≢ y
apart_names x y b is isnt same = both_ways b isnt (is ∙ (bytes_eq-Decides x y).1 same)

pub IsIndex-empty : (places : Places) → HasNone places → IsIndex places
IsIndex-empty places empty = record {
  one_name = λ first second at one two. absurd (none-some at (sym (empty first) ∙ one));
  below = λ name at is. absurd (none-some at (sym (empty name) ∙ is));
}
