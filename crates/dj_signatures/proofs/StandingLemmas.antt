-- Keys as one more is added, and the tables that follow them.
use Rattle.std.proofs.Common.{◌≡◌, ◌≢◌, ◌⊎◌, ◌↔◌, ℕ, zero, suc, ◌+◌, ◌<◌, take, get_or, Bool, true, false, not, IsTrue, List, [], ◌∷◌, ◌++◌, length, Option, Some, None, is_some, slice_get, refl, sym, ap, subst, inl, inr, ◌∙◌, arith}
use Rattle.std.specs.Ordering.{nat_cmp}
use Rattle.std.specs.BTreeMap.{BTreeMap, get, is_at, Updates, IsEmpty}
use Rattle.std.specs.Map.{lookup}
use Rattle.std.proofs.lemmas.Bool.{cases_Bool, cases_eq, both_ways, false_from_ne_true}
use Rattle.std.proofs.lemmas.List.{take_more}
use Rattle.std.proofs.lemmas.Option.{slice_get-get_or, get_or_from_slice_get}
use Rattle.std.proofs.lemmas.Map.Lookups.{exact_unsigned, exact_pairs}
use Rattle.std.proofs.lemmas.Map.Views.{tells_apart}
use Rattle.dj_members.specs.Picks.{IsFirstPick}
use Rattle.dj_signatures.specs.declared.keys.Key.{Key}
use Rattle.dj_signatures.specs.declared.standing.Leader.{Leader}
use Rattle.dj_signatures.specs.Standing.{pair_cmp, twin_of, alike_of, At, AreTwo, IsOne, Repeats, IsPlain, LeadsBy, Leads}

-- the first items, with one more
pub one_longer : {A : Type 0} (xs : List A) (i : ℕ) (x : A) → i < length xs → x ≡ get_or xs i x → take (i + 1) xs ≡ take i xs ++ x ∷ []
one_longer xs i x within is = take_more xs i x within ∙ ap (λ y. take i xs ++ y ∷ []) (sym is)

pub item_is : {A : Type 0} (xs : List A) (i : ℕ) (d : A) → i < length xs → get_or xs i d ≡ get_or xs i (get_or xs i d)
item_is xs i d within = sym (get_or_from_slice_get xs i (get_or xs i d) (get_or xs i d) (slice_get-get_or xs i d within))

-- ---- places of which something holds

pub at-within : {A : Type 0} (Q : A → Type 0) (xs : List A) (k : ℕ) → At Q xs k → k < length xs
at-within Q [] zero here = absurd here
at-within Q [] (suc k) here = absurd here
at-within Q (x ∷ xs) zero here = omega arith
at-within Q (x ∷ xs) (suc k) here = let below = at-within Q xs k here in omega (arith, below)

at-cases : {A : Type 0} (Q : A → Type 0) (xs : List A) (y : A) (k : ℕ) → At Q (xs ++ y ∷ []) k → At Q xs k ⊎ ((k ≡ length xs) × Q y)
at-cases Q [] y zero here = inr (refl, here)
at-cases Q [] y (suc k) here = absurd here
at-cases Q (x ∷ xs) y zero here = inl here
at-cases Q (x ∷ xs) y (suc k) here = elim (at-cases Q xs y k here) [ inl before ↦ inl before | inr last ↦ inr (ap suc last.0, last.1) ]

at-before : {A : Type 0} (Q : A → Type 0) (xs : List A) (y : A) (k : ℕ) → At Q xs k → At Q (xs ++ y ∷ []) k
at-before Q [] y zero here = absurd here
at-before Q [] y (suc k) here = absurd here
at-before Q (x ∷ xs) y zero here = here
at-before Q (x ∷ xs) y (suc k) here = at-before Q xs y k here

at-last : {A : Type 0} (Q : A → Type 0) (xs : List A) (y : A) → Q y → At Q (xs ++ y ∷ []) (length xs)
at-last Q [] y holds = holds
at-last Q (x ∷ xs) y holds = at-last Q xs y holds

at-more : {A : Type 0} (Q R : A → Type 0) (xs : List A) (k : ℕ) → ((x : A) → Q x → R x) → At Q xs k → At R xs k
at-more Q R [] zero more here = absurd here
at-more Q R [] (suc k) more here = absurd here
at-more Q R (x ∷ xs) zero more here = more x here
at-more Q R (x ∷ xs) (suc k) more here = at-more Q R xs k more here

first-push : {A : Type 0} (Q : A → Type 0) (xs : List A) (y : A) (k : ℕ) → IsFirstPick (At Q xs) k → IsFirstPick (At Q (xs ++ y ∷ [])) k
first-push Q xs y k first = record {
  picked = at-before Q xs y k first.picked;
  first = λ earlier below here. elim (at-cases Q xs y earlier here) [
    | inl before ↦ first.first earlier below before
    | inr last ↦ (let within = at-within Q xs k first.picked in let is = last.0 in omega (arith, below, within, is))
  ];
}

first-last : {A : Type 0} (Q : A → Type 0) (xs : List A) (y : A) → ((k : ℕ) → ¬ At Q xs k) → Q y → IsFirstPick (At Q (xs ++ y ∷ [])) (length xs)
first-last Q xs y none holds = record {
  picked = at-last Q xs y holds;
  first = λ earlier below here. elim (at-cases Q xs y earlier here) [ inl before ↦ none earlier before | inr last ↦ (let is = last.0 in omega (arith, below, is)) ];
}

none-push : {A : Type 0} (Q : A → Type 0) (xs : List A) (y : A) → ((k : ℕ) → ¬ At Q xs k) → ¬ Q y → (k : ℕ) → ¬ At Q (xs ++ y ∷ []) k
none-push Q xs y none apart k here = elim (at-cases Q xs y k here) [ inl before ↦ none k before | inr last ↦ apart last.1 ]

-- ---- maps by pairs

pair_of : (a b c d : ℕ) → a ≡ b → c ≡ d → ◌≡◌ {A = ℕ × ℕ} (a, c) (b, d)
pair_of a b c d first second = cc

pub same_pair : (x y : ℕ × ℕ) → (x ≡ y) ⊎ (x ≢ y)
same_pair x y = elim (cases_eq x.0 y.0) [
  | inl first ↦ elim (cases_eq x.1 y.1) [
    | inl second ↦ inl (pair_of x.0 y.0 x.1 y.1 first second)
    | inr apart ↦ inr (λ same. apart (ap (λ (p : ℕ × ℕ). p.1) same))
  ]
  | inr apart ↦ inr (λ same. apart (ap (λ (p : ℕ × ℕ). p.0) same))
]

-- one pair gets a value, and each other keeps its own
pub record Sets {V : Type 0} (old new : BTreeMap (ℕ × ℕ) V) (pair : ℕ × ℕ) (value : V) : Type 0 where
  pub here : get pair_cmp new pair ≡ Some value
  pub apart : (other : ℕ × ℕ) → pair ≢ other → get pair_cmp new other ≡ get pair_cmp old other

pub sets : {V : Type 0} (old new : BTreeMap (ℕ × ℕ) V) (pair : ℕ × ℕ) (value : V) → Updates pair_cmp old new pair (Some value) → Sets old new pair value
sets old new pair value updates = record {
  here = updates.1;
  apart = λ other ne. updates.2 other (false_from_ne_true (is_at (pair_cmp pair) other) (λ is. ne (tells_apart (exact_pairs nat_cmp nat_cmp exact_unsigned exact_unsigned) pair other is)));
}

pub none_yet : {V : Type 0} (table : BTreeMap (ℕ × ℕ) V) (pair : ℕ × ℕ) → IsEmpty table → get pair_cmp table pair ≡ None
none_yet table pair empty = ap (lookup (is_at (pair_cmp pair))) empty

at-nothing : {A : Type 0} (Q : A → Type 0) (k : ℕ) → ¬ At Q [] k
at-nothing Q zero here = here
at-nothing Q (suc k) here = here

-- ---- names and descriptors that stand more than once

-- no key repeats, and none leads, where there is none
pub repeats-start : (table : BTreeMap (ℕ × ℕ) Bool) → IsEmpty table → (pair : ℕ × ℕ) → Repeats [] pair (get pair_cmp table pair)
repeats-start table empty pair = subst (Repeats [] pair) (sym (none_yet table pair empty)) (at-nothing (λ (k : Key). twin_of k ≡ pair))

pub leads-start : (table : BTreeMap (ℕ × ℕ) Leader) → IsEmpty table → (pair : ℕ × ℕ) → Leads [] pair (get pair_cmp table pair)
leads-start table empty pair = subst (Leads [] pair) (sym (none_yet table pair empty)) (at-nothing (λ (k : Key). alike_of k ≡ pair))

module _ (keys : List Key) (key : Key) where
  repeats-other : (pair : ℕ × ℕ) (found : Option Bool) → twin_of key ≢ pair → Repeats keys pair found → Repeats (keys ++ key ∷ []) pair found
  repeats-other pair None apart none = none-push (λ (k : Key). twin_of k ≡ pair) keys key none apart
  repeats-other pair (Some false) apart one = record {
    at = one.at;
    here = at-before (λ (k : Key). twin_of k ≡ pair) keys key one.at one.here;
    only = λ other here. elim (at-cases (λ (k : Key). twin_of k ≡ pair) keys key other here) [ inl before ↦ one.only other before | inr last ↦ absurd (apart last.1) ];
  }
  repeats-other pair (Some true) apart two = record {
    first = two.first;
    second = two.second;
    apart = two.apart;
    one = at-before (λ (k : Key). twin_of k ≡ pair) keys key two.first two.one;
    other = at-before (λ (k : Key). twin_of k ≡ pair) keys key two.second two.other;
  }

  two-now : (at : ℕ) → At (λ (k : Key). twin_of k ≡ twin_of key) keys at → AreTwo (At (λ (k : Key). twin_of k ≡ twin_of key) (keys ++ key ∷ []))
  two-now at here = record {
    first = at;
    second = length keys;
    apart = λ same. (let within = at-within (λ (k : Key). twin_of k ≡ twin_of key) keys at here in omega (arith, within, same));
    one = at-before (λ (k : Key). twin_of k ≡ twin_of key) keys key at here;
    other = at-last (λ (k : Key). twin_of k ≡ twin_of key) keys key refl;
  }

  repeats-here : (found : Option Bool) → Repeats keys (twin_of key) found → Repeats (keys ++ key ∷ []) (twin_of key) (Some (is_some found))
  repeats-here None none = record {
    at = length keys;
    here = at-last (λ (k : Key). twin_of k ≡ twin_of key) keys key refl;
    only = λ other here. elim (at-cases (λ (k : Key). twin_of k ≡ twin_of key) keys key other here) [ inl before ↦ absurd (none other before) | inr last ↦ last.0 ];
  }
  repeats-here (Some false) one = two-now one.at one.here
  repeats-here (Some true) two = two-now two.first two.one

  pub repeats-more : (old new : BTreeMap (ℕ × ℕ) Bool) (again : Bool) → again ≡ is_some (get pair_cmp old (twin_of key)) → Sets old new (twin_of key) again
      → ((pair : ℕ × ℕ) → Repeats keys pair (get pair_cmp old pair)) → (pair : ℕ × ℕ) → Repeats (keys ++ key ∷ []) pair (get pair_cmp new pair)
  repeats-more old new again is set before pair = elim (same_pair (twin_of key) pair) [
    | inl same ↦ subst (λ (p : ℕ × ℕ). Repeats (keys ++ key ∷ []) p (get pair_cmp new p)) same
        (subst (Repeats (keys ++ key ∷ []) (twin_of key)) (ap Some (sym is) ∙ sym set.here) (repeats-here (get pair_cmp old (twin_of key)) (before (twin_of key))))
    | inr apart ↦ subst (Repeats (keys ++ key ∷ []) pair) (sym (set.apart pair apart)) (repeats-other pair (get pair_cmp old pair) apart (before pair))
  ]

-- ---- the place that counts

module _ (keys : List Key) (key : Key) where
  leads_by-other : (pair : ℕ × ℕ) (at : ℕ) (plain : Bool) → alike_of key ≢ pair → LeadsBy keys pair at plain → LeadsBy (keys ++ key ∷ []) pair at plain
  leads_by-other pair at true apart first = first-push (IsPlain pair) keys key at first
  leads_by-other pair at false apart first =
      (none-push (IsPlain pair) keys key first.0 (λ plain. apart plain.0), first-push (λ (k : Key). alike_of k ≡ pair) keys key at first.1)

  leads-other : (pair : ℕ × ℕ) (found : Option Leader) → alike_of key ≢ pair → Leads keys pair found → Leads (keys ++ key ∷ []) pair found
  leads-other pair None apart none = none-push (λ (k : Key). alike_of k ≡ pair) keys key none apart
  leads-other pair (Some leader) apart first = leads_by-other pair leader.at leader.plain apart first

  -- the first of all is the one behind them
  pub leads-first : (at : ℕ) (plain : Bool) → length keys ≡ at → plain ≡ not key.bridge → Leads keys (alike_of key) None → LeadsBy (keys ++ key ∷ []) (alike_of key) at plain
  leads-first at plain size is none = subst (λ (n : ℕ). LeadsBy (keys ++ key ∷ []) (alike_of key) n plain) size (subst (LeadsBy (keys ++ key ∷ []) (alike_of key) (length keys)) (sym is) (elim (cases_Bool key.bridge) [
    | inl bridge ↦ subst (λ (b : Bool). LeadsBy (keys ++ key ∷ []) (alike_of key) (length keys) (not b)) (sym bridge)
        (none-push (IsPlain (alike_of key)) keys key no_plain (λ plain. plain.1 bridge), first-last (λ (k : Key). alike_of k ≡ alike_of key) keys key none refl)
    | inr plain ↦ subst (λ (b : Bool). LeadsBy (keys ++ key ∷ []) (alike_of key) (length keys) (not b)) (sym plain)
        (first-last (IsPlain (alike_of key)) keys key no_plain (refl, λ bridge. both_ways key.bridge plain bridge))
  ]))
    where
      no_plain : (k : ℕ) → ¬ At (IsPlain (alike_of key)) keys k
      no_plain k here = none k (at-more (IsPlain (alike_of key)) (λ (x : Key). alike_of x ≡ alike_of key) keys k (λ x plain. plain.0) here)

  -- one that is no bridge takes over from one that is
  pub leads-over : (before at : ℕ) → length keys ≡ at → key.bridge ≡ false → LeadsBy keys (alike_of key) before false → LeadsBy (keys ++ key ∷ []) (alike_of key) at true
  leads-over before at size plain first = subst (λ (n : ℕ). LeadsBy (keys ++ key ∷ []) (alike_of key) n true) size
      (first-last (IsPlain (alike_of key)) keys key first.0 (refl, λ bridge. both_ways key.bridge plain bridge))

  -- one that is no bridge stays, and behind a bridge each does
  pub leads-on : (before : ℕ) (plain : Bool) → (plain ≡ true) ⊎ (key.bridge ≡ true) → LeadsBy keys (alike_of key) before plain → LeadsBy (keys ++ key ∷ []) (alike_of key) before plain
  leads-on before true either first = first-push (IsPlain (alike_of key)) keys key before first
  leads-on before false (inl is) first = absurd (both_ways false refl is)
  leads-on before false (inr bridge) first =
      (none-push (IsPlain (alike_of key)) keys key first.0 (λ plain. plain.1 bridge), first-push (λ (k : Key). alike_of k ≡ alike_of key) keys key before first.1)

  pub leads-more : (old new : BTreeMap (ℕ × ℕ) Leader) (leader : Leader) → Leads (keys ++ key ∷ []) (alike_of key) (Some leader) → Sets old new (alike_of key) leader
      → ((pair : ℕ × ℕ) → Leads keys pair (get pair_cmp old pair)) → (pair : ℕ × ℕ) → Leads (keys ++ key ∷ []) pair (get pair_cmp new pair)
  leads-more old new leader here set before pair = elim (same_pair (alike_of key) pair) [
    | inl same ↦ subst (λ (p : ℕ × ℕ). Leads (keys ++ key ∷ []) p (get pair_cmp new p)) same (subst (Leads (keys ++ key ∷ []) (alike_of key)) (sym set.here) here)
    | inr apart ↦ subst (Leads (keys ++ key ∷ []) pair) (sym (set.apart pair apart)) (leads-other pair (get pair_cmp old pair) apart (before pair))
  ]
