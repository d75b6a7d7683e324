-- What the tables of keys tell of the methods.
use Rattle.std.proofs.Common.{◌≡◌, ◌≢◌, ◌⊎◌, ◌↔◌, ℕ, zero, suc, ◌<◌, Bool, true, false, IsTrue, List, [], ◌∷◌, ◌++◌, length, Option, Some, None, IsSomeAnd, slice_get, refl, sym, ap, subst, inl, inr, ◌∙◌, arith}
use Rattle.std.proofs.lemmas.Bool.{cases_eq, both_ways}
use Rattle.dj_class.specs.Described.{MethodOf}
use Rattle.dj_members.proofs.ChainLemmas.{get-cases}
use Rattle.dj_members.specs.Picks.{IsFirstPick}
use Rattle.dj_kinds.specs.Own.{IsFirst}
use Rattle.dj_kinds.specs.Single.{first_one}
use Rattle.dj_signatures.specs.declared.keys.Key.{Key}
use Rattle.dj_signatures.specs.Signatures.{IsTwin, IsAlike, IsAlikeAndPlain, Counts, HasTwin, IsUncounted, HasRival}
use Rattle.dj_signatures.specs.Keys.{IsKey, AreKeys}
use Rattle.dj_signatures.specs.Standing.{twin_of, alike_of, At, Repeats, IsPlain, LeadsBy}
use Rattle.dj_signatures.proofs.KeyLemmas.{alike_keys, twin_keys}

-- ---- one that counts

module _ (methods : List MethodOf) (method : MethodOf) where
  counts_one : (one other : ℕ) → Counts methods method one → Counts methods method other → one ≡ other
  counts_one one other (inl a) (inl b) = first_one (IsAlikeAndPlain method) methods one other a b
  counts_one one other (inl a) (inr b) = absurd (b.0 one a)
  counts_one one other (inr a) (inl b) = absurd (a.0 other b)
  counts_one one other (inr a) (inr b) = first_one (IsAlike method) methods one other a.1 b.1

-- ---- places in two lists

both_at : (Q : Key → Type 0) (R : MethodOf → Type 0) (methods : List MethodOf) (keys : List Key) → length keys ≡ length methods
    → ((at : ℕ) (m : MethodOf) (k : Key) → slice_get methods at ≡ Some m → slice_get keys at ≡ Some k → Q k ↔ R m) → (at : ℕ) → At Q keys at ↔ At R methods at
both_at Q R [] [] size each zero = (λ here. here, λ here. here)
both_at Q R [] [] size each (suc at) = (λ here. here, λ here. here)
both_at Q R [] (k ∷ keys) size each at = absurd (omega (arith, size))
both_at Q R (m ∷ methods) [] size each at = absurd (omega (arith, size))
both_at Q R (m ∷ methods) (k ∷ keys) size each zero = each 0 m k refl refl
both_at Q R (m ∷ methods) (k ∷ keys) size each (suc at) = both_at Q R methods keys (omega (arith, size)) (λ at. each (suc at)) at

record Found (R : MethodOf → Type 0) (methods : List MethodOf) (at : ℕ) : Type 0 where
  item : MethodOf
  is : slice_get methods at ≡ Some item
  holds : R item

found : (R : MethodOf → Type 0) (methods : List MethodOf) (at : ℕ) → At R methods at → Found R methods at
found R methods at here = go (slice_get methods at) refl here
  where
    go : (o : Option MethodOf) → slice_get methods at ≡ o → IsSomeAnd o R → Found R methods at
    go None is holds = absurd holds
    go (Some m) is holds = record { item = m; is = is; holds = holds }

at_item : (R : MethodOf → Type 0) (methods : List MethodOf) (at : ℕ) (m : MethodOf) → slice_get methods at ≡ Some m → R m → At R methods at
at_item R methods at m is holds = subst (λ (o : Option MethodOf). IsSomeAnd o R) (sym is) holds

at_key : (Q : Key → Type 0) (keys : List Key) (at : ℕ) (k : Key) → slice_get keys at ≡ Some k → Q k → At Q keys at
at_key Q keys at k is holds = subst (λ (o : Option Key). IsSomeAnd o Q) (sym is) holds

first_of : (R : MethodOf → Type 0) (methods : List MethodOf) (at : ℕ) → IsFirstPick (At R methods) at → IsFirst R methods at
first_of R methods at first =
    let here = found R methods at first.picked in
    record {
      item = here.item;
      is = here.is;
      holds = here.holds;
      first = λ earlier other below is holds. first.first earlier below (at_item R methods earlier other is holds);
    }

first_both : (P Q : ℕ → Type 0) (at : ℕ) → ((k : ℕ) → P k ↔ Q k) → IsFirstPick P at → IsFirstPick Q at
first_both P Q at same first = record { picked = (same at).0 first.picked; first = λ earlier below holds. first.first earlier below ((same earlier).1 holds) }

-- ---- what the tables tell

module _ (methods : List MethodOf) (keys : List Key) (at : ℕ) (method : MethodOf) (key : Key) (are : AreKeys methods keys) (is : slice_get methods at ≡ Some method) (has : slice_get keys at ≡ Some key) where
  own : IsKey are.numbers method key
  own = are.each at method key is has

  alike_at : (k : ℕ) → At (λ (x : Key). alike_of x ≡ alike_of key) keys k ↔ At (IsAlike method) methods k
  alike_at = both_at (λ (x : Key). alike_of x ≡ alike_of key) (IsAlike method) methods keys are.size
      (λ k m x m_is x_is. alike_keys are.numbers are.index method m key x own (are.each k m x m_is x_is))

  plain_at : (k : ℕ) → At (IsPlain (alike_of key)) keys k ↔ At (IsAlikeAndPlain method) methods k
  plain_at = both_at (IsPlain (alike_of key)) (IsAlikeAndPlain method) methods keys are.size (λ k m x m_is x_is.
      (let other = are.each k m x m_is x_is in
      let alike = alike_keys are.numbers are.index method m key x own other in
      (λ plain. (alike.0 plain.0, λ bridge. plain.1 (other.bridge.1 bridge)), λ plain. (alike.1 plain.0, λ bridge. plain.1 (other.bridge.0 bridge)))))

  twin_at : (k : ℕ) → At (λ (x : Key). twin_of x ≡ twin_of key) keys k ↔ At (IsTwin method) methods k
  twin_at = both_at (λ (x : Key). twin_of x ≡ twin_of key) (IsTwin method) methods keys are.size
      (λ k m x m_is x_is. twin_keys are.numbers are.index method m key x own (are.each k m x m_is x_is))

  counts_at : (place : ℕ) (plain : Bool) → LeadsBy keys (alike_of key) place plain → Counts methods method place
  counts_at place true first =
      inl (first_of (IsAlikeAndPlain method) methods place (first_both (At (IsPlain (alike_of key)) keys) (At (IsAlikeAndPlain method) methods) place plain_at first))
  counts_at place false first = inr (
    λ other plain. first.0 other ((plain_at other).1 (at_item (IsAlikeAndPlain method) methods other plain.item plain.is plain.holds)),
    first_of (IsAlike method) methods place (first_both (At (λ (x : Key). alike_of x ≡ alike_of key) keys) (At (IsAlike method) methods) place alike_at first.1),
  )

  pub uncounted_by : (place : ℕ) (plain : Bool) (result : Bool) → LeadsBy keys (alike_of key) place plain → IsTrue result ↔ (place ≢ at) → IsTrue result ↔ IsUncounted methods at method
  uncounted_by place plain result first same =
      let counts = counts_at place plain first in (
        λ yes. record { other = place; elsewhere = same.0 yes; counts = counts },
        λ uncounted. same.1 (λ here. uncounted.elsewhere (counts_one methods method uncounted.other place uncounted.counts counts ∙ here)),
      )

  pub leader_there : ¬ ((k : ℕ) → ¬ At (λ (x : Key). alike_of x ≡ alike_of key) keys k)
  leader_there none = none at (at_key (λ (x : Key). alike_of x ≡ alike_of key) keys at key has refl)

  pub twin_there : ¬ ((k : ℕ) → ¬ At (λ (x : Key). twin_of x ≡ twin_of key) keys k)
  twin_there none = none at (at_key (λ (x : Key). twin_of x ≡ twin_of key) keys at key has refl)

  twin_of_place : (other : ℕ) → other ≢ at → At (λ (x : Key). twin_of x ≡ twin_of key) keys other → HasTwin methods at method
  twin_of_place other elsewhere here =
      let there = found (IsTwin method) methods other ((twin_at other).0 here) in
      record { other = other; elsewhere = elsewhere; found = there.item; there = there.is; twin = there.holds }

  pub twin_by : (again : Bool) → Repeats keys (twin_of key) (Some again) → IsTrue again ↔ HasTwin methods at method
  twin_by false one = (
    λ yes. absurd (both_ways false refl yes),
    λ twin. absurd (twin.elsewhere (one.only twin.other ((twin_at twin.other).1 (at_item (IsTwin method) methods twin.other twin.found twin.there twin.twin))
        ∙ sym (one.only at (at_key (λ (x : Key). twin_of x ≡ twin_of key) keys at key has refl)))),
  )
  twin_by true two = (
    λ yes. elim (cases_eq two.first at) [
      | inl here ↦ twin_of_place two.second (λ there. two.apart (here ∙ sym there)) two.other
      | inr elsewhere ↦ twin_of_place two.first elsewhere two.one
    ],
    λ twin. refl,
  )

-- whether each has a rival, with one more
pub rivals_more : (methods : List MethodOf) (keys : List Key) (at : ℕ) (key : Key) (rivals : List Bool) (rival : Bool) → AreKeys methods keys → slice_get keys at ≡ Some key → length rivals ≡ at
    → ((method : MethodOf) → slice_get methods at ≡ Some method → slice_get keys at ≡ Some key → IsTrue rival ↔ HasRival methods at method)
    → ((k : ℕ) (method : MethodOf) (r : Bool) → slice_get methods k ≡ Some method → slice_get rivals k ≡ Some r → IsTrue r ↔ HasRival methods k method)
    → (k : ℕ) (method : MethodOf) (r : Bool) → slice_get methods k ≡ Some method → slice_get (rivals ++ rival ∷ []) k ≡ Some r → IsTrue r ↔ HasRival methods k method
rivals_more methods keys at key rivals rival are here size one each k method r is has = elim (get-cases rivals rival k r has) [
  | inl before ↦ each k method r is before
  | inr last ↦
      let place : k ≡ at = last.0 ∙ size in
      let there = one method (subst (λ (n : ℕ). slice_get methods n ≡ Some method) place is) here in
      subst (λ (b : Bool). IsTrue b ↔ HasRival methods k method) last.1 (subst (λ (n : ℕ). IsTrue rival ↔ HasRival methods n method) (sym place) there)
]
