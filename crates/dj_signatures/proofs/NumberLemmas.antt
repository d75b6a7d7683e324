-- Numbers, as texts gain one.
use Rattle.std.proofs.Common.{◌≡◌, ◌⊎◌, ℕ, ◌+◌, is_some, if◌then◌else◌, Option, Some, None, sym, ap, subst, inl, inr, ◌∙◌, arith}
use Rattle.std.specs.Ordering.{nat_cmp}
use Rattle.std.specs.Cmp.Lexicographic.{slice_cmp}
use Rattle.std.specs.BTreeMap.{btree_map_len, Updates}
use Rattle.std.proofs.lemmas.Option.{none-some, same_Some}
use Rattle.dj_names.specs.Headers.{Name}
use Rattle.dj_headers.proofs.PlaceLemmas.{Gives, gives, same_name}
use Rattle.dj_signatures.specs.Numbers.{Numbers, number_of, AreNumbers, Extends}

pub Extends-gives : (old new : Numbers) (name : Name) (at : ℕ) → number_of old name ≡ None → Gives old new name at → Extends old new
Extends-gives old new name at none given other i is =
    given.apart other (λ same. none-some i (sym none ∙ (ap (number_of old) same ∙ is))) ∙ is

pub AreNumbers-gives : (old new : Numbers) (name : Name) → number_of old name ≡ None → btree_map_len new ≡ btree_map_len old + 1 → Gives old new name (btree_map_len old) → AreNumbers old → AreNumbers new
AreNumbers-gives old new name none size given index =
    let n = btree_map_len old in
    let fresh : (other : Name) (at : ℕ) → number_of new other ≡ Some at → ((name ≡ other) × (at ≡ n)) ⊎ (number_of old other ≡ Some at) = λ other at is.
    elim (same_name name other) [
      | inl same ↦ inl (same, sym (same_Some n at (sym given.here ∙ (ap (number_of new) same ∙ is))))
      | inr apart ↦ inr (sym (given.apart other apart) ∙ is)
    ] in
    record {
      one_text = λ first second at one two. elim (fresh first at one) [
        | inl first_new ↦ elim (fresh second at two) [
          | inl second_new ↦ sym first_new.0 ∙ second_new.0
          | inr second_old ↦ absurd (let low = index.below second at second_old in let high = first_new.1 in omega arith)
        ]
        | inr first_old ↦ elim (fresh second at two) [
          | inl second_new ↦ absurd (let low = index.below first at first_old in let high = second_new.1 in omega arith)
          | inr second_old ↦ index.one_text first second at first_old second_old
        ]
      ];
      below = λ other at is. elim (fresh other at is) [
        | inl new_one ↦ (let high = new_one.1 in omega arith)
        | inr old_one ↦ (let low = index.below other at old_one in omega arith)
      ];
    }

-- a text that had no number gets the next
pub learned : (old new : Numbers) (name key : Name) (at : ℕ) (was : Option ℕ) → key ≡ name → at ≡ btree_map_len old → None ≡ number_of old name → was ≡ number_of old key
    → Updates (slice_cmp nat_cmp) old new key (Some at) → btree_map_len new ≡ btree_map_len old + (if is_some was then 0 else 1) → Extends old new × (AreNumbers old → AreNumbers new)
learned old new name key at was same next none had updates size =
    let unknown : number_of old key ≡ None = ap (number_of old) same ∙ sym none in
    let given : Gives old new key (btree_map_len old) = subst (Gives old new key) next (gives old new key at updates) in
    let one : btree_map_len new ≡ btree_map_len old + 1 = subst (λ (found : Option ℕ). btree_map_len new ≡ btree_map_len old + (if is_some found then 0 else 1)) (had ∙ unknown) size in
    (Extends-gives old new key (btree_map_len old) unknown given, AreNumbers-gives old new key unknown one given)
