-- The two indices of an entry that has two.
use Rattle.std.proofs.Common.{◌≡◌, ◌⊎◌, ℕ, List, Option, IsTrue, refl, arith, inl, inr}
use Rattle.std.proofs.lemmas.Bool.Decides.{nat_tests}
use Rattle.dj_layout.specs.Layout.{Spells}
use Rattle.dj_layout.specs.Parts.{exactly, headed}
use Rattle.dj_layout.proofs.PartsAreTotal.{together}
use Rattle.dj_pool.specs.declared.entry.Entry.{Entry}
use Rattle.dj_pool.specs.declared.entry.Ask.{Ask}
use Rattle.dj_pool.specs.PoolFormat.{Two, asked_number, behind, entry_with, first_of, second_of}
use Rattle.dj_pool.specs.PoolTable.{is_pair}

tags : (tag : ℕ) → IsTrue (is_pair tag) → (tag ≡ 9) ⊎ (tag ≡ 10) ⊎ (tag ≡ 11) ⊎ (tag ≡ 12) ⊎ (tag ≡ 18)
tags tag is = grind (arith, nat_tests)

parts : (tag x y : ℕ) → (tag ≡ 9) ⊎ (tag ≡ 10) ⊎ (tag ≡ 11) ⊎ (tag ≡ 12) ⊎ (tag ≡ 18) → (first_of (entry_with tag x y) ≡ x) × (second_of (entry_with tag x y) ≡ y)
parts tag x y (inl is) = rw is (refl, refl)
parts tag x y (inr (inl is)) = rw is (refl, refl)
parts tag x y (inr (inr (inl is))) = rw is (refl, refl)
parts tag x y (inr (inr (inr (inl is)))) = rw is (refl, refl)
parts tag x y (inr (inr (inr (inr is)))) = rw is (refl, refl)

-- two indices, one behind the other, are what stands behind the tag
pub pair_spelled : (given : Option (List Entry)) (tag x y : ℕ) (what other : Ask) (entry : Entry) (bytes mid rest : List ℕ) → IsTrue (is_pair tag) → entry ≡ entry_with tag x y
    → Spells (asked_number given 2 what) bytes x mid → Spells (asked_number given 2 other) mid y rest → Spells (behind given tag (Two 2 what 2 other)) bytes entry rest
pair_spelled given tag x y what other entry bytes mid rest pair is first second =
    let are = parts tag x y (tags tag pair) in
    rw is (together first_of (asked_number given 2 what) (λ a. headed second_of (asked_number given 2 other) (λ b. exactly (entry_with tag a b))) x (entry_with tag x y) bytes mid rest are.0 first
    (together second_of (asked_number given 2 other) (λ b. exactly (entry_with tag x b)) y (entry_with tag x y) mid rest rest are.1 second (record { fits = refl; text = refl })))
