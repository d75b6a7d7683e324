-- The least of several offsets.
use Rattle.std.proofs.Common.{◌≡◌, ◌⊎◌, ℕ, ◌<◌, ◌≤◌, true, false, nat_le, nat_lt, Option, Some, None, inl, inr, arith}
use Rattle.std.proofs.lemmas.Bool.{cases_lt}
use Rattle.std.proofs.lemmas.Bool.Decides.{nat_tests}
use Rattle.dj_birth_causes.specs.Leasts.{IsFirst, lesser, up_to, before}

le_holds : (m n : ℕ) → m ≤ n → nat_le m n ≡ true
le_holds m n le = grind (arith, nat_tests)

le_fails : (m n : ℕ) → n < m → nat_le m n ≡ false
le_fails m n less = grind (arith, nat_tests)

lt_holds : (m n : ℕ) → m < n → nat_lt m n ≡ true
lt_holds m n less = grind (arith, nat_tests)

lt_fails : (m n : ℕ) → n ≤ m → nat_lt m n ≡ false
lt_fails m n le = grind (arith, nat_tests)

-- the same property, said otherwise
pub first_map : (A B : ℕ → Type 0) → ((pc : ℕ) → A pc → B pc) → ((pc : ℕ) → B pc → A pc) → (found : Option ℕ) → IsFirst A found → IsFirst B found
first_map A B to from None none = λ pc has. none pc (from pc has)
first_map A B to from (Some at) least = record { here = to at least.here; least = λ other has. least.least other (from other has) }

-- up to an offset
pub first_up_to : (A : ℕ → Type 0) (last : ℕ) (found : Option ℕ) → IsFirst A found → IsFirst (λ pc. (pc ≤ last) × A pc) (up_to last found)
first_up_to A last None none = λ pc has. none pc has.1
first_up_to A last (Some at) least = elim (cases_lt last at) [
  | inl past ↦ rw (le_fails at last past) (λ pc has. (let low = least.least pc has.1 in let high = has.0 in omega (arith, low, high, past)))
  | inr within ↦ rw (le_holds at last within) (record { here = (within, least.here); least = λ other has. least.least other has.1 })
]

-- before an offset
pub first_before : (A : ℕ → Type 0) (end : ℕ) (found : Option ℕ) → IsFirst A found → IsFirst (λ pc. (pc < end) × A pc) (before end found)
first_before A end None none = λ pc has. none pc has.1
first_before A end (Some at) least = elim (cases_lt at end) [
  | inl within ↦ rw (lt_holds at end within) (record { here = (within, least.here); least = λ other has. least.least other has.1 })
  | inr past ↦ rw (lt_fails at end past) (λ pc has. (let low = least.least pc has.1 in let high = has.0 in omega (arith, low, high, past)))
]

-- of one property or another
pub first_either : (A B : ℕ → Type 0) (a b : Option ℕ) → IsFirst A a → IsFirst B b → IsFirst (λ pc. A pc ⊎ B pc) (lesser a b)
first_either A B None None none nor = λ pc either. elim either [ inl has ↦ none pc has | inr has ↦ nor pc has ]
first_either A B None (Some b) none least = record { here = inr least.here; least = λ other either. elim either [ inl has ↦ absurd (none other has) | inr has ↦ least.least other has ] }
first_either A B (Some a) None least none = record { here = inl least.here; least = λ other either. elim either [ inl has ↦ least.least other has | inr has ↦ absurd (none other has) ] }
first_either A B (Some a) (Some b) first second = elim (cases_lt b a) [
  | inl less ↦ rw (le_fails a b less) (record { here = inr second.here; least = λ other either. elim either [ inl has ↦ (let low = first.least other has in omega (arith, low, less)) | inr has ↦ second.least other has ] })
  | inr le ↦ rw (le_holds a b le) (record { here = inl first.here; least = λ other either. elim either [ inl has ↦ first.least other has | inr has ↦ (let low = second.least other has in omega (arith, low, le)) ] })
]
