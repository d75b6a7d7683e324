-- What masks leave of a number's bits.
use Rattle.std.proofs.Common.{◌≡◌, ℕ, zero, suc, ◌*◌, ◌^◌, ◌⊎◌, inl, inr, bit_and, bit_or, refl, ap, ◌∙◌, arith}
use Rattle.std.specs.Int.{bit_at}
use Rattle.std.proofs.lemmas.Nat.Bits.{bit_at_and, bit_at_or, bit_at-lt, bit_at-zero, and_pow, same_from_bits}

-- a mask behind a mask
pub and_and : (flags mask other : ℕ) → bit_and (bit_and flags mask) other ≡ bit_and flags (bit_and mask other)
and_and flags mask other =
    same_from_bits _ _ (λ i. omega (arith, bit_at_and (bit_and flags mask) other i, bit_at_and flags mask i, bit_at_and flags (bit_and mask other) i, bit_at_and mask other i))

-- two masks together
pub and_or : (flags mask other : ℕ) → bit_or (bit_and flags mask) (bit_and flags other) ≡ bit_and flags (bit_or mask other)
and_or flags mask other =
    same_from_bits _ _ (λ i. omega (arith, bit_at_or (bit_and flags mask) (bit_and flags other) i, bit_at_and flags mask i, bit_at_and flags other i, bit_at_and flags (bit_or mask other) i, bit_at_or mask other i))

-- a mask of two numbers together
pub or_and : (flags other mask : ℕ) → bit_and (bit_or flags other) mask ≡ bit_or (bit_and flags mask) (bit_and other mask)
or_and flags other mask =
    same_from_bits _ _ (λ i. omega (arith, bit_at_and (bit_or flags other) mask i, bit_at_or flags other i, bit_at_or (bit_and flags mask) (bit_and other mask) i, bit_at_and flags mask i, bit_at_and other mask i))

-- no bit more
pub or-zero : (flags : ℕ) → bit_or flags 0 ≡ flags
or-zero flags = same_from_bits _ _ (λ i. omega (arith, bit_at_or flags 0 i, bit_at-zero i))

-- one bit is there or isn't
pub one_bit : (flags place : ℕ) → (bit_and flags (2 ^ place) ≡ 0) ⊎ (bit_and flags (2 ^ place) ≡ 2 ^ place)
one_bit flags place = go (bit_at flags place) refl
  where
    go : (bit : ℕ) → bit_at flags place ≡ bit → (bit_and flags (2 ^ place) ≡ 0) ⊎ (bit_and flags (2 ^ place) ≡ 2 ^ place)
    go zero e = inl (and_pow flags place ∙ omega (arith, ap (λ bit. bit * 2 ^ place) e))
    go (suc zero) e = inr (and_pow flags place ∙ omega (arith, ap (λ bit. bit * 2 ^ place) e))
    go (suc (suc bit)) e = absurd (omega (arith, bit_at-lt flags place))
