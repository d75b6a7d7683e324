-- What is asked of instructions between two pcs, one instruction more.
use Rattle.std.proofs.Common.{ℕ, ◌+◌, ◌<◌, ◌≤◌, [], ◌∷◌, ◌++◌, arith}
use Rattle.dj_instructions.specs.Instructions.{Instruction, Instructions, IsRisingFrom}
use Rattle.dj_starts.specs.declared.roles.Role.{Role}
use Rattle.dj_starts.specs.Births.{role_of, first_role, Between}
use Rattle.dj_starts.specs.Walking.{last_role, behind_all}

-- what is behind all of these isn't below where they begin
pub not_below : (least : ℕ) (l : Instructions) → IsRisingFrom least l → least ≤ behind_all least l
not_below least [] rising = omega arith
not_below least (x ∷ l) rising = omega (arith, rising.0, not_below (x.0 + 1) l rising.1)

-- instructions behind others, from behind all of those
pub rises_behind : (least : ℕ) (done left : Instructions) → IsRisingFrom least (done ++ left) → IsRisingFrom (behind_all least done) left
rises_behind least [] left rising = rising
rises_behind least (x ∷ done) left rising = rises_behind (x.0 + 1) done left rising.1

pub rises_before : (least : ℕ) (done left : Instructions) → IsRisingFrom least (done ++ left) → IsRisingFrom least done
rises_before least [] left rising = tt
rises_before least (x ∷ done) left rising = (rising.0, rises_before (x.0 + 1) done left rising.1)

no_less : (n : ℕ) → n ≤ n
no_less n = omega arith

module _ (Asked : ℕ → Role → Role → Role → Type 0) (start : ℕ) where
  -- nothing is asked of instructions behind the end
  pub between_past : (least end : ℕ) (before : Role) (l : Instructions) → IsRisingFrom least l → end ≤ least → Between Asked start end before l
  between_past least end before [] rising past = tt
  between_past least end before (x ∷ l) rising past =
      (λ above below. absurd (omega (arith, rising.0)), between_past (x.0 + 1) end (role_of x.1) l rising.1 (omega (arith, rising.0)))

  -- less is asked up to an earlier end
  pub between_less : (end more : ℕ) (before : Role) (l : Instructions) → end ≤ more → Between Asked start more before l → Between Asked start end before l
  between_less end more before [] le between = tt
  between_less end more before (x ∷ l) le between = (λ above below. between.0 above (omega arith), between_less end more (role_of x.1) l le between.1)

  -- nothing is asked from the end on
  pub between_none : (least : ℕ) (before : Role) (l : Instructions) (end : ℕ) → IsRisingFrom least l → end ≤ start + 1 → Between Asked start end before l
  between_none least before [] end rising past = tt
  between_none least before (x ∷ l) end rising past = (λ above below. absurd (omega arith), between_none (x.0 + 1) (role_of x.1) l end rising.1 past)

  -- what is asked of the next instruction, by what is asked up to behind it
  pub between_here : (done : Instructions) (at : ℕ × Instruction) (rest : Instructions) (before : Role) → Between Asked start (at.0 + 1) before (done ++ at ∷ rest) → start < at.0 → Asked at.0 (last_role before done) (role_of at.1) (first_role rest)
  between_here [] at rest before between above = between.0 above (omega arith)
  between_here (x ∷ done) at rest before between above = between_here done at rest (role_of x.1) between.1 above

  -- one instruction more
  pub between_more : (least : ℕ) (done : Instructions) (at : ℕ × Instruction) (rest : Instructions) (before : Role) → IsRisingFrom least (done ++ at ∷ rest)
      → Between Asked start (behind_all least done) before (done ++ at ∷ rest)
      → (start < at.0 → Asked at.0 (last_role before done) (role_of at.1) (first_role rest))
      → Between Asked start (at.0 + 1) before (done ++ at ∷ rest)
  between_more least [] at rest before rising between here = (λ above below. here above, between_past (at.0 + 1) (at.0 + 1) (role_of at.1) rest rising.1 (omega arith))
  between_more least (x ∷ done) at rest before rising between here =
      let low = not_below (x.0 + 1) done (rises_before (x.0 + 1) done (at ∷ rest) rising.1) in
      (λ above below. between.0 above (omega (arith, low)), between_more (x.0 + 1) done at rest (role_of x.1) rising.1 between.1 here)

  -- up to the next instruction nothing more is asked
  pub between_gap : (least : ℕ) (done : Instructions) (at : ℕ × Instruction) (rest : Instructions) (before : Role) → IsRisingFrom least (done ++ at ∷ rest) → Between Asked start (behind_all least done) before (done ++ at ∷ rest) → Between Asked start at.0 before (done ++ at ∷ rest)
  between_gap least [] at rest before rising between = between_past at.0 at.0 before (at ∷ rest) (no_less at.0, rising.1) (no_less at.0)
  between_gap least (x ∷ done) at rest before rising between =
      let low = not_below (x.0 + 1) done (rises_before (x.0 + 1) done (at ∷ rest) rising.1) in
      (λ above below. between.0 above (omega (arith, low)), between_gap (x.0 + 1) done at rest (role_of x.1) rising.1 between.1)
