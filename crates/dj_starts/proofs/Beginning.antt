-- The pcs that are marked and reached are where blocks start.
use Rattle.std.proofs.Common.{◌≡◌, ℕ, ◌⊎◌, ◌↔◌, Bool, List, length, inl, inr}
use Rattle.std.specs.List.{Contains}
use Rattle.dj_code.specs.MethodCode.{Typed}
use Rattle.dj_code.specs.Targets.{IsStart}
use Rattle.dj_starts.specs.Edges.{Reaches}
use Rattle.dj_starts.specs.Starts.{IsGiven, TableAsks, CodeAsks, BeginsBlock, IsBlockStart, entry, given, table, code}
use Rattle.dj_starts.specs.Marks.{IsMarked, IsRoom, MarksMore, IsBothMarked}
use Rattle.dj_starts.proofs.Marking.{both_more}
use Rattle.dj_starts.proofs.Reaching.{starts_within}

module _ (typed : Typed) (none one two three all : List Bool) (room : IsRoom typed.code.instructions (length none)) (unmarked : (pc : ℕ) → IsMarked none pc → ⊥)
    (first : MarksMore none one (λ pc. pc ≡ 0)) (frames : MarksMore one two (IsGiven typed.code.frames)) (tables : MarksMore two three (TableAsks typed.code.handlers)) (codes : MarksMore three all (CodeAsks typed.code.handlers typed.code.instructions typed.frames)) where
  abbrev Frames : ℕ → Type 0
  Frames = IsGiven typed.code.frames

  abbrev Table : ℕ → Type 0
  Table = TableAsks typed.code.handlers

  abbrev Code : ℕ → Type 0
  Code = CodeAsks typed.code.handlers typed.code.instructions typed.frames

  asked : MarksMore none all (λ pc. (pc ≡ 0) ⊎ (Frames pc ⊎ (Table pc ⊎ Code pc)))
  asked = both_more none one all (λ pc. pc ≡ 0) (λ pc. Frames pc ⊎ (Table pc ⊎ Code pc)) first
      (both_more one two all Frames (λ pc. Table pc ⊎ Code pc) frames (both_more two three all Table Code tables codes))

  marked_begins : (pc : ℕ) → IsMarked all pc → BeginsBlock typed pc
  marked_begins pc h = elim (asked.only pc h) [
    | inl old ↦ absurd (unmarked pc old)
    | inr new ↦ elim new [
      | inl first ↦ entry first
      | inr more ↦ elim more [ inl by ↦ given by | inr rest ↦ elim rest [ inl by ↦ table by | inr by ↦ code by ] ]
    ]
  ]

  begins_marked : (pc : ℕ) → IsStart typed.code.instructions pc → BeginsBlock typed pc → IsMarked all pc
  begins_marked pc at (entry first) = asked.these pc (starts_within typed.code none room pc at) (inl first)
  begins_marked pc at (given by) = asked.these pc (starts_within typed.code none room pc at) (inr (inl by))
  begins_marked pc at (table by) = asked.these pc (starts_within typed.code none room pc at) (inr (inr (inl by)))
  begins_marked pc at (code by) = asked.these pc (starts_within typed.code none room pc at) (inr (inr (inr by)))

  pub block_exact : (seen : List Bool) (starts : List ℕ) → ((pc : ℕ) → IsStart typed.code.instructions pc → IsMarked seen pc ↔ Reaches typed.code pc) → ((pc : ℕ) → Contains starts pc ↔ IsBothMarked typed.code.instructions seen all pc) → (pc : ℕ) → Contains starts pc ↔ IsBlockStart typed pc
  block_exact seen starts reached both pc = (
    λ h. let b = (both pc).0 h in record { at = b.at; reached = (reached pc b.at).0 b.one; begins = marked_begins pc b.other },
    λ is. (both pc).1 record { at = is.at; one = (reached pc is.at).1 is.reached; other = begins_marked pc is.at is.begins },
  )
