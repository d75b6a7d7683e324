-- A set of pcs that is closed, and whose pcs are reached, is what is reached.
use Rattle.std.proofs.Common.{◌≡◌, ℕ, ◌<◌, Bool, List, length, sym, subst, inl, inr}
use Rattle.std.specs.List.{Contains}
use Rattle.std.proofs.lemmas.Bool.{cases_lt}
use Rattle.dj_code.specs.MethodCode.{Code}
use Rattle.dj_code.specs.Targets.{IsStart}
use Rattle.dj_starts.specs.declared.ways.Edge.{Edge}
use Rattle.dj_starts.specs.Edges.{Reaches, start, along, edges, first_edges}
use Rattle.dj_starts.specs.Marks.{IsMarked, IsRoom, IsTarget, GoesOn}
use Rattle.dj_starts.proofs.Marking.{contains_none}
use Rattle.dj_starts.proofs.PcLemmas.{none_starts}

module _ (code : Code) (marks : List Bool) (room : IsRoom code.instructions (length marks)) where
  -- ways lead from where there is room
  from_within : (pc : ℕ) (way : Edge) → Contains (edges code pc) way → pc < length marks
  from_within pc way one = elim (cases_lt pc (length marks)) [
    | inl within ↦ within
    | inr past ↦ absurd (contains_none way (subst (λ instructions. Contains (first_edges code.handlers instructions) way) (room.within pc past) one))
  ]

  -- what is reached is marked, where there is room
  pub all_marked : (0 < length marks → IsMarked marks 0) → ((pc : ℕ) → IsMarked marks pc → GoesOn code marks pc) → (pc : ℕ) → Reaches code pc → pc < length marks → IsMarked marks pc
  all_marked first closed _ start within = first within
  all_marked first closed _ (along {pc} {edge} to one) within = closed pc (all_marked first closed pc to (from_within pc edge one)) edge one within

  -- where an instruction begins, there is room
  pub starts_within : (pc : ℕ) → IsStart code.instructions pc → pc < length marks
  starts_within pc at = elim (cases_lt pc (length marks)) [ inl within ↦ within | inr past ↦ absurd (none_starts code.instructions pc (room.within pc past) at) ]

pub start_at : (code : Code) (pc : ℕ) → pc ≡ 0 → Reaches code pc
start_at code pc same = subst (λ n. Reaches code n) (sym same) start

pub reach_target : (code : Code) (pc target : ℕ) → Reaches code pc → IsTarget (edges code pc) target → Reaches code target
reach_target code pc target to by = subst (λ n. Reaches code n) (sym by.there) (along to by.one)
