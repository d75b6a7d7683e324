-- What the functions inside the crate promise each other of the marks that are kept while ways are walked.
use Rattle.std.specs.Prelude.{◌≡◌, ◌⊎◌, ◌↔◌, ℕ, ◌+◌, ◌<◌, ◌≤◌, Bool, true, false, if◌then◌else◌, List, [], ◌∷◌, ◌++◌, reverse, length, slice_index_or, slice_set, Option, Some, None}
use Rattle.std.specs.List.{Contains}
use Rattle.dj_names.specs.Types.{parameters_of}
use Rattle.dj_instructions.specs.Instructions.{MethodRef, Instruction, InvokeSpecial, instruction_at}
use Rattle.dj_frames.specs.Frames.{Frame}
use Rattle.dj_code.specs.MethodCode.{Typed}
use Rattle.dj_code.specs.Targets.{IsStart}
use Rattle.dj_starts.specs.declared.ways.Edge.{Edge}
use Rattle.dj_starts.specs.Control.{control_of, falls_through}
use Rattle.dj_starts.specs.Edges.{edges}
use Rattle.dj_starts.specs.Marks.{IsMarked}
use Rattle.dj_receivers.specs.declared.marking.Marking.{Marking}
use Rattle.dj_receivers.specs.Receivers.{height_at, fitted, marks_at, marks_along}
use Rattle.dj_receivers.specs.Steps.{IsAt, IsBelow, IsHeld, IsCut, Misses, IsLow}

-- ---- what is kept

-- the marks that are kept for a pc, the bottom entry first; none where no way is known to lead
abbrev pub kept : List (Option (List Bool)) → ℕ → Option (List Bool)
kept table pc = slice_index_or table pc None

-- marks are kept for a pc that are among others
pub record IsKeptBelow (table : List (Option (List Bool))) (pc : ℕ) (marks : List Bool) : Type 0 where
  pub found : List Bool
  pub is : kept table pc ≡ Some found
  pub below : IsBelow (reverse found) marks

-- a call under whose arguments an entry stands
abbrev pub IsCallAt : Typed → ℕ → MethodRef → Type 0
IsCallAt typed pc method = instruction_at typed.code.instructions pc ≡ Some (InvokeSpecial method)

-- each mark that isn't kept, and each call that isn't told, is missing on some path
pub record IsSound (typed : Typed) (marking : Marking) : Type 0 where
  pub table : (pc : ℕ) (found : List Bool) → kept marking.table pc ≡ Some found → IsLow typed pc (reverse found)
  pub calls : (pc : ℕ) (method : MethodRef) → pc < length marking.calls → IsCallAt typed pc method → ¬ IsMarked marking.calls pc → Misses typed pc (length (parameters_of method.descriptor))

-- ---- how much is left to do

-- how many marks there are
abbrev pub trues : List Bool → ℕ
trues [] = 0
trues (mark ∷ rest) = (if mark then 1 else 0) + trues rest

-- how often the marks of a pc can fall yet, where the stack has at most so many entries
abbrev pub weight : ℕ → Option (List Bool) → ℕ
weight cap None = cap + 1
weight cap (Some found) = trues (reverse found)

abbrev pub weights : ℕ → List (Option (List Bool)) → ℕ
weights cap [] = 0
weights cap (first ∷ rest) = weight cap first + weights cap rest

-- no stack has more entries
abbrev pub tallest : List Frame → ℕ
tallest [] = 0
tallest (frame ∷ frames) = length frame.stack + tallest frames

abbrev pub work : Typed → Marking → ℕ
work typed marking = weights (tallest typed.frames) marking.table + length marking.waiting

-- ---- marks that fall

-- marks fell, and where they did control is waited for
pub record Falls (typed : Typed) (old new : Marking) : Type 0 where
  pub table : (pc : ℕ) (found : List Bool) → kept old.table pc ≡ Some found → IsKeptBelow new.table pc (reverse found)
  pub same : (pc : ℕ) → (kept new.table pc ≡ kept old.table pc) ⊎ Contains new.waiting pc
  pub waits : (pc : ℕ) → Contains old.waiting pc → Contains new.waiting pc
  pub calls : (pc : ℕ) → IsMarked new.calls pc → IsMarked old.calls pc
  pub room : length new.table ≡ length old.table
  pub numbers : length new.calls ≡ length old.calls
  pub less : work typed new ≤ work typed old

-- the same, whatever is waited for
pub record Keeps (old new : Marking) : Type 0 where
  pub table : (pc : ℕ) (found : List Bool) → kept old.table pc ≡ Some found → IsKeptBelow new.table pc (reverse found)
  pub calls : (pc : ℕ) → IsMarked new.calls pc → IsMarked old.calls pc
  pub room : length new.table ≡ length old.table
  pub numbers : length new.calls ≡ length old.calls

-- an entry is marked among those that are known, if any are
abbrev pub IsKnown : Option (List Bool) → ℕ → Type 0
IsKnown None place = Unit {0}
IsKnown (Some found) place = IsAt (reverse found) place

-- what is to be kept in the place of what is known, by marks of which so many count; nothing where no mark falls
abbrev pub IsLowered : Option (List Bool) → List Bool → ℕ → Option (List Bool) → Type 0
IsLowered known marks height None = (found : List Bool) × (known ≡ Some found) × ((place : ℕ) → IsAt (reverse found) place → IsHeld marks height place)
IsLowered known marks height (Some found) =
    ((place : ℕ) → IsAt (reverse found) place ↔ (IsKnown known place × IsHeld marks height place)) × ((cap : ℕ) → height ≤ cap → weight cap (Some found) + 1 ≤ weight cap known)

-- a table with that in its place, and the pcs that wait
abbrev pub put : List (Option (List Bool)) → ℕ → Option (List Bool) → List (Option (List Bool))
put table pc None = table
put table pc (Some found) = slice_set table pc (Some found)

abbrev pub wait : List ℕ → ℕ → Option (List Bool) → List ℕ
wait waiting pc None = waiting
wait waiting pc (Some found) = waiting ++ pc ∷ []

-- the marks that hold here are taken along to a pc, so many of them
pub record Lowers (old new : Marking) (pc height : ℕ) : Type 0 where
  pub found : Option (List Bool)
  pub lowered : pc < length old.table → IsLowered (kept old.table pc) (reverse old.now) height found
  pub past : length old.table ≤ pc → found ≡ None
  pub table : new.table ≡ put old.table pc found
  pub waiting : new.waiting ≡ wait old.waiting pc found
  pub calls : new.calls ≡ old.calls
  pub now : new.now ≡ old.now

-- ---- ways

-- the marks that a way leads to from behind an instruction
abbrev pub sent : Typed → List Bool → Edge → List Bool
sent typed behind edge = fitted (height_at typed.code.instructions typed.frames edge.target) (if edge.caught then false ∷ [] else behind)

-- a way is looked at
pub record Sends (typed : Typed) (old new : Marking) (edge : Edge) : Type 0 where
  pub falls : Falls typed old new
  pub sound : IsSound typed old → IsLow typed edge.target (sent typed (reverse old.now) edge) → IsSound typed new
  pub arrives : edge.target < length old.table → IsKeptBelow new.table edge.target (sent typed (reverse old.now) edge)
  pub now : new.now ≡ old.now

-- each of some ways is that leads to where control jumps
pub record SendsAll (typed : Typed) (joins : List Bool) (old new : Marking) (ways : List Edge) : Type 0 where
  pub falls : Falls typed old new
  pub sound : IsSound typed old → ((edge : Edge) → Contains ways edge → IsLow typed edge.target (sent typed (reverse old.now) edge)) → IsSound typed new
  pub arrives : (edge : Edge) → Contains ways edge → IsMarked joins edge.target → edge.target < length old.table → IsKeptBelow new.table edge.target (sent typed (reverse old.now) edge)
  pub now : new.now ≡ old.now

-- with these marks before the instruction at a pc, what is kept says no more
pub record Serves (typed : Typed) (joins : List Bool) (marking : Marking) (pc : ℕ) (marks : List Bool) : Type 0 where
  pub call : (method : MethodRef) → IsCallAt typed pc method → pc < length marking.calls → IsMarked marking.calls pc → IsAt marks (length (parameters_of method.descriptor))
  pub ways : (edge : Edge) → Contains (edges typed.code pc) edge → IsMarked joins edge.target → edge.target < length marking.table → IsKeptBelow marking.table edge.target (marks_along typed pc marks edge)

-- a way to where an instruction begins and control doesn't jump
pub record IsFall (typed : Typed) (joins : List Bool) (pc : ℕ) (edge : Edge) : Type 0 where
  pub way : Contains (edges typed.code pc) edge
  pub plain : ¬ IsMarked joins edge.target
  pub start : IsStart typed.code.instructions edge.target

-- control falls from an instruction to the one at this pc, behind it, and doesn't jump there
pub record IsFallenTo (joins : List Bool) (instruction : Instruction) (behind : ℕ) : Type 0 where
  pub falls : falls_through (control_of instruction) ≡ true
  pub plain : ¬ IsMarked joins behind

-- nor does it behind that, as far as control falls
pub data Done (typed : Typed) (joins : List Bool) (marking : Marking) : ℕ → List Bool → Type 0 where
  ends : {pc : ℕ} {marks : List Bool} → Serves typed joins marking pc marks → ((edge : Edge) → ¬ IsFall typed joins pc edge) → Done typed joins marking pc marks
  falls_on : {pc next : ℕ} {marks behind : List Bool} → Serves typed joins marking pc marks → ((edge : Edge) → IsFall typed joins pc edge → (edge.target ≡ next) × IsBelow behind (marks_along typed pc marks edge))
      → Done typed joins marking next behind → Done typed joins marking pc marks

-- a call on another object than `this`, by the marks before it; and one on `this`, or none
abbrev pub IsOff : Option MethodRef → List Bool → Type 0
IsOff None marks = ⊥
IsOff (Some method) marks = ¬ IsAt marks (length (parameters_of method.descriptor))

abbrev pub IsOn : Option MethodRef → List Bool → Type 0
IsOn None marks = Unit {0}
IsOn (Some method) marks = IsAt marks (length (parameters_of method.descriptor))

-- a call at a pc is no longer told to be on `this`, where it isn't by the marks that hold here
pub data Notes (called : Option MethodRef) (old new : Marking) (pc : ℕ) : Type 0 where
  stays : new ≡ old → (pc < length old.calls → IsOn called (reverse old.now)) → Notes called old new pc
  lost : pc < length old.calls → IsOff called (reverse old.now) → new.table ≡ old.table → new.waiting ≡ old.waiting → new.calls ≡ slice_set old.calls pc false → new.now ≡ old.now → Notes called old new pc

-- so many of the marks that hold here are left
pub record Cuts (old new : Marking) (height : ℕ) : Type 0 where
  pub table : new.table ≡ old.table
  pub waiting : new.waiting ≡ old.waiting
  pub calls : new.calls ≡ old.calls
  pub cut : IsCut (reverse old.now) height (reverse new.now)

-- the marks that are kept for a pc hold here now, if there are any
pub record Restores (old new : Marking) (pc : ℕ) (done : Bool) : Type 0 where
  pub table : new.table ≡ old.table
  pub waiting : new.waiting ≡ old.waiting
  pub calls : new.calls ≡ old.calls
  pub some : done ≡ true → kept old.table pc ≡ Some new.now
  pub none : done ≡ false → kept old.table pc ≡ None

-- the instruction at a pc is looked at
pub record Visits (typed : Typed) (joins : List Bool) (old new : Marking) (pc : ℕ) : Type 0 where
  pub falls : Falls typed old new
  pub sound : IsSound typed old → IsLow typed pc (reverse old.now) → IsSound typed new
  pub serves : Serves typed joins new pc (reverse old.now)
  pub now : reverse new.now ≡ marks_at typed.code.instructions typed.frames pc (reverse old.now)

-- all is looked at from a pc on, as far as control falls
pub record Runs (typed : Typed) (joins : List Bool) (old new : Marking) (pc : ℕ) : Type 0 where
  pub falls : Falls typed old new
  pub sound : IsSound typed old → IsLow typed pc (reverse old.now) → IsSound typed new
  pub done : Done typed joins new pc (reverse old.now)

-- likewise by the marks that are kept for the pc
pub record Finishes (typed : Typed) (joins : List Bool) (old new : Marking) (pc : ℕ) : Type 0 where
  pub falls : Falls typed old new
  pub sound : IsSound typed old → IsSound typed new
  pub done : (found : List Bool) → IsStart typed.code.instructions pc → kept old.table pc ≡ Some found → Done typed joins new pc (reverse found)

-- ---- all of it

-- what is kept for a pc is looked at, or waited for
abbrev pub IsClosed : Typed → List Bool → Marking → Type 0
IsClosed typed joins marking =
    (pc : ℕ) (found : List Bool) → IsStart typed.code.instructions pc → kept marking.table pc ≡ Some found → Contains marking.waiting pc ⊎ Done typed joins marking pc (reverse found)

-- nothing is waited for any more
pub record Closes (typed : Typed) (joins : List Bool) (old new : Marking) : Type 0 where
  pub keeps : Keeps old new
  pub sound : IsSound typed new
  pub closed : IsClosed typed joins new
  pub none : new.waiting ≡ []

-- nothing is known yet but that control begins at 0, and with no mark
pub record Begins (count : ℕ) (marking : Marking) : Type 0 where
  pub room : length marking.table ≡ count
  pub numbers : length marking.calls ≡ count
  pub all : (pc : ℕ) → pc < count → IsMarked marking.calls pc
  pub first : 0 < count → kept marking.table 0 ≡ Some []
  pub only : (pc : ℕ) (found : List Bool) → kept marking.table pc ≡ Some found → (pc ≡ 0) × (found ≡ []) × Contains marking.waiting pc
