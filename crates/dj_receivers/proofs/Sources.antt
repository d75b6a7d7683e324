-- Each mark behind a way comes from one before it, or from none.
use Rattle.std.proofs.Common.{◌≡◌, ◌↔◌, ℕ, zero, suc, ◌+◌, ◌<◌, ◌==◌, Bool, true, false, List, [], ◌∷◌, ◌++◌, map, take, drop, reverse, replicate, length, Option, Some, None, refl, sym, ap, inl, inr, ◌∙◌, arith}
use Rattle.std.specs.Prelude.{slice_get, slice_index_or, if◌then◌else◌}
use Rattle.std.proofs.lemmas.Bool.{cases_lt}
use Rattle.std.proofs.lemmas.List.{get_or-drop}
use Rattle.std.proofs.lemmas.Option.{get_or_from_slice_get}
use Rattle.dj_instructions.specs.Instructions.{Instruction, Instructions}
use Rattle.dj_frames.specs.Frames.{Tag, Frame}
use Rattle.dj_code.specs.MethodCode.{Typed}
use Rattle.dj_effects.specs.Works.{Form}
use Rattle.dj_effects.specs.Operands.{form_of, moved_words}
use Rattle.dj_starts.specs.declared.ways.Edge.{Edge}
use Rattle.dj_receivers.specs.Passing.{Pass, Takes, Own, Moves, pass_of, moved_marks, marks_behind}
use Rattle.dj_receivers.specs.Receivers.{marks_by, marks_at, height_at, fitted, marks_out, marks_along}
use Rattle.dj_receivers.specs.Steps.{IsAt}

-- where a mark comes from
pub data Source : Type 0 where
  Never : Source
  Always : Source
  From : ℕ → Source

-- it holds there
abbrev pub Tells : Source → List Bool → Type 0
Tells Never marks = ⊥
Tells Always marks = Unit {0}
Tells (From place) marks = IsAt marks place

pub record IsFrom (behind : List Bool → List Bool) (place : ℕ) : Type 0 where
  pub source : Source
  pub tells : (marks : List Bool) → IsAt (behind marks) place ↔ Tells source marks

abbrev pub IsSourced : (List Bool → List Bool) → Type 0
IsSourced behind = (place : ℕ) → IsFrom behind place

sourced_same : IsSourced (λ marks. marks)
sourced_same place = record { source = From place; tells = λ marks. (λ is. is, λ is. is) }

-- behind another way
sourced_then : (first second : List Bool → List Bool) → IsSourced first → IsSourced second → IsSourced (λ marks. second (first marks))
sourced_then first second one other place = by_source (other place).source (other place).tells
  where
    by_source : (source : Source) → ((marks : List Bool) → IsAt (second marks) place ↔ Tells source marks) → IsFrom (λ marks. second (first marks)) place
    by_source Never tells = record { source = Never; tells = λ marks. tells (first marks) }
    by_source Always tells = record { source = Always; tells = λ marks. tells (first marks) }
    by_source (From at) tells = record {
      source = (one at).source;
      tells = λ marks. (λ is. ((one at).tells marks).0 ((tells (first marks)).0 is), λ is. (tells (first marks)).1 (((one at).tells marks).1 is));
    }

sourced_drop : (count : ℕ) → IsSourced (λ marks. drop count marks)
sourced_drop count place = record {
  source = From (count + place);
  tells = λ marks. (λ is. sym (get_or-drop count marks place false) ∙ is, λ is. get_or-drop count marks place false ∙ is);
}

sourced_cons : (mark : Bool) (behind : List Bool → List Bool) → IsSourced behind → IsSourced (λ marks. mark ∷ behind marks)
sourced_cons true behind sourced zero = record { source = Always; tells = λ marks. (λ is. tt, λ is. refl) }
sourced_cons false behind sourced zero = record { source = Never; tells = λ marks. (λ is. absurd cc, λ is. absurd is) }
sourced_cons mark behind sourced (suc place) = record { source = (sourced place).source; tells = (sourced place).tells }

-- what was put elsewhere
sourced_moved : (gives : List ℕ) (count : ℕ) → IsSourced (λ marks. map (λ place. slice_index_or marks place false) gives ++ drop count marks)
sourced_moved [] count place = sourced_drop count place
sourced_moved (first ∷ rest) count zero = record { source = From first; tells = λ marks. (λ is. is, λ is. is) }
sourced_moved (first ∷ rest) count (suc place) = let more = sourced_moved rest count place in record { source = more.source; tells = more.tells }

sourced_form : (form : Option Form) → IsSourced (λ marks. moved_marks form marks)
sourced_form None = sourced_same
sourced_form (Some form) = sourced_moved form.gives (length form.takes)

sourced_pass : (pass : Pass) (stack : List Tag) → IsSourced (λ marks. marks_behind pass stack marks)
sourced_pass (Takes count true) stack = sourced_cons false (λ marks. drop count marks) (sourced_drop count)
sourced_pass (Takes count false) stack = sourced_drop count
sourced_pass Own stack = sourced_cons true (λ marks. marks) sourced_same
sourced_pass (Moves forms) stack = sourced_form (form_of forms (map moved_words stack))

sourced_by : (instruction : Instruction) (frames : List Frame) → IsSourced (λ marks. marks_by instruction frames marks)
sourced_by instruction [] = sourced_same
sourced_by instruction (frame ∷ frames) = sourced_pass (pass_of instruction) (reverse frame.stack)

sourced_at : (instructions : Instructions) (frames : List Frame) (pc : ℕ) → IsSourced (λ marks. marks_at instructions frames pc marks)
sourced_at [] frames pc = sourced_same
sourced_at (at ∷ rest) frames pc = by_test (at.0 == pc) (sourced_at rest (drop 1 frames) pc)
  where
    by_test : (test : Bool) → IsSourced (λ marks. marks_at rest (drop 1 frames) pc marks) → IsSourced (λ marks. if test then marks_by at.1 frames marks else marks_at rest (drop 1 frames) pc marks)
    by_test true more = sourced_by at.1 frames
    by_test false more = more

-- no more entries than there are
at_take : (height : ℕ) (marks : List Bool) (place : ℕ) → IsAt (take height marks) place ↔ ((place < height) × IsAt marks place)
at_take zero marks place = (λ is. absurd cc, λ is. absurd (let low = is.0 in omega (arith, low)))
at_take (suc height) [] place = (λ is. absurd cc, λ is. absurd (let none = is.1 in cc))
at_take (suc height) (mark ∷ marks) zero = (λ is. (omega arith, is), λ is. is.1)
at_take (suc height) (mark ∷ marks) (suc place) =
    let more = at_take height marks place in
    (λ is. (let both = more.0 is in let low = both.0 in omega (arith, low), (more.0 is).1), λ is. more.1 (let low = is.0 in omega (arith, low), is.1))

at_none : (count place : ℕ) → ¬ IsAt (replicate count false) place
at_none zero place is = cc
at_none (suc count) zero is = cc
at_none (suc count) (suc place) is = at_none count place is

at_padded : (marks : List Bool) (count place : ℕ) → IsAt (marks ++ replicate count false) place ↔ IsAt marks place
at_padded [] count place = (λ is. absurd (at_none count place is), λ is. absurd cc)
at_padded (mark ∷ marks) count zero = (λ is. is, λ is. is)
at_padded (mark ∷ marks) count (suc place) = at_padded marks count place

pub at_fitted : (height : ℕ) (marks : List Bool) (place : ℕ) → IsAt (fitted height marks) place ↔ ((place < height) × IsAt marks place)
at_fitted height marks place =
    let cut = at_take height (marks ++ replicate height false) place in
    (λ is. ((cut.0 is).0, (at_padded marks height place).0 (cut.0 is).1), λ is. cut.1 (is.0, (at_padded marks height place).1 is.1))

sourced_fitted : (height : ℕ) → IsSourced (λ marks. fitted height marks)
sourced_fitted height place = elim (cases_lt place height) [
  | inl below ↦ record { source = From place; tells = λ marks. (λ is. ((at_fitted height marks place).0 is).1, λ is. (at_fitted height marks place).1 (below, is)) }
  | inr past ↦ record { source = Never; tells = λ marks. (λ is. let low = ((at_fitted height marks place).0 is).0 in omega (arith, low, past), λ is. absurd is) }
]

sourced_out : (typed : Typed) (pc : ℕ) (caught : Bool) → IsSourced (λ marks. marks_out typed pc marks caught)
sourced_out typed pc true = sourced_cons false (λ marks. []) (λ place. record { source = Never; tells = λ marks. (λ is. cc, λ is. absurd is) })
sourced_out typed pc false = sourced_at typed.code.instructions typed.frames pc

pub sourced_along : (typed : Typed) (pc : ℕ) (edge : Edge) → IsSourced (λ marks. marks_along typed pc marks edge)
sourced_along typed pc edge =
    sourced_then (λ marks. marks_out typed pc marks edge.caught) (λ marks. fitted (height_at typed.code.instructions typed.frames edge.target) marks) (sourced_out typed pc edge.caught)
    (sourced_fitted (height_at typed.code.instructions typed.frames edge.target))

-- marks by places and by items
pub item_at : (marks : List Bool) (place : ℕ) → slice_get marks place ≡ Some true → IsAt marks place
item_at marks place is = get_or_from_slice_get marks place true false is

pub at_item : (marks : List Bool) (place : ℕ) → IsAt marks place → slice_get marks place ≡ Some true
at_item [] place is = absurd cc
at_item (mark ∷ marks) zero is = ap Some is
at_item (mark ∷ marks) (suc place) is = at_item marks place is
