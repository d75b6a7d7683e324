-- The walk by places of the code's instructions.
use Rattle.std.proofs.Common.{◌≡◌, ℕ, ◌+◌, ◌<◌, ◌≤◌, ◌↔◌, Bool, List, [], ◌∷◌, ◌++◌, Option, length, take, drop, get_or, map, refl, sym, ap, ◌∙◌, subst, arith}
use Rattle.std.specs.Prelude.{IsTrue}
use Rattle.std.specs.List.{Contains}
use Rattle.std.proofs.lemmas.Bool.{both_ways}
use Rattle.std.proofs.lemmas.List.{take-append-drop, take_more, take_all, map-append, length-map, length-take-le, drop-map}
use Rattle.dj_instructions.specs.declared.instruction.Instruction as declared
use Rattle.dj_instructions.specs.Instructions.{Instruction, view_instruction, view_instructions, IsRising}
use Rattle.dj_frames.specs.declared.frame.Frame as code_frame
use Rattle.dj_frames.specs.Frames.{view_frame}
use Rattle.dj_stack_map.specs.StackMap.{IsNewAt}
use Rattle.dj_code.specs.declared.method_code.Typed as code_typed
use Rattle.dj_code.specs.MethodCode.{view_typed}
use Rattle.dj_starts.specs.declared.calls.Met.{Met}
use Rattle.dj_starts.specs.declared.walk.Walk.{Walk}
use Rattle.dj_starts.specs.Births.{role_of, first_role, IsWritten}
use Rattle.dj_starts.specs.Marks.{IsMarked}
use Rattle.dj_starts.specs.Walking.{IsStep, IsWalked, IsFences, IsTable, IsEnded}
use Rattle.dj_starts.proofs.Asking.{from_item}
use Rattle.dj_starts.proofs.PcLemmas.{from_start}
use Rattle.dj_starts.proofs.WalkSteps.{walk_more, walk_all, ended_at, end_low, here_is}

abbrev Listed : Type 0
Listed = List (ℕ × declared.Instruction)

abbrev viewed : ℕ × declared.Instruction → ℕ × Instruction
viewed x = (x.0, view_instruction x.1)

module _ (all : Listed) (i : ℕ) (x : ℕ × declared.Instruction) (within : i < length all) (is : x ≡ get_or all i x) where
  place_split : view_instructions all ≡ view_instructions (take i all) ++ viewed x ∷ view_instructions (drop (i + 1) all)
  place_split = ap view_instructions (sym (take-append-drop i all)) ∙ ap (λ tail. view_instructions (take i all ++ tail)) (from_item all i x within is) ∙ map-append viewed (take i all) (x ∷ drop (i + 1) all)

  place_taken : view_instructions (take (i + 1) all) ≡ view_instructions (take i all) ++ viewed x ∷ []
  place_taken = ap view_instructions (take_more all i x within) ∙ ap (λ y. view_instructions (take i all ++ y ∷ [])) (sym is) ∙ map-append viewed (take i all) (x ∷ [])

  place_frames : (frames : List code_frame.Frame) → map view_frame (drop i frames) ≡ drop (length (view_instructions (take i all))) (map view_frame frames)
  place_frames frames =
      let count : length (view_instructions (take i all)) ≡ i = length-map (take i all) viewed ∙ length-take-le i all (omega arith) in
      sym (drop-map view_frame i frames) ∙ ap (λ n. drop n (map view_frame frames)) (sym count)

module _ (typed : code_typed.Typed) (rising : IsRising (view_instructions typed.code.instructions)) (i : ℕ) (x : ℕ × declared.Instruction) (within : i < length typed.code.instructions) (is : x ≡ get_or typed.code.instructions i x) where
  abbrev all : Listed
  all = typed.code.instructions

  -- births that go on began before the next instruction
  pub below_place : (walk : Walk) → IsWalked (view_typed typed) (view_instructions (take i all)) walk → (start : ℕ) → Contains walk.unborn start → start < x.0
  below_place walk walked start h =
      let low = end_low (view_typed typed) (view_instructions (take i all)) (viewed x) (view_instructions (drop (i + 1) all)) (place_split all i x within is) (from_start all rising) in
      omega (arith, low, ((walked.unborn start).0 h).begun)

  -- one instruction more
  pub walk_place : (calls : List Met) → IsTable (view_instructions all) (map view_frame typed.frames) calls → (fences : List Bool) → IsFences (view_typed typed).code fences → (fenced : Bool) → IsTrue fenced ↔ IsMarked fences x.0 → (ended : Option ℕ) → IsEnded calls x.0 (view_instruction x.1) (map view_frame (drop i typed.frames)) ended
      → (old new : Walk) → IsStep fenced x.0 (role_of (view_instruction x.1)) (first_role (view_instructions (drop (i + 1) all))) ended old new → IsWalked (view_typed typed) (view_instructions (take i all)) old → IsWalked (view_typed typed) (view_instructions (take (i + 1) all)) new
  walk_place calls table fences are fenced marked ended ends old new step walked =
      let done = view_instructions (take i all) in
      let rest = view_instructions (drop (i + 1) all) in
      let split = place_split all i x within is in
      let rises = from_start all rising in
      subst (λ taken. IsWalked (view_typed typed) taken new) (sym (place_taken all i x within is))
      (walk_more (view_typed typed) done (viewed x) rest split rises fenced
      (λ yes. are.marked x.0 (marked.0 yes))
      (λ not by. both_ways fenced not (marked.1 (are.fenced x.0 (rw (here_is (view_typed typed) done (viewed x) rest split rises) refl) by)))
      ended
      (ended_at (view_typed typed) done (viewed x) rest split rises calls table ended (subst (λ frames. IsEnded calls x.0 (view_instruction x.1) frames ended) (place_frames all i x within is typed.frames) ends))
      old new step walked)

-- all instructions
pub walk_places : (typed : code_typed.Typed) → IsRising (view_instructions typed.code.instructions) → (i : ℕ) → length typed.code.instructions ≤ i → (walk : Walk) → IsWalked (view_typed typed) (view_instructions (take i typed.code.instructions)) walk → (start : ℕ) → IsNewAt (view_instructions typed.code.instructions) start → IsMarked walk.written start ↔ ((call : ℕ) × IsWritten (view_typed typed) start call)
walk_places typed rising i past walk walked =
    walk_all (view_typed typed) walk (from_start typed.code.instructions rising) (subst (λ taken. IsWalked (view_typed typed) (view_instructions taken) walk) (take_all i typed.code.instructions past) walked)
