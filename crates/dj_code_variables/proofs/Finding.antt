-- The frame at the offset where a block starts, if it has one.
use Rattle.std.proofs.Common.{◌≡◌, ℕ, zero, suc, ◌<◌, List, [], ◌∷◌, ◌++◌, length, map, Option, Some, None, refl, sym, ap, ◌∙◌, subst, arith, inl, inr}
use Rattle.std.specs.Prelude.{slice_get, slice_index_or, option_map}
use Rattle.std.proofs.lemmas.Option.{slice_get-map, slice_get-get_or, slice_get_cases, none-some, same_Some}
use Rattle.dj_instructions.specs.declared.instruction.Instruction as declared
use Rattle.dj_instructions.specs.Instructions.{Instruction, view_instruction, view_instructions, IsRising}
use Rattle.dj_instructions.specs.Places.{IsPlaceOf, IsNoPlace}
use Rattle.dj_frames.specs.declared.frame.Frame as code_frame
use Rattle.dj_frames.specs.Frames.{Frame, view_frame}
use Rattle.dj_code.specs.declared.method_code.Typed as code_typed
use Rattle.dj_code.specs.MethodCode.{Typed, view_typed}
use Rattle.dj_tags.specs.Goes.{Working, top_down}
use Rattle.dj_numbers.specs.Frames.{view_first}
use Rattle.dj_numbers.proofs.Numbering.{pushed}
use Rattle.dj_vars.specs.Naming.{IsAt}
use Rattle.dj_code_variables.specs.Firsts.{IsFrameAt, IsFirstAt}
use Rattle.dj_code_variables.proofs.Places.{one-place, is-at, here-at, frame-at}

abbrev Listed : Type 0
Listed = List (ℕ × declared.Instruction)

-- the instruction at a place
record IsListed (list : Listed) (pc place : ℕ) : Type 0 where
  found : ℕ × declared.Instruction
  there : slice_get list place ≡ Some found
  same : found.0 ≡ pc

listed : (list : Listed) (pc place : ℕ) → IsPlaceOf list pc place → IsListed list pc place
listed list pc place is = elim (slice_get_cases list place).1 [
  | inl some ↦ record { found = some.0; there = some.2; same = ap (λ (at : ℕ × declared.Instruction). at.0) (sym some.3) ∙ is.here some.0 }
  | inr past ↦ absurd (let less = is.within in let over = past.0 in omega (arith, less, over))
]

see : ℕ × declared.Instruction → ℕ × Instruction
see at = (at.0, view_instruction at.1)

module _ (typed : code_typed.Typed) (rising : IsRising (view_instructions typed.code.instructions)) (pc place : ℕ) (is : IsPlaceOf typed.code.instructions pc place) where
  own : IsListed typed.code.instructions pc place
  own = listed typed.code.instructions pc place is

  seen : slice_get (view_instructions typed.code.instructions) place ≡ Some (pc, view_instruction own.found.1)
  seen = slice_get-map (λ (at : ℕ × declared.Instruction). (at.0, view_instruction at.1)) typed.code.instructions place
      ∙ ap (option_map (λ (at : ℕ × declared.Instruction). (at.0, view_instruction at.1))) own.there
      ∙ ap (λ (n : ℕ). Some (n, view_instruction own.found.1)) own.same

  -- each instruction at the offset is there
  placed : (instruction : Instruction) (frame : Working) → (at : IsAt (view_typed typed) pc instruction frame) → at.place ≡ place
  placed instruction frame at =
      one-place (view_instructions typed.code.instructions) at.place place (pc, instruction) (pc, view_instruction own.found.1) rising refl (here-at (view_typed typed) pc instruction frame at) seen

  pub first-found : (frame : code_frame.Frame) → slice_get typed.frames place ≡ Some frame → IsFrameAt (view_typed typed) pc (view_frame frame)
  first-found frame e =
      let viewed = slice_get-map view_frame typed.frames place ∙ ap (option_map view_frame) e in
      record {
        instruction = view_instruction own.found.1;
        at = is-at (view_typed typed) place pc (view_instruction own.found.1) (view_frame frame) seen viewed;
        only = λ other found at.
            let frames = frame-at (view_typed typed) pc other found at in
            sym frames.is ∙ ap top_down (same_Some frames.seen (view_frame frame) (sym frames.listed ∙ ap (slice_get (map view_frame typed.frames)) (placed other found at) ∙ viewed));
      }

  pub first-none : slice_get typed.frames place ≡ None → IsFirstAt (view_typed typed) pc None
  first-none e instruction found at =
      let frames = frame-at (view_typed typed) pc instruction found at in
      none-some frames.seen (sym (slice_get-map view_frame typed.frames place ∙ ap (option_map view_frame) e) ∙ sym (ap (slice_get (map view_frame typed.frames)) (placed instruction found at)) ∙ frames.listed)

pub no-first : (typed : code_typed.Typed) (pc : ℕ) → IsNoPlace typed.code.instructions pc → IsFirstAt (view_typed typed) pc None
no-first typed pc none instruction found at = by (slice_get typed.code.instructions at.place) refl
  where
    there : slice_get (view_instructions typed.code.instructions) at.place ≡ Some (pc, instruction)
    there = here-at (view_typed typed) pc instruction found at

    by : (one : Option (ℕ × declared.Instruction)) → slice_get typed.code.instructions at.place ≡ one → ⊥
    by None e = none-some (pc, instruction) (sym (slice_get-map (λ (at : ℕ × declared.Instruction). (at.0, view_instruction at.1)) typed.code.instructions at.place ∙ ap (option_map (λ (at : ℕ × declared.Instruction). (at.0, view_instruction at.1))) e) ∙ there)
    by (Some one) e =
        let same = same_Some (one.0, view_instruction one.1) (pc, instruction) (sym (slice_get-map (λ (at : ℕ × declared.Instruction). (at.0, view_instruction at.1)) typed.code.instructions at.place ∙ ap (option_map (λ (at : ℕ × declared.Instruction). (at.0, view_instruction at.1))) e) ∙ there) in
        elim (slice_get_cases typed.code.instructions at.place).1 [
          | inl some ↦ (let read = some.3 in let equal = same_Some some.0 one (sym some.2 ∙ e) in
              none.none at.place one some.1 (ap (λ (found : ℕ × declared.Instruction). found.0) (ap (slice_index_or typed.code.instructions at.place) (sym equal) ∙ read ∙ equal) ∙ ap (λ (found : ℕ × Instruction). found.0) same))
          | inr past ↦ none-some one (sym past.1 ∙ e)
        ]

-- ---- blocks, one after another

pub absent : (list : List (Option ℕ)) (place : ℕ) → None ≡ slice_get list place → None ≡ slice_index_or list place None
absent [] place none = refl
absent (first ∷ more) zero none = absurd (none-some first none)
absent (first ∷ more) (suc place) none = absent more place none

pub next-first : (typed : Typed) (starts : List ℕ) (firsts : List (Option code_frame.Frame)) (one : Option code_frame.Frame) (index : ℕ) → length firsts ≡ index → index < length starts → IsFirstAt typed (slice_index_or starts index 0) (view_first one)
    → ((block start : ℕ) (first : Option Frame) → slice_get starts block ≡ Some start → slice_get (map view_first firsts) block ≡ Some first → IsFirstAt typed start first)
    → (block start : ℕ) (first : Option Frame) → slice_get starts block ≡ Some start → slice_get (map view_first (firsts ++ one ∷ [])) block ≡ Some first → IsFirstAt typed start first
next-first typed starts firsts one index long within is earlier block start first listed e = by (slice_get (firsts ++ one ∷ []) block) refl
  where
    by : (found : Option (Option code_frame.Frame)) → slice_get (firsts ++ one ∷ []) block ≡ found → IsFirstAt typed start first
    by None f = absurd (none-some first (sym (slice_get-map view_first (firsts ++ one ∷ []) block ∙ ap (option_map view_first) f) ∙ e))
    by (Some found) f =
        let same = same_Some (view_first found) first (sym (slice_get-map view_first (firsts ++ one ∷ []) block ∙ ap (option_map view_first) f) ∙ e) in
        elim (pushed firsts one block found f) [
          | inl old ↦ earlier block start first listed (slice_get-map view_first firsts block ∙ ap (option_map view_first) old ∙ ap Some same)
          | inr last ↦ (let read = slice_get-get_or starts index 0 within in
              let here = same_Some (slice_index_or starts index 0) start (sym read ∙ ap (slice_get starts) (sym (last.0 ∙ long)) ∙ listed) in
              subst (IsFirstAt typed start) (ap view_first last.1 ∙ same) (subst (λ (pc : ℕ). IsFirstAt typed pc (view_first one)) here is))
        ]
