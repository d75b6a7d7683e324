-- The walk over code: what is known behind one instruction more.
use Rattle.std.proofs.Common.{◌≡◌, ℕ, suc, ◌+◌, ◌<◌, ◌≤◌, Bool, true, false, List, [], ◌∷◌, ◌++◌, Option, Some, None, length, drop, refl, sym, ap, ◌∙◌, subst, inl, inr, arith, ne_eqb}
use Rattle.std.specs.Prelude.{slice_index_or, MatchOption, is_none, nat_lt, if◌then◌else◌}
use Rattle.std.proofs.lemmas.Bool.{cases_lt, cases_Bool, and_parts, ltb-true, lt-ltb, false≢true}
use Rattle.std.proofs.lemmas.Bool.Decides.{eqb_tells}
use Rattle.std.proofs.lemmas.List.{drop-drop, get_or_past}
use Rattle.std.proofs.lemmas.Option.{none-some}
use Rattle.dj_names.specs.MethodNames.{is_constructor}
use Rattle.dj_names.specs.Types.{result_of}
use Rattle.dj_instructions.specs.Instructions.{Instruction, Instructions, instruction_at, IsRisingFrom}
use Rattle.dj_frames.specs.Frames.{Frame}
use Rattle.dj_code.specs.MethodCode.{Code, Typed}
use Rattle.dj_code.specs.Targets.{IsStart}
use Rattle.dj_starts.specs.declared.calls.Met.{Met}
use Rattle.dj_starts.specs.declared.calls.Met.TheVariants as met
use Rattle.dj_starts.specs.declared.roles.Role.TheVariants as role
use Rattle.dj_starts.specs.Births.{role_of, ConstructsFirst, Meets, IsOnlyCall, IsBound}
use Rattle.dj_starts.specs.Starts.{IsGiven}
use Rattle.dj_starts.specs.Marks.{IsMarked, IsRoom, MarksMore}
use Rattle.dj_starts.specs.Walking.{IsFences, IsTable, Tells, behind_all, only_call, call_behind}
use Rattle.dj_starts.proofs.Marking.{both_more}
use Rattle.dj_starts.proofs.PcLemmas.{none_starts}
use Rattle.dj_starts.proofs.BetweenLemmas.{not_below, rises_behind, rises_before}

-- ---- fences

-- where an instruction begins, there is room
room_within : (code : Code) (marks : List Bool) → IsRoom code.instructions (length marks) → (pc : ℕ) → IsStart code.instructions pc → pc < length marks
room_within code marks room pc at = elim (cases_lt pc (length marks)) [ inl within ↦ within | inr past ↦ absurd (none_starts code.instructions pc (room.within pc past) at) ]

pub fences_are : (code : Code) (none given bounds : List Bool) → IsRoom code.instructions (length none) → ((pc : ℕ) → IsMarked none pc → ⊥) → MarksMore none given (IsGiven code.frames) → MarksMore given bounds (IsBound code.handlers) → IsFences code bounds
fences_are code none given bounds room unmarked frames ranges =
    let all = both_more none given bounds (IsGiven code.frames) (IsBound code.handlers) frames ranges in
    record {
      marked = λ pc h. elim (all.only pc h) [ inl old ↦ absurd (unmarked pc old) | inr by ↦ by ];
      fenced = λ pc at by. all.these pc (room_within code none room pc at) by;
    }

-- ---- places

-- the instruction at a pc, among others that rise
pub at_here : (least : ℕ) (done : Instructions) (at : ℕ × Instruction) (rest : Instructions) → IsRisingFrom least (done ++ at ∷ rest) → instruction_at (done ++ at ∷ rest) at.0 ≡ Some at.1
at_here least [] at rest rising = elim (eqb_tells at.0 at.0) [ inl same ↦ rw same.0 refl | inr differ ↦ absurd (differ.1 refl) ]
at_here least (x ∷ done) at rest rising =
    let low = not_below (x.0 + 1) done (rises_before (x.0 + 1) done (at ∷ rest) rising.1) in
    let next = rises_behind (x.0 + 1) done (at ∷ rest) rising.1 in
    rw (ne_eqb x.0 at.0 (λ same. omega (arith, same, low, next.0))) (at_here (x.0 + 1) done at rest rising.1)

refl_le : (n : ℕ) → n ≤ n
refl_le n = omega arith

-- none begins below where they begin
none_below : (least : ℕ) (l : Instructions) (pc : ℕ) → IsRisingFrom least l → pc < least → instruction_at l pc ≡ None
none_below least [] pc rising below = refl
none_below least (x ∷ l) pc rising below = rw (ne_eqb x.0 pc (λ same. omega (arith, same, rising.0))) (none_below (x.0 + 1) l pc rising.1 (omega (arith, rising.0)))

-- one that begins before the next one is among those done
pub before_next : (least : ℕ) (done : Instructions) (at : ℕ × Instruction) (rest : Instructions) (pc : ℕ) (i : Instruction) → IsRisingFrom least (done ++ at ∷ rest) → instruction_at (done ++ at ∷ rest) pc ≡ Some i → pc < at.0 → pc < behind_all least done
before_next least [] at rest pc i rising is below = absurd (none-some i (sym (none_below at.0 (at ∷ rest) pc (refl_le at.0, rising.1) below) ∙ is))
before_next least (x ∷ done) at rest pc i rising is below =
    elim (eqb_tells x.0 pc) [
      | inl same ↦ omega (arith, same.1, not_below (x.0 + 1) done (rises_before (x.0 + 1) done (at ∷ rest) rising.1))
      | inr differ ↦ before_next (x.0 + 1) done at rest pc i rising.1 (rw differ.0 at is) below
    ]

-- ---- calls

-- the pc of a call isn't below where the instructions begin
meets_low : (least : ℕ) (l : Instructions) (frames : List Frame) (start call : ℕ) → IsRisingFrom least l → Meets l frames start call → least ≤ call
meets_low least [] frames start call rising meets = absurd meets
meets_low least (x ∷ l) frames start call rising (inl here) = omega (arith, rising.0, here.0)
meets_low least (x ∷ l) frames start call rising (inr later) = omega (arith, rising.0, meets_low (x.0 + 1) l (drop 1 frames) start call rising.1 later)

-- an instruction begins there
pub meets_start : (least : ℕ) (l : Instructions) (frames : List Frame) (start call : ℕ) → IsRisingFrom least l → Meets l frames start call → (i : Instruction) × (instruction_at l call ≡ Some i)
meets_start least [] frames start call rising meets = absurd meets
meets_start least (x ∷ l) frames start call rising (inl here) = elim (eqb_tells x.0 call) [ inl same ↦ (x.1, rw same.0 refl) | inr differ ↦ absurd (differ.1 here.0) ]
meets_start least (x ∷ l) frames start call rising (inr later) =
    let low = meets_low (x.0 + 1) l (drop 1 frames) start call rising.1 later in
    let i = meets_start (x.0 + 1) l (drop 1 frames) start call rising.1 later in
    (i.0, rw (ne_eqb x.0 call (λ same. omega (arith, same, low))) i.1)

-- the call at a pc is the one of the instruction there
pub meets_here : (least : ℕ) (done : Instructions) (at : ℕ × Instruction) (rest : Instructions) (frames : List Frame) (start : ℕ) → IsRisingFrom least (done ++ at ∷ rest) → Meets (done ++ at ∷ rest) frames start at.0 → ConstructsFirst at.1 (drop (length done) frames) start
meets_here least [] at rest frames start rising (inl here) = here.1
meets_here least [] at rest frames start rising (inr later) = let low = meets_low (at.0 + 1) rest (drop 1 frames) start at.0 rising.1 later in absurd (omega (arith, low))
meets_here least (x ∷ done) at rest frames start rising (inl here) =
    let low = not_below (x.0 + 1) done (rises_before (x.0 + 1) done (at ∷ rest) rising.1) in
    let next = rises_behind (x.0 + 1) done (at ∷ rest) rising.1 in
    absurd (omega (arith, low, next.0, here.0))
meets_here least (x ∷ done) at rest frames start rising (inr later) =
    let count : 1 + length done ≡ suc (length done) = omega arith in
    subst (λ fs. ConstructsFirst at.1 fs start) (drop-drop (length done) 1 frames ∙ ap (λ n. drop n frames) count) (meets_here (x.0 + 1) done at rest (drop 1 frames) start rising.1 later)

if_some : (b : Bool) (o : Option ℕ) (n : ℕ) → (if b then o else None) ≡ Some n → b ≡ true
if_some true o n some = refl
if_some false o n some = absurd (none-some n some)

-- what constructs is a call without a result
pub constructs_silent : (i : Instruction) (frames : List Frame) (start : ℕ) → ConstructsFirst i frames start → role_of i ≡ role.Silent
constructs_silent i [] start constructs = absurd constructs
constructs_silent i (frame ∷ frames) start constructs =
    let both = and_parts (is_constructor constructs.method.name) (is_none (result_of constructs.method.descriptor)) (if_some _ _ start constructs.of) in
    rw (constructs.is, both.1) refl

-- ---- the table

module _ (typed : Typed) (calls : List Met) (rising : IsRisingFrom 0 typed.code.instructions) (table : IsTable typed.code.instructions typed.frames calls) where
  told : (start : ℕ) (m : Met) → Tells m (Meets typed.code.instructions typed.frames start) → MatchOption (call_behind start m) ((call : ℕ) → IsOnlyCall typed start call → ⊥) (IsOnlyCall typed start)
  told start met.No tells = λ call only. tells call only.meets
  told start (met.Once first) tells = elim (cases_Bool (nat_lt start first)) [
    | inl behind ↦ rw behind (record { meets = tells.meets; only = tells.only; behind = ltb-true start first behind })
    | inr before ↦ rw before (λ call only. false≢true (sym before ∙ lt-ltb start first (subst (λ n. start < n) (tells.only call only.meets) only.behind)))
  ]
  told start met.Often tells = λ call only. let one = only.only tells.one tells.meets in let other = only.only tells.other tells.also in omega (arith, tells.differ, one, other)

  pub only_tells : (start : ℕ) → MatchOption (only_call calls start) ((call : ℕ) → IsOnlyCall typed start call → ⊥) (IsOnlyCall typed start)
  only_tells start = elim (cases_lt start (length calls)) [
    | inl within ↦ told start (slice_index_or calls start met.No) (table.tells start within)
    | inr past ↦ rw (get_or_past calls start met.No past) (λ call only.
        let i = meets_start 0 typed.code.instructions typed.frames start call rising only.meets in
        let within : call < length calls = elim (cases_lt call (length calls)) [ inl within ↦ within | inr out ↦ absurd (none_starts typed.code.instructions call (table.room.within call out) (rw i.1 refl)) ] in
        omega (arith, within, only.behind))
  ]

  pub only_is : (start call : ℕ) → IsOnlyCall typed start call → only_call calls start ≡ Some call
  only_is start call only = go (only_call calls start) (only_tells start) where
    go : (o : Option ℕ) → MatchOption o ((call : ℕ) → IsOnlyCall typed start call → ⊥) (IsOnlyCall typed start) → o ≡ Some call
    go None none = absurd (none call only)
    go (Some other) is = ap Some (only.only other is.meets)
