-- The object that an instruction constructs.
use Rattle.std.proofs.Common.{◌≡◌, ℕ, zero, suc, ◌+◌, ◌<◌, ◌≤◌, ◌⊎◌, ◌↔◌, List, [], ◌∷◌, ◌++◌, length, drop, set, Option, Some, None, refl, sym, ap, ◌∙◌, subst, inl, inr, arith}
use Rattle.std.specs.Prelude.{slice_index_or}
use Rattle.std.proofs.lemmas.Bool.{cases_eq}
use Rattle.std.proofs.lemmas.Option.{none-some, same_Some}
use Rattle.std.proofs.lemmas.List.{get_or-set_same, get_or-set_other}
use Rattle.dj_instructions.specs.Instructions.{Instruction, Instructions, InvokeSpecial, MethodRef, IsRisingFrom}
use Rattle.dj_frames.specs.Frames.{Frame}
use Rattle.dj_starts.specs.declared.calls.Met.{Met}
use Rattle.dj_starts.specs.declared.calls.Met.TheVariants as met
use Rattle.dj_starts.specs.Births.{constructed_by, ConstructsFirst, Meets}
use Rattle.dj_starts.specs.Walking.{AreTwo, Tells, once_more, IsNoted}

-- one at most
pub one_constructed : (i : Instruction) (frames : List Frame) (a b : ℕ) → ConstructsFirst i frames a → ConstructsFirst i frames b → a ≡ b
one_constructed i [] a b x y = absurd x
one_constructed i (frame ∷ frames) a b x y =
    let same : x.method ≡ y.method = cc in
    same_Some a b (sym x.of ∙ ap (λ m. constructed_by m frame) same ∙ y.of)

special_or : (i : Instruction) → ((m : MethodRef) × (i ≡ InvokeSpecial m)) ⊎ ((m : MethodRef) → i ≡ InvokeSpecial m → ⊥)
special_or (InvokeSpecial m) = inl (m, refl)
special_or i = inr (λ m same. absurd (cc))

some_or : (o : Option ℕ) (n : ℕ) → (o ≡ Some n) ⊎ (o ≡ Some n → ⊥)
some_or None n = inr (λ same. none-some n same)
some_or (Some m) n = elim (cases_eq m n) [ inl same ↦ inl (ap Some same) | inr differ ↦ inr (λ same. differ (same_Some m n same)) ]

-- this one or not
pub constructs_or : (i : Instruction) (frames : List Frame) (start : ℕ) → ConstructsFirst i frames start ⊎ (ConstructsFirst i frames start → ⊥)
constructs_or i [] start = inr (λ c. c)
constructs_or i (frame ∷ frames) start = elim (special_or i) [
  | inl special ↦ elim (some_or (constructed_by special.0 frame) start) [
    | inl of ↦ inl record { method = special.0; is = special.1; of = of }
    | inr not ↦ inr (λ c. let same : c.method ≡ special.0 = cc in not (subst (λ m. constructed_by m frame ≡ Some start) same c.of))
  ]
  | inr none ↦ inr (λ c. none c.method c.is)
]

-- ---- calls, one instruction after another

rises_later : (less more : ℕ) (l : Instructions) → less ≤ more → IsRisingFrom more l → IsRisingFrom less l
rises_later less more [] le rising = tt
rises_later less more (x ∷ l) le rising = (omega (arith, rising.0), rising.1)

-- what is known of all calls, where these instructions are left, which make these calls
abbrev pub Extends : Met → Instructions → (ℕ → Type 0) → (ℕ → Type 0) → Type 0
Extends met.No left Left All = (call : ℕ) → All call ↔ Left call
Extends (met.Once first) left Left All = All first × ((call : ℕ) → All call → (call ≡ first) ⊎ Left call) × ((call : ℕ) → Left call → All call) × IsRisingFrom (first + 1) left
Extends met.Often left Left All = AreTwo All

module _ (at : ℕ × Instruction) (rest : Instructions) (frames : List Frame) (start : ℕ) (rising : IsRisingFrom (at.0 + 1) rest) (All : ℕ → Type 0) where
  abbrev Later : ℕ → Type 0
  Later call = Meets rest (drop 1 frames) start call

  -- the object is constructed once more
  extends_this : (m : Met) → ConstructsFirst at.1 frames start → Extends m (at ∷ rest) (Meets (at ∷ rest) frames start) All → Extends (once_more m at.0) rest Later All
  extends_this met.No this known = (
    (known at.0).1 (inl (refl, this)),
    λ call meets. elim ((known call).0 meets) [ inl here ↦ inl (sym here.0) | inr later ↦ inr later ],
    λ call later. (known call).1 (inr later),
    rising,
  )
  extends_this (met.Once first) this known = record { one = first; other = at.0; meets = known.0; also = known.2 at.0 (inl (refl, this)); differ = omega (arith, known.3.0) }
  extends_this met.Often this known = known

  -- another one, or none
  extends_other : (m : Met) → (ConstructsFirst at.1 frames start → ⊥) → Extends m (at ∷ rest) (Meets (at ∷ rest) frames start) All → Extends m rest Later All
  extends_other met.No other known = λ call. (
    λ meets. elim ((known call).0 meets) [ inl here ↦ absurd (other here.1) | inr later ↦ later ],
    λ later. (known call).1 (inr later),
  )
  extends_other (met.Once first) other known = (
    known.0,
    λ call meets. elim (known.1 call meets) [ inl same ↦ inl same | inr left ↦ elim left [ inl here ↦ absurd (other here.1) | inr later ↦ inr later ] ],
    λ call later. known.2 call (inr later),
    rises_later (first + 1) (at.0 + 1) rest (omega (arith, known.3.0)) rising,
  )
  extends_other met.Often other known = known

  -- what is noted
  pub extends_noted : (old new : List Met) → IsNoted at.0 at.1 frames old new → start < length old → Extends (slice_index_or old start met.No) (at ∷ rest) (Meets (at ∷ rest) frames start) All → Extends (slice_index_or new start met.No) rest Later All
  extends_noted old new noted within known = elim (constructs_or at.1 frames start) [
    | inl this ↦ subst (λ m. Extends m rest Later All) (sym (noted.this start within this)) (extends_this (slice_index_or old start met.No) this known)
    | inr other ↦ subst (λ m. Extends m rest Later All) (sym (noted.others start other)) (extends_other (slice_index_or old start met.No) other known)
  ]

-- where nothing is left, all is told
pub extends_all : (m : Met) (All : ℕ → Type 0) → Extends m [] (λ call. ⊥) All → Tells m All
extends_all met.No All known = λ call meets. (known call).0 meets
extends_all (met.Once first) All known = record { meets = known.0; only = λ other meets. elim (known.1 other meets) [ inl same ↦ same | inr none ↦ absurd none ] }
extends_all met.Often All known = known

-- a call is noted
pub noted_set : (pc : ℕ) (i : Instruction) (frames : List Frame) (calls : List Met) (object : ℕ) → object < length calls → ConstructsFirst i frames object → length (set calls object (once_more (slice_index_or calls object met.No) pc)) ≡ length calls → IsNoted pc i frames calls (set calls object (once_more (slice_index_or calls object met.No) pc))
noted_set pc i frames calls object within constructs room = record {
  room = room;
  this = λ start short this. let same : start ≡ object = one_constructed i frames start object this constructs in rw same (get_or-set_same calls object (once_more (slice_index_or calls object met.No) pc) met.No within);
  others = λ start other. get_or-set_other calls object start (once_more (slice_index_or calls object met.No) pc) met.No (λ same. other (subst (λ n. ConstructsFirst i frames n) (sym same) constructs));
}

-- one entry more that tells of none
pub none_push : (calls : List Met) (start : ℕ) → slice_index_or calls start met.No ≡ met.No → slice_index_or (calls ++ met.No ∷ []) start met.No ≡ met.No
none_push [] zero none = refl
none_push [] (suc start) none = refl
none_push (m ∷ calls) zero none = none
none_push (m ∷ calls) (suc start) none = none_push calls start none
