-- What is known behind one instruction more of the walk.
use Rattle.std.proofs.Common.{◌≡◌, ℕ, ◌+◌, ◌<◌, ◌≤◌, ◌⊎◌, ◌↔◌, Bool, true, false, List, [], ◌∷◌, ◌++◌, Option, Some, None, length, drop, refl, sym, ap, ◌∙◌, subst, inl, inr, arith}
use Rattle.std.specs.List.{Contains}
use Rattle.std.specs.Prelude.{is_none, if◌then◌else◌}
use Rattle.std.proofs.lemmas.Bool.{cases_lt, cases_Bool}
use Rattle.std.proofs.lemmas.Bool.Decides.{eqb_tells}
use Rattle.std.proofs.lemmas.Option.{none-some, same_Some, MatchOption-at_some}
use Rattle.dj_names.specs.Types.{result_of}
use Rattle.dj_instructions.specs.Instructions.{Instruction, Instructions, New, InvokeVirtual, InvokeSpecial, InvokeStatic, InvokeInterface, InvokeDynamic, instruction_at, IsRisingFrom}
use Rattle.dj_stack_map.specs.StackMap.{IsNewAt}
use Rattle.dj_code.specs.MethodCode.{Typed}
use Rattle.dj_starts.specs.declared.calls.Met.{Met}
use Rattle.dj_starts.specs.declared.roles.Role.{Role}
use Rattle.dj_starts.specs.declared.roles.Role.TheVariants as role
use Rattle.dj_starts.specs.declared.walk.Walk.{Walk}
use Rattle.dj_starts.specs.Births.{role_of, first_role, Meets, IsOnlyCall, EndsInside, IsAllowed, IsFree, Between, IsWritten}
use Rattle.dj_starts.specs.Marks.{IsMarked, IsRoom}
use Rattle.dj_starts.specs.Walking.{IsStep, IsWalked, IsEndedAt, IsFenced, IsTable, IsEnded, GoesOnTo, IsWrittenTo, GoesBy, Begins, barred_from, last_role, behind_all}
use Rattle.dj_starts.proofs.PcLemmas.{none_starts}
use Rattle.dj_starts.proofs.BetweenLemmas.{not_below, rises_behind, between_less, between_none, between_here, between_more, between_gap}
use Rattle.dj_starts.proofs.Constructing.{one_constructed}
use Rattle.dj_starts.proofs.Walks.{at_here, before_next, meets_here, meets_start, constructs_silent, only_tells, only_is}

-- ---- roles

silent_or_plain : (b : Bool) → (if b then role.Silent else role.Plain) ≡ role.New → ⊥
silent_or_plain true same = cc
silent_or_plain false same = cc

-- an instruction of the role of a `new` is one
role_new : (i : Instruction) → role_of i ≡ role.New → (class : List ℕ) × (i ≡ New class)
role_new (New class) same = (class, refl)
role_new (InvokeVirtual method) same = absurd (silent_or_plain (is_none (result_of method.descriptor)) same)
role_new (InvokeSpecial method) same = absurd (silent_or_plain (is_none (result_of method.descriptor)) same)
role_new (InvokeStatic method) same = absurd (silent_or_plain (is_none (result_of method.descriptor)) same)
role_new (InvokeInterface method) same = absurd (silent_or_plain (is_none (result_of method.descriptor)) same)
role_new (InvokeDynamic bootstrap name descriptor) same = absurd (silent_or_plain (is_none (result_of descriptor)) same)
role_new i same = absurd (cc)

-- a birth begins with a `new` alone
begins_is : (r : Role) (pc start : ℕ) → Begins r pc start → (r ≡ role.New) × (start ≡ pc)
begins_is role.Plain pc start begins = absurd begins
begins_is role.Never pc start begins = absurd begins
begins_is role.New pc start begins = (refl, begins)
begins_is role.Dup pc start begins = absurd begins
begins_is role.Silent pc start begins = absurd begins

-- ---- what may stand in a birth

module _ (typed : Typed) (pc : ℕ) (ended : Option ℕ) (at : IsEndedAt typed pc ended) (one : (a b : ℕ) → IsOnlyCall typed a pc → IsOnlyCall typed b pc → a ≡ b) (start : ℕ) where
  inside_goes : (e : Option ℕ) → IsEndedAt typed pc e → EndsInside typed start pc → GoesBy (barred_from role.Plain role.Silent role.Plain e) start
  inside_goes None none inside = absurd (none inside.inner inside.ends)
  inside_goes (Some begun) is inside = let same = one inside.inner begun inside.ends is in omega (arith, same, inside.inside)

  goes_inside : (e : Option ℕ) → IsEndedAt typed pc e → GoesBy (barred_from role.Plain role.Silent role.Plain e) start → EndsInside typed start pc
  goes_inside None none goes = absurd (omega (arith, goes))
  goes_inside (Some begun) is goes = record { inner = begun; inside = goes; ends = is }

  pub allowed_goes : (before here behind : Role) → IsAllowed typed start pc before here behind → GoesBy (barred_from before here behind ended) start
  allowed_goes before role.Plain behind allowed = tt
  allowed_goes before role.Never behind allowed = absurd (allowed.never refl)
  allowed_goes before role.New behind allowed = rw (allowed.new refl) tt
  allowed_goes before role.Dup behind allowed = rw (allowed.dup refl) tt
  allowed_goes before role.Silent behind allowed = inside_goes ended at (allowed.call refl)

  new_goes : (behind : Role) → GoesBy (barred_from role.Plain role.New behind ended) start → behind ≡ role.Dup
  new_goes role.Plain goes = absurd (omega (arith, goes))
  new_goes role.Never goes = absurd (omega (arith, goes))
  new_goes role.New goes = absurd (omega (arith, goes))
  new_goes role.Dup goes = refl
  new_goes role.Silent goes = absurd (omega (arith, goes))

  dup_goes : (before : Role) → GoesBy (barred_from before role.Dup role.Plain ended) start → before ≡ role.New
  dup_goes role.Plain goes = absurd (omega (arith, goes))
  dup_goes role.Never goes = absurd (omega (arith, goes))
  dup_goes role.New goes = refl
  dup_goes role.Dup goes = absurd (omega (arith, goes))
  dup_goes role.Silent goes = absurd (omega (arith, goes))

  pub goes_allowed : (before here behind : Role) → GoesBy (barred_from before here behind ended) start → IsAllowed typed start pc before here behind
  goes_allowed before role.Plain behind goes = record { never = λ same. cc; dup = λ same. absurd (cc); new = λ same. absurd (cc); call = λ same. absurd (cc) }
  goes_allowed before role.Never behind goes = absurd (omega (arith, goes))
  goes_allowed before role.New behind goes = record { never = λ same. cc; dup = λ same. absurd (cc); new = λ same. new_goes behind goes; call = λ same. absurd (cc) }
  goes_allowed before role.Dup behind goes = record { never = λ same. cc; dup = λ same. dup_goes before goes; new = λ same. absurd (cc); call = λ same. absurd (cc) }
  goes_allowed before role.Silent behind goes = record { never = λ same. cc; dup = λ same. absurd (cc); new = λ same. absurd (cc); call = λ same. goes_inside ended at goes }

-- ---- one instruction more

behind_push : (least : ℕ) (done : Instructions) (at : ℕ × Instruction) → behind_all least (done ++ at ∷ []) ≡ at.0 + 1
behind_push least [] at = refl
behind_push least (x ∷ done) at = behind_push (x.0 + 1) done at

role_push : (before : Role) (done : Instructions) (at : ℕ × Instruction) → last_role before (done ++ at ∷ []) ≡ role_of at.1
role_push before [] at = refl
role_push before (x ∷ done) at = role_push (role_of x.1) done at

module _ (typed : Typed) (done : Instructions) (at : ℕ × Instruction) (rest : Instructions) (split : typed.code.instructions ≡ done ++ at ∷ rest) (rising : IsRisingFrom 0 typed.code.instructions) where
  split_rising : IsRisingFrom 0 (done ++ at ∷ rest)
  split_rising = subst (λ l. IsRisingFrom 0 l) split rising

  pub end_low : behind_all 0 done ≤ at.0
  end_low = (rises_behind 0 done (at ∷ rest) split_rising).0

  -- two births don't end at one call
  pub one_ends : (a b : ℕ) → IsOnlyCall typed a at.0 → IsOnlyCall typed b at.0 → a ≡ b
  one_ends a b x y = one_constructed at.1 (drop (length done) typed.frames) a b
      (meets_here 0 done at rest typed.frames a split_rising (subst (λ l. Meets l typed.frames a at.0) split x.meets))
      (meets_here 0 done at rest typed.frames b split_rising (subst (λ l. Meets l typed.frames b at.0) split y.meets))

  -- the birth that ends here, by the table
  pub ended_at : (calls : List Met) → IsTable typed.code.instructions typed.frames calls → (ended : Option ℕ) → IsEnded calls at.0 at.1 (drop (length done) typed.frames) ended → IsEndedAt typed at.0 ended
  ended_at calls table None none = λ start only. none start (meets_here 0 done at rest typed.frames start split_rising (subst (λ l. Meets l typed.frames start at.0) split only.meets)) (only_is typed calls rising table start at.0 only)
  ended_at calls table (Some start) is = MatchOption-at_some _ _ at.0 is.1 (only_tells typed calls rising table start)

  -- the instruction with which a birth ends is a call without a result
  ends_silent : (start : ℕ) → IsOnlyCall typed start at.0 → role_of at.1 ≡ role.Silent
  ends_silent start only = constructs_silent at.1 (drop (length done) typed.frames) start (meets_here 0 done at rest typed.frames start split_rising (subst (λ l. Meets l typed.frames start at.0) split only.meets))

  -- what is asked up to behind this instruction
  up_to : (Asked : ℕ → Role → Role → Role → Type 0) (start : ℕ) → Between Asked start (behind_all 0 done) role.Plain typed.code.instructions → (start < at.0 → Asked at.0 (last_role role.Plain done) (role_of at.1) (first_role rest)) → Between Asked start (at.0 + 1) role.Plain typed.code.instructions
  up_to Asked start between here = subst (λ l. Between Asked start (at.0 + 1) role.Plain l) (sym split) (between_more Asked start 0 done at rest role.Plain split_rising (subst (λ l. Between Asked start (behind_all 0 done) role.Plain l) split between) here)

  by_this : (Asked : ℕ → Role → Role → Role → Type 0) (start : ℕ) → Between Asked start (at.0 + 1) role.Plain typed.code.instructions → start < at.0 → Asked at.0 (last_role role.Plain done) (role_of at.1) (first_role rest)
  by_this Asked start between above = between_here Asked start done at rest role.Plain (subst (λ l. Between Asked start (at.0 + 1) role.Plain l) split between) above

  before_this : (Asked : ℕ → Role → Role → Role → Type 0) (start : ℕ) → Between Asked start (behind_all 0 done) role.Plain typed.code.instructions → Between Asked start at.0 role.Plain typed.code.instructions
  before_this Asked start between = subst (λ l. Between Asked start at.0 role.Plain l) (sym split) (between_gap Asked start 0 done at rest role.Plain split_rising (subst (λ l. Between Asked start (behind_all 0 done) role.Plain l) split between))

  starts_room : {n : ℕ} → IsRoom typed.code.instructions n → (start : ℕ) → IsNewAt typed.code.instructions start → start < n
  starts_room {n} room start new = elim (cases_lt start n) [ inl within ↦ within | inr past ↦ absurd (none_starts typed.code.instructions start (room.within start past) (rw new.here refl)) ]

  begun_before : (start : ℕ) → IsNewAt typed.code.instructions start → start < at.0 → start < behind_all 0 done
  begun_before start new below = before_next 0 done at rest start (New new.class) split_rising (subst (λ l. instruction_at l start ≡ Some (New new.class)) split new.here) below

  pub here_is : instruction_at typed.code.instructions at.0 ≡ Some at.1
  here_is = subst (λ l. instruction_at l at.0 ≡ Some at.1) (sym split) (at_here 0 done at rest split_rising)

  new_role : IsNewAt typed.code.instructions at.0 → role_of at.1 ≡ role.New
  new_role new = ap role_of (same_Some at.1 (New new.class) (sym here_is ∙ new.here))

  role_is_new : role_of at.1 ≡ role.New → IsNewAt typed.code.instructions at.0
  role_is_new same = let i = role_new at.1 same in record { class = i.0; here = here_is ∙ ap Some i.1 }

  module _ (fenced : Bool) (fence : fenced ≡ true → IsFenced typed.code at.0) (unfenced : fenced ≡ false → IsFenced typed.code at.0 → ⊥) (ended : Option ℕ) (ends : IsEndedAt typed at.0 ended) where
    free_here : fenced ≡ false → IsFree typed.code at.0 (last_role role.Plain done) (role_of at.1) (first_role rest)
    free_here not = record { frames = λ given. unfenced not (inl given); ranges = λ bound. unfenced not (inr bound) }

    not_fenced : IsFree typed.code at.0 (last_role role.Plain done) (role_of at.1) (first_role rest) → fenced ≡ false
    not_fenced free = elim (cases_Bool fenced) [
      | inl is ↦ elim (fence is) [ inl given ↦ absurd (free.frames given) | inr bound ↦ absurd (free.ranges bound) ]
      | inr not ↦ not
    ]

    goes_more : (start : ℕ) → (GoesOnTo typed (behind_all 0 done) start × (fenced ≡ false) × GoesBy (barred_from (last_role role.Plain done) (role_of at.1) (first_role rest) ended) start) ⊎ Begins (role_of at.1) at.0 start → GoesOnTo typed (at.0 + 1) start
    goes_more start (inl was) = record {
      new = was.0.new;
      begun = omega (arith, was.0.begun, end_low);
      allowed = up_to (IsAllowed typed start) start was.0.allowed (λ _. goes_allowed typed at.0 ended ends one_ends start (last_role role.Plain done) (role_of at.1) (first_role rest) was.2);
      free = up_to (IsFree typed.code) start was.0.free (λ _. free_here was.1);
    }
    goes_more start (inr begins) =
        let is = begins_is (role_of at.1) at.0 start begins in
        subst (λ n. GoesOnTo typed (at.0 + 1) n) (sym is.1) record {
          new = role_is_new is.0;
          begun = omega arith;
          allowed = between_none (IsAllowed typed at.0) at.0 0 role.Plain typed.code.instructions (at.0 + 1) rising (omega arith);
          free = between_none (IsFree typed.code) at.0 0 role.Plain typed.code.instructions (at.0 + 1) rising (omega arith);
        }

    more_goes : (start : ℕ) → GoesOnTo typed (at.0 + 1) start → (GoesOnTo typed (behind_all 0 done) start × (fenced ≡ false) × GoesBy (barred_from (last_role role.Plain done) (role_of at.1) (first_role rest) ended) start) ⊎ Begins (role_of at.1) at.0 start
    more_goes start goes = elim (cases_lt start at.0) [
      | inl below ↦ inl (
        record {
          new = goes.new;
          begun = begun_before start goes.new below;
          allowed = between_less (IsAllowed typed start) start (behind_all 0 done) (at.0 + 1) role.Plain typed.code.instructions (omega (arith, end_low)) goes.allowed;
          free = between_less (IsFree typed.code) start (behind_all 0 done) (at.0 + 1) role.Plain typed.code.instructions (omega (arith, end_low)) goes.free;
        },
        not_fenced (by_this (IsFree typed.code) start goes.free below),
        allowed_goes typed at.0 ended ends one_ends start (last_role role.Plain done) (role_of at.1) (first_role rest) (by_this (IsAllowed typed start) start goes.allowed below),
      )
      | inr above ↦ let same : start ≡ at.0 = omega (arith, goes.begun) in inr (subst (λ r. Begins r at.0 start) (sym (new_role (subst (λ n. IsNewAt typed.code.instructions n) same goes.new))) same)
    ]

    -- a birth that ends here and was going on can be written
    written_more : (start : ℕ) → ended ≡ Some start → fenced ≡ false → GoesOnTo typed (behind_all 0 done) start → IsWrittenTo typed (at.0 + 1) start
    written_more start is not goes = record {
      new = goes.new;
      call = at.0;
      ended = omega arith;
      written = record {
        call = subst (λ e. IsEndedAt typed at.0 e) is ends;
        between = before_this (IsAllowed typed start) start goes.allowed;
        free = up_to (IsFree typed.code) start goes.free (λ _. free_here not);
      };
    }

    ended_is : (e : Option ℕ) → IsEndedAt typed at.0 e → (start : ℕ) → IsOnlyCall typed start at.0 → e ≡ Some start
    ended_is None none start only = absurd (none start only)
    ended_is (Some other) is start only = ap Some (one_ends other start is only)

    ending : (start : ℕ) → IsNewAt typed.code.instructions start → IsWritten typed start at.0 → (role_of at.1 ≡ role.Silent) × (ended ≡ Some start) × (fenced ≡ false) × GoesOnTo typed (behind_all 0 done) start
    ending start new written = (
      ends_silent start written.call,
      ended_is ended ends start written.call,
      not_fenced (by_this (IsFree typed.code) start written.free written.call.behind),
      record {
        new = new;
        begun = begun_before start new written.call.behind;
        allowed = between_less (IsAllowed typed start) start (behind_all 0 done) at.0 role.Plain typed.code.instructions end_low written.between;
        free = between_less (IsFree typed.code) start (behind_all 0 done) (at.0 + 1) role.Plain typed.code.instructions (omega (arith, end_low)) written.free;
      },
    )

    -- what can be written was so before, or ends here
    more_written : (start : ℕ) → IsWrittenTo typed (at.0 + 1) start → IsWrittenTo typed (behind_all 0 done) start ⊎ ((role_of at.1 ≡ role.Silent) × (ended ≡ Some start) × (fenced ≡ false) × GoesOnTo typed (behind_all 0 done) start)
    more_written start written = elim (cases_lt written.call at.0) [
      | inl below ↦
          let i = meets_start 0 typed.code.instructions typed.frames start written.call rising written.written.call.meets in
          inl record { new = written.new; call = written.call; ended = before_next 0 done at rest written.call i.0 split_rising (subst (λ l. instruction_at l written.call ≡ Some i.0) split i.1) below; written = written.written }
      | inr above ↦
          let same : written.call ≡ at.0 = omega (arith, written.ended) in
          inr (ending start written.new (subst (λ n. IsWritten typed start n) same written.written))
    ]

    -- the walk behind this instruction
    pub walk_more : (old new : Walk) → IsStep fenced at.0 (role_of at.1) (first_role rest) ended old new → IsWalked typed done old → IsWalked typed (done ++ at ∷ []) new
    walk_more old new step walked =
        let end = behind_push 0 done at in
        let goes = λ (start : ℕ). subst (λ before. Contains new.unborn start ↔ ((Contains old.unborn start × (fenced ≡ false) × GoesBy (barred_from before (role_of at.1) (first_role rest) ended) start) ⊎ Begins (role_of at.1) at.0 start)) walked.before (step.unborn start) in
        record {
          before = step.before ∙ sym (role_push role.Plain done at);
          rising = step.rising;
          unborn = λ start. subst (λ n. Contains new.unborn start ↔ GoesOnTo typed n start) (sym end) (
            λ h. elim ((goes start).0 h) [
              | inl was ↦ goes_more start (inl ((walked.unborn start).0 was.0, was.1, was.2))
              | inr begins ↦ goes_more start (inr begins)
            ],
            λ h. elim (more_goes start h) [
              | inl was ↦ (goes start).1 (inl ((walked.unborn start).1 was.0, was.1, was.2))
              | inr begins ↦ (goes start).1 (inr begins)
            ],
          );
          room = subst (λ n. IsRoom typed.code.instructions n) (sym step.written.room) walked.room;
          written = λ start. subst (λ n. IsMarked new.written start ↔ IsWrittenTo typed n start) (sym end) (
            λ h. elim (step.written.only start h) [
              | inl was ↦ let w = (walked.written start).0 was in record { new = w.new; call = w.call; ended = omega (arith, w.ended, end_low); written = w.written }
              | inr now ↦ written_more start now.1 now.2 ((walked.unborn start).0 now.3)
            ],
            λ h. elim (more_written start h) [
              | inl was ↦ step.written.kept start ((walked.written start).1 was)
              | inr now ↦ step.written.these start (starts_room walked.room start h.new) (now.0, now.1, now.2, (walked.unborn start).1 now.3)
            ],
          );
        }

-- ---- the whole walk

-- before any instruction nothing goes on, and nothing is written
pub walk_none : (typed : Typed) (walk : Walk) → walk.before ≡ role.Plain → walk.unborn ≡ [] → IsRoom typed.code.instructions (length walk.written) → ((pc : ℕ) → IsMarked walk.written pc → ⊥) → IsWalked typed [] walk
walk_none typed walk before unborn room none = record {
  before = before;
  rising = rw unborn (λ i j d less within. absurd (omega arith));
  unborn = λ start. rw unborn (λ h. absurd (omega (arith, h.1)), λ h. absurd (omega (arith, h.begun)));
  room = room;
  written = λ start. (λ h. absurd (none start h), λ h. absurd (omega (arith, h.ended)));
}

-- an instruction begins before the end
starts_before : (least : ℕ) (l : Instructions) (pc : ℕ) (i : Instruction) → IsRisingFrom least l → instruction_at l pc ≡ Some i → pc < behind_all least l
starts_before least [] pc i rising is = absurd (none-some i is)
starts_before least (x ∷ l) pc i rising is = elim (eqb_tells x.0 pc) [
  | inl same ↦ omega (arith, same.1, not_below (x.0 + 1) l rising.1)
  | inr differ ↦ starts_before (x.0 + 1) l pc i rising.1 (rw differ.0 at is)
]

-- behind all instructions, what can be written is marked
pub walk_all : (typed : Typed) (walk : Walk) → IsRisingFrom 0 typed.code.instructions → IsWalked typed typed.code.instructions walk → (start : ℕ) → IsNewAt typed.code.instructions start → IsMarked walk.written start ↔ ((call : ℕ) × IsWritten typed start call)
walk_all typed walk rising walked start new = (
  λ h. let w = (walked.written start).0 h in (w.call, w.written),
  λ w.
      let i = meets_start 0 typed.code.instructions typed.frames start w.0 rising w.1.call.meets in
      (walked.written start).1 record { new = new; call = w.0; ended = starts_before 0 typed.code.instructions w.0 i.0 rising i.1; written = w.1 },
)
