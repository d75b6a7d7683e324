-- Behind the first instruction of a constructor and before its call of another one `this` isn't loaded again: it would lie on the stack till the call, which leaves no room for it.
use Rattle.std.proofs.Common.{◌≡◌, ◌⊎◌, ℕ, zero, suc, ◌+◌, ◌<◌, ◌≤◌, ◌==◌, nat_lt, Bool, true, false, List, [], ◌∷◌, map, drop, length, get_or, Option, Some, None, inl, inr, refl, sym, ap, subst, ◌∙◌, arith}
use Rattle.std.specs.Prelude.{if◌then◌else◌, slice_get, reverse, IfSome, IsSomeAnd}
use Rattle.std.proofs.lemmas.Bool.Decides.{nat_tests}
use Rattle.std.proofs.lemmas.List.{length-drop}
use Rattle.std.proofs.lemmas.Bool.{false≢true, cases_Bool, and_parts, eqb-true}
use Rattle.dj_names.specs.declared.header.Header.{Header}
use Rattle.dj_names.specs.Types.{JType, parameters_of, result_of}
use Rattle.dj_names.specs.MethodNames.{is_constructor}
use Rattle.dj_instructions.specs.declared.kinds.Kind.{Kind}
use Rattle.dj_instructions.specs.declared.kinds.Kind.TheVariants as kind
use Rattle.dj_instructions.specs.declared.kinds.Calc.{Calc}
use Rattle.dj_instructions.specs.declared.kinds.Calc.TheVariants as calc
use Rattle.dj_instructions.specs.Instructions.{Instruction, Instructions, IsRisingFrom, MethodRef}
use Rattle.dj_instructions.specs.Instructions as op
use Rattle.dj_frames.specs.Frames.{Tag, Top, UnbornThis, Frame}
use Rattle.dj_code.specs.MethodCode.{Code}
use Rattle.dj_tags.specs.Goes.{Assignability, Working, reversed, top_down}
use Rattle.dj_tags.proofs.SlotLemmas.{length_reversed}
use Rattle.dj_effects.specs.Works.{Never}
use Rattle.dj_effects.specs.Spelled.{is_spelled}
use Rattle.dj_effects.specs.Operands.{HasKind, HasOperands}
use Rattle.dj_effects.specs.Effects.{effect, or_top}
use Rattle.dj_effects.specs.Rows.{arguments, birth, super_call, work}
use Rattle.dj_starts.specs.declared.roles.Role.TheVariants as role
use Rattle.dj_starts.specs.Births.{role_of}
use Rattle.dj_receivers.specs.Passing.{Own, Takes, pass_of, pass_of_calc}
use Rattle.dj_receivers.specs.OwnCalls.{calls_own, is_on_begun}
use Rattle.dj_birth_causes.specs.Beginning.{is_on_first, is_own, spares_first, touched}
use Rattle.dj_verify.specs.Rules.{given, FrameKeeps, falls}
use Rattle.dj_verify.specs.declared.rule.Rule.TheVariants as rule
use Rattle.dj_verify.specs.Table.{AreFrames, or_else}
use Rattle.dj_rebuildable.proofs.Strict.{all-arguments-alone, all-born, only-arguments}
use Rattle.dj_given.proofs.Spelled.{above_all}
use Rattle.dj_constructors_given.proofs.Spares.{IsInFirst, LiesHigher, MayBeThis, higher_drop, leaves_both, too_low}

-- ---- the walk to the call

-- up to the call, which stands at an offset and is on the entry below all others, instructions leave that and may stand in its arguments
abbrev pub Opens : ℕ → Instructions → List Frame → Type 0
Opens own [] frames = ⊥
Opens own (at ∷ rest) [] = ⊥
Opens own (at ∷ rest) (frame ∷ frames) =
    ((at.0 ≡ own) × (calls_own at.1 frame ≡ true) × (is_on_first at.1 frame ≡ true))
    ⊎ ((at.0 < own) × (calls_own at.1 frame ≡ false) × (spares_first at.1 frame ≡ true) × (role_of at.1 ≡ role.Never → ⊥) × Opens own rest frames)

-- ---- one instruction

less_than : (one other : ℕ) → nat_lt one other ≡ true → one < other
less_than one other e = grind (arith, nat_tests)

module _ (Goes : Assignability) (headers : List Header) (code : Code) (pc : ℕ) (frame : Frame) where
  -- the call leaves no `this` above the lowest entry
  ends_birth : (method : MethodRef) (result : Option JType) → HasOperands Goes headers code pc (birth method.descriptor method.owner result) (top_down frame) → length frame.stack ≡ length (parameters_of method.descriptor) + 1
      → LiesHigher (reversed frame.stack) → ⊥
  ends_birth method (Some type) has many lies = has
  ends_birth method None has many lies =
      let count = length (arguments (parameters_of method.descriptor)) in
      too_low (drop count (reversed frame.stack))
      (let left = length-drop count (reversed frame.stack) in let all = length_reversed frame.stack in let some = only-arguments (parameters_of method.descriptor) in omega (arith, left, all, some, many))
      (higher_drop count (reversed frame.stack) (all-born Goes (all-arguments-alone (parameters_of method.descriptor)) has.0) lies)

  pub ends : (instruction : Instruction) → calls_own instruction frame ≡ true → is_on_first instruction frame ≡ true → HasOperands Goes headers code pc (work code instruction) (top_down frame) → LiesHigher (reversed frame.stack) → ⊥
  ends (op.InvokeSpecial method) calls first has lies = by (is_spelled (op.InvokeSpecial method)) (is_constructor method.name) (and_parts (is_constructor method.name) (is_on_begun method frame) calls).0 has
    where
      many : length frame.stack ≡ length (parameters_of method.descriptor) + 1
      many = eqb-true (length frame.stack) (length (parameters_of method.descriptor) + 1) first

      by : (spelled constructs : Bool) → constructs ≡ true
          → HasOperands Goes headers code pc (if spelled then (if constructs then birth method.descriptor method.owner (result_of method.descriptor) else super_call code method.descriptor method.owner) else Never) (top_down frame) → ⊥
      by false constructs e has = has
      by true true e has = ends_birth method (result_of method.descriptor) has many lies
      by true false e has = false≢true e
  ends instruction calls first has lies = false≢true calls

  -- a calculation isn't what loads `this`
  calc_other : (operation : Calc) → is_own (pass_of_calc operation) ≡ true → ⊥
  calc_other calc.Neg own = false≢true own
  calc_other operation own = false≢true own

  has_this : (of : Kind) (tag : Tag) → MayBeThis tag → HasKind of tag → tag ≡ UnbornThis
  has_this of tag (inl same) has = same
  has_this of tag (inr same) has = absurd (no_kind of (subst (HasKind of) same has))
    where
      no_kind : (of : Kind) → HasKind of Top → ⊥
      no_kind kind.Int e = absurd (cc)
      no_kind kind.Long e = absurd (cc)
      no_kind kind.Float e = absurd (cc)
      no_kind kind.Double e = absurd (cc)
      no_kind kind.Ref e = false≢true e

  -- what loads `this` puts it above what there is
  pub loads : (instruction : Instruction) → is_own (pass_of instruction) ≡ true → HasOperands Goes headers code pc (work code instruction) (top_down frame) → IsInFirst (top_down frame) → 1 ≤ length frame.stack
      → LiesHigher (effect code pc (work code instruction) (top_down frame)).stack
  loads (op.Load of slot) own has first some = by (slot == 0) refl own
    where
      from_some : (found : Option Tag) → IsSomeAnd found (HasKind of) → MayBeThis (or_top found) → or_top found ≡ UnbornThis
      from_some None none may = absurd none
      from_some (Some tag) is may = has_this of tag may is

      by : (test : Bool) → slot == 0 ≡ test → is_own (if test then Own else Takes 0 true) ≡ true → LiesHigher (effect code pc (work code (op.Load of slot)) (top_down frame)).stack
      by true same e = inl (
        from_some (slice_get frame.locals slot) has.1 (subst (λ (at : ℕ). MayBeThis (or_top (slice_get frame.locals at))) (sym (eqb-true slot 0 same)) first),
        let many = length_reversed frame.stack in omega (arith, many, some),
      )
      by false other e = absurd (false≢true e)
  loads (op.Calc operation of) own has first some = absurd (calc_other operation own)
  loads instruction own has first some = absurd (false≢true own)

  pub loads_first : (instruction : Instruction) → is_own (pass_of instruction) ≡ true → IsInFirst (top_down frame) → IsInFirst (effect code pc (work code instruction) (top_down frame))
  loads_first (op.Load of slot) own first = first
  loads_first (op.Calc operation of) own first = absurd (calc_other operation own)
  loads_first instruction own first = absurd (false≢true own)

-- ---- all of them

pub flowing : (P : Working → Type 0) (test : Bool) (after : Working) → P after → IfSome (if test then Some after else None) P
flowing P true after is = is
flowing P false after is = tt

module _ (Goes : Assignability) (headers : List Header) (code : Code) (own : ℕ) (none : (pc : ℕ) → 0 < pc → pc ≤ own → given code pc ≡ None) where
  -- where no frame is given the frame is what flows in
  pub record IsAt (at : ℕ × Instruction) (frame : Frame) (flow : Option Working) : Type 0 where
    pub flows : flow ≡ Some (top_down frame)
    pub operands : HasOperands Goes headers code at.0 (work code at.1) (top_down frame)

  pub is_at : (at : ℕ × Instruction) (rest : Instructions) (frame : Frame) (frames : List Frame) (flow : Option Working) → AreFrames Goes headers code flow (at ∷ rest) (map top_down (frame ∷ frames)) → 0 < at.0 → at.0 ≤ own → IsAt at frame flow
  is_at at rest frame frames flow are above below = record {
    flows = ap (λ found. or_else found flow) (sym (none at.0 above below)) ∙ are.0;
    operands = subst (λ (held : Option Working). IfSome held (λ f. FrameKeeps Goes headers code (record { flow = flow; pc = at.0; instruction = at.1; rest = rest }) f rule.Operands)) are.0 are.1.1.1.0;
  }

  -- once `this` lies above another entry the call can't be
  doomed : (part : Instructions) (frames : List Frame) (flow : Option Working) (least : ℕ) → AreFrames Goes headers code flow part (map top_down frames) → Opens own part frames → IsRisingFrom least part → 0 < least
      → IfSome flow (λ f. LiesHigher f.stack) → ⊥
  doomed [] frames flow least are opens rising above lies = opens
  doomed (at ∷ rest) [] flow least are opens rising above lies = opens
  doomed (at ∷ rest) (frame ∷ frames) flow least are (inl last) rising above lies =
      let low = rising.0 in let same = last.0 in
      let held = is_at at rest frame frames flow are (omega (arith, above, low)) (omega (arith, same)) in
      ends Goes headers code at.0 frame at.1 last.1 last.2 held.operands (subst (λ (held : Option Working). IfSome held (λ f. LiesHigher f.stack)) held.flows lies)
  doomed (at ∷ rest) (frame ∷ frames) flow least are (inr on) rising above lies =
      let low = rising.0 in let less = on.0 in
      let held = is_at at rest frame frames flow are (omega (arith, above, low)) (omega (arith, less)) in
      let left = leaves_both Goes headers code at.0 frame at.1 on.3 on.1 held.operands in
      doomed rest frames _ (at.0 + 1) are.2 on.4 rising.1 (omega arith)
      (flowing (λ f. LiesHigher f.stack) (falls at.1) (effect code at.0 (work code at.1) (top_down frame)) (left.higher (subst (λ (held : Option Working). IfSome held (λ f. LiesHigher f.stack)) held.flows lies)))

  -- so it isn't loaded
  pub never_loaded : (part : Instructions) (frames : List Frame) (flow : Option Working) (least : ℕ) → AreFrames Goes headers code flow part (map top_down frames) → Opens own part frames → IsRisingFrom least part → 0 < least
      → IfSome flow IsInFirst → (k pc : ℕ) (instruction : Instruction) → k < length part → get_or part k (pc, instruction) ≡ (pc, instruction) → pc < own → is_own (pass_of instruction) ≡ false
  never_loaded [] frames flow least are opens rising above first k pc instruction within is less = absurd opens
  never_loaded (at ∷ rest) [] flow least are opens rising above first k pc instruction within is less = absurd opens
  never_loaded (at ∷ rest) (frame ∷ frames) flow least are (inl last) rising above first k pc instruction within is less =
      absurd (
      let here = last.0 in let high = above_all (at ∷ rest) at.0 k pc instruction (omega arith, rising.1) within is in
      omega (arith, here, high, less))
  never_loaded (at ∷ rest) (frame ∷ frames) flow least are (inr on) rising above first zero pc instruction within is less = elim (cases_Bool (is_own (pass_of at.1))) [
    | inl loaded ↦ absurd (
        let low = rising.0 in let here = on.0 in let some = less_than (touched (pass_of at.1) (reverse frame.stack)) (length frame.stack) on.2 in
        let held = is_at at rest frame frames flow are (omega (arith, above, low)) (omega (arith, here)) in
        doomed rest frames _ (at.0 + 1) are.2 on.4 rising.1 (omega arith)
        (flowing (λ f. LiesHigher f.stack) (falls at.1) (effect code at.0 (work code at.1) (top_down frame))
        (loads Goes headers code at.0 frame at.1 loaded held.operands (subst (λ (held : Option Working). IfSome held IsInFirst) held.flows first) (omega (arith, some)))))
    | inr other ↦ sym (ap (λ (one : ℕ × Instruction). is_own (pass_of one.1)) is) ∙ other
  ]
  never_loaded (at ∷ rest) (frame ∷ frames) flow least are (inr on) rising above first (suc k) pc instruction within is less =
      let low = rising.0 in let here = on.0 in
      let held = is_at at rest frame frames flow are (omega (arith, above, low)) (omega (arith, here)) in
      let left = leaves_both Goes headers code at.0 frame at.1 on.3 on.1 held.operands in
      never_loaded rest frames _ (at.0 + 1) are.2 on.4 rising.1 (omega arith)
      (flowing IsInFirst (falls at.1) (effect code at.0 (work code at.1) (top_down frame)) (left.first (subst (λ (held : Option Working). IfSome held IsInFirst) held.flows first)))
      k pc instruction (omega (arith, within)) is less
