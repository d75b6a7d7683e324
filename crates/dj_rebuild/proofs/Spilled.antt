-- Spilling before an instruction and behind it, behind statements that are there.
use Rattle.std.proofs.Common.{◌≡◌, ℕ, Bool, true, false, List, [], Option, Some, None, refl, sym, ap, ◌∙◌}
use Rattle.std.proofs.lemmas.Option.{same_Some}
use Rattle.dj_syntax.specs.Trees.{Stms, Empty}
use Rattle.dj_meaning.specs.Declarations.{joined}
use Rattle.dj_rebuilding.specs.Pending.{Pending, Built, none, and_then, spill}
use Rattle.dj_rebuilt.specs.Rebuilding.{Names, Step, behind_spilled, first_spilled, then_spilled}
use Rattle.dj_pending.specs.Building.{as_built}
use Rattle.dj_pending.specs.Spilling.{behind}
use Rattle.dj_pending.proofs.Spills.{shifted, joined-thrice, joined-empty}
use Rattle.dj_rebuild.specs.Stores.{as_step, behind_step}
use Rattle.dj_pending.specs.Assigned.{is_among}
use Rattle.dj_pending.proofs.StepLemmas.{among-none, grown-behind}
use Rattle.dj_names.specs.Types.{JType}
use Rattle.dj_syntax.specs.declared.variable.Var.{Var}
use Rattle.dj_instructions.specs.Instructions.{Instruction}
use Rattle.dj_places.specs.Constants.{Surroundings}
use Rattle.dj_exits.specs.Ways.{before, after}
use Rattle.dj_rebuild.specs.Advancing.{advanced, advanced_one, spilled_if}

-- a step behind statements
abbrev pub shifted_step : Stms → Step → Step
shifted_step first step = (shifted first step.0, step.1)

stepped-twice : (first : Stms) (built : Built) (found : Option Step) → behind_step (joined first built.emitted) found ≡ behind_step first (and_then found (λ step. Some (behind_spilled built step)))
stepped-twice first built None = refl
stepped-twice first built (Some step) =
    let with_list : Stms → Option Step = λ list. Some (record { emitted = list; stack = step.0.stack; next = step.0.next }, step.1) in ap with_list (joined-thrice first built.emitted step.0.emitted)

-- what is spilled first
pub around-first : (first : Stms) (wanted : Bool) (n : ℕ) (stack : List Pending) (step : ℕ → List Pending → Option Step) (so_far : Built) → Some so_far ≡ behind first (spilled_if wanted n stack)
    → behind_step so_far.emitted (step so_far.next so_far.stack) ≡ behind_step first (first_spilled wanted n stack step)
around-first first false n stack step so_far e =
    let same : so_far ≡ record { emitted = joined first Empty; stack = stack; next = n } = same_Some _ _ e in
    ap (λ (built : Built). behind_step built.emitted (step built.next built.stack)) same ∙ ap (λ (list : Stms). behind_step list (step n stack)) (joined-empty first)
around-first first true n stack step so_far e = by-spilled (spill none n stack) e
  where
    by-spilled : (found : Option Built) → Some so_far ≡ behind first found → behind_step so_far.emitted (step so_far.next so_far.stack) ≡ behind_step first (and_then found (λ built. and_then (step built.next built.stack) (λ one. Some (behind_spilled built one))))
    by-spilled None is = absurd (cc)
    by-spilled (Some built) is =
        ap (λ (one : Built). behind_step one.emitted (step one.next one.stack)) (same_Some so_far (shifted first built) is) ∙ stepped-twice first built (step built.next built.stack)

around-none : (first : Stms) (wanted : Bool) (n : ℕ) (stack : List Pending) (step : ℕ → List Pending → Option Step) → None ≡ behind first (spilled_if wanted n stack) → None ≡ behind_step first (first_spilled wanted n stack step)
around-none first false n stack step e = absurd (cc)
around-none first true n stack step e = by-spilled (spill none n stack) e
  where
    by-spilled : (found : Option Built) → None ≡ behind first found → None ≡ behind_step first (and_then found (λ built. and_then (step built.next built.stack) (λ one. Some (behind_spilled built one))))
    by-spilled None is = refl
    by-spilled (Some built) is = absurd (cc)

-- nothing more comes behind what can't be built
pub stopped-step : (first : Stms) (found : Option Step) (next : Step → Option Step) → None ≡ behind_step first found → None ≡ behind_step first (and_then found next)
stopped-step first None next e = refl
stopped-step first (Some step) next e = absurd (cc)

-- so it is where nothing can be spilled first
pub stopped-first : (first : Stms) (wanted : Bool) (n : ℕ) (stack : List Pending) (step : ℕ → List Pending → Option Step) (next : Step → Option Step) → None ≡ behind first (spilled_if wanted n stack)
    → None ≡ behind_step first (and_then (first_spilled wanted n stack step) next)
stopped-first first wanted n stack step next e = stopped-step first (first_spilled wanted n stack step) next (around-none first wanted n stack step e)

spilled-last : (first : Stms) (step : Step) (done : Bool) (built : Built) (high : Bool) → as_built done built ≡ behind (joined first step.0.emitted) (spilled_if high step.0.next step.0.stack)
    → as_step done built step.1 ≡ behind_step first (then_spilled high step)
spilled-last first step true built false e =
    let same : built ≡ record { emitted = joined (joined first step.0.emitted) Empty; stack = step.0.stack; next = step.0.next } = same_Some _ _ e in
    let with_list : Stms → Option Step = λ list. Some (record { emitted = list; stack = step.0.stack; next = step.0.next }, step.1) in
    ap (λ (one : Built). Some (one, step.1)) same ∙ ap with_list (joined-empty (joined first step.0.emitted))
spilled-last first step false built false e = absurd (cc)
spilled-last first step done built true e = by-spilled (spill none step.0.next step.0.stack) done e
  where
    by-spilled : (found : Option Built) (done : Bool) → as_built done built ≡ behind (joined first step.0.emitted) found
        → as_step done built step.1 ≡ behind_step first (and_then found (λ so_far. Some (record { emitted = joined step.0.emitted so_far.emitted; stack = so_far.stack; next = so_far.next }, step.1)))
    by-spilled None true is = absurd (cc)
    by-spilled None false is = refl
    by-spilled (Some so_far) true is =
        let with_list : Stms → Option Step = λ list. Some (record { emitted = list; stack = so_far.stack; next = so_far.next }, step.1) in
        ap (λ (one : Built). Some (one, step.1)) (same_Some built (shifted (joined first step.0.emitted) so_far) is) ∙ ap with_list (joined-thrice first step.0.emitted so_far.emitted)
    by-spilled (Some so_far) false is = absurd (cc)

-- what is spilled last
pub around-last : (first : Stms) (found : Option Step) (so_far : Built) (names : Names) (done : Bool) (built : Built) (high : List Pending → Bool) → Some (so_far, names) ≡ behind_step first found
    → as_built done built ≡ behind so_far.emitted (spilled_if (high so_far.stack) so_far.next so_far.stack) → as_step done built names ≡ behind_step first (and_then found (λ step. then_spilled (high step.0.stack) step))
around-last first None so_far names done built high is e = absurd (cc)
around-last first (Some step) so_far names done built high is e =
    let same : (so_far, names) ≡ shifted_step first step = same_Some _ _ is in
    ap (λ (one : Step). as_step done built one.1) same
    ∙ spilled-last first step done built (high step.0.stack) (e ∙ ap (λ (one : Step). behind one.0.emitted (spilled_if (high one.0.stack) one.0.next one.0.stack)) same)

-- ---- spilling by a test

pub spilled-not : (first : Stms) (wanted : Bool) (n : ℕ) (stack : List Pending) → wanted ≡ false → Some (record { emitted = first; stack = stack; next = n }) ≡ behind first (spilled_if wanted n stack)
spilled-not first wanted n stack e = grown-behind first n stack ∙ ap (λ (test : Bool). behind first (spilled_if test n stack)) (sym e)

pub spilled-all : (first : Stms) (wanted : Bool) (n : ℕ) (stack : List Pending) → wanted ≡ true → behind first (spill (is_among []) n stack) ≡ behind first (spilled_if wanted n stack)
spilled-all first wanted n stack e = ap (λ (assigned : Var → Bool). behind first (spill assigned n stack)) among-none ∙ ap (λ (test : Bool). behind first (spilled_if test n stack)) (sym e)

-- ---- one instruction

module _ (known : Surroundings) (names : Names) (target : Option (Var × JType)) (instruction : Instruction) (n : ℕ) (stack : List Pending) (first : Stms) (wanted : Bool) (is : wanted ≡ before instruction stack) where
  abbrev step_from : ℕ → List Pending → Option Step
  step_from from entries = advanced known names target instruction from entries

  abbrev ended : Step → Option Step
  ended step = then_spilled (after step.0.stack) step

  begun-is : behind_step first (and_then (first_spilled wanted n stack step_from) ended) ≡ behind_step first (advanced_one known names target instruction n stack)
  begun-is = ap (λ (test : Bool). behind_step first (and_then (first_spilled test n stack step_from) ended)) is

  pub one-stops-first : None ≡ behind first (spilled_if wanted n stack) → None ≡ behind_step first (advanced_one known names target instruction n stack)
  one-stops-first e = stopped-first first wanted n stack step_from ended e ∙ begun-is

  pub one-stops : (so_far : Built) → Some so_far ≡ behind first (spilled_if wanted n stack) → None ≡ behind_step so_far.emitted (advanced known names target instruction so_far.next so_far.stack)
      → None ≡ behind_step first (advanced_one known names target instruction n stack)
  one-stops so_far e stops = stopped-step first (first_spilled wanted n stack step_from) ended (stops ∙ around-first first wanted n stack step_from so_far e) ∙ begun-is

  pub one-done : (so_far second last : Built) (new : Names) (high done : Bool) → Some so_far ≡ behind first (spilled_if wanted n stack)
      → Some (second, new) ≡ behind_step so_far.emitted (advanced known names target instruction so_far.next so_far.stack) → high ≡ after second.stack
      → as_built done last ≡ behind second.emitted (spilled_if high second.next second.stack) → as_step done last new ≡ behind_step first (advanced_one known names target instruction n stack)
  one-done so_far second last new high done e stepped deep ended_is =
      around-last first (first_spilled wanted n stack step_from) second new done last after (stepped ∙ around-first first wanted n stack step_from so_far e)
      (ended_is ∙ ap (λ (test : Bool). behind second.emitted (spilled_if test second.next second.stack)) deep)
      ∙ begun-is
