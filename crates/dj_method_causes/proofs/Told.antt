-- From the first cause, where the first instruction on a monitor counts as unpaired, to the cause that is told.
use Rattle.std.proofs.Common.{◌≡◌, ℕ, Option, Some, None, MatchOption, ap, subst, arith}
use Rattle.dj_class.specs.Described.{ClassOf}
use Rattle.dj_world.specs.Worlds.{WorldOf}
use Rattle.dj_code.specs.MethodCode.{Typed}
use Rattle.dj_code.specs.Targets.{IsLeast}
use Rattle.dj_causes.specs.declared.cause.Cause.{Cause}
use Rattle.dj_causes.specs.declared.cause.Cause.TheVariants as cause
use Rattle.dj_causes.specs.Firsts.{IsFirstCause}
use Rattle.dj_causes.specs.BareCauses.{number_of}
use Rattle.dj_code_causes.specs.Monitors.{HasMonitorAt}
use Rattle.dj_method_causes.specs.MethodCauses.{HasCause, IsUnpairedYet}
use Rattle.dj_method_causes.specs.Telling.{HoldsGiven, IsFirstAmong, HasNoCause, IsUntold, IsToldCause}

-- the first instruction on a monitor, if there is one
abbrev pub IsFirstMonitor : Typed → Option ℕ → Type 0
IsFirstMonitor typed found = MatchOption found ((pc : ℕ) → ¬ HasMonitorAt typed.code pc) (IsLeast (HasMonitorAt typed.code))

counts : (typed : Typed) (found : Option ℕ) → IsFirstMonitor typed found → (pc : ℕ) → found ≡ Some pc → IsUnpairedYet typed pc
counts typed found first pc is = subst (IsFirstMonitor typed) is first

counted : (typed : Typed) (found : Option ℕ) → IsFirstMonitor typed found → (pc : ℕ) → IsUnpairedYet typed pc → found ≡ Some pc
counted typed None none pc least = absurd (none pc least.here)
counted typed (Some other) first pc least =
    let above = first.least pc least.here in
    let below = least.least other first.here in
    let same : other ≡ pc = omega (arith, above, below) in
    ap (λ (n : ℕ). Some n) same

-- no number is there
pub no_number : (found : Option ℕ) → found ≡ None → (pc : ℕ) → ¬ (found ≡ Some pc)
no_number found is pc also = absurd cc

-- a cause before Monitor, or behind it
pub is_early : (Holds : Cause → Type 0) (one : Cause) → IsFirstAmong Holds 1 8 (Some one) → ¬ (number_of one ≡ 8)
is_early Holds one first same =
    let below = first.below in
    omega (arith, same, below)

pub is_late : (Holds : Cause → Type 0) (one : Cause) → IsFirstAmong Holds 9 12 (Some one) → ¬ (number_of one ≡ 8)
is_late Holds one first same =
    let above = first.above in
    omega (arith, same, above)

module _ (world : WorldOf) (class : ClassOf) (at : ℕ) (typed : Typed) where
  -- where no cause is told of code without monitors it has none
  pub no_cause : IsUntold world class at typed → ((pc : ℕ) → ¬ HasMonitorAt typed.code pc) → HasNoCause world class at typed
  no_cause untold plain = record { early = untold.early; monitor = plain; births = untold.births plain }

  -- causes are alike but for what counts as unpaired
  alike : (First Second : Typed → ℕ → Type 0) → ((pc : ℕ) → First typed pc → Second typed pc) → (one : Cause) → HasCause First world class at typed one → HasCause Second world class at typed one
  alike First Second to (cause.Float pc) has = has
  alike First Second to (cause.Dynamic pc) has = has
  alike First Second to (cause.Missing name) has = has
  alike First Second to (cause.Name name) has = has
  alike First Second to cause.Signature has = has
  alike First Second to (cause.Member pc) has = has
  alike First Second to (cause.Interface pc) has = has
  alike First Second to (cause.Monitor pc) has = to pc has
  alike First Second to (cause.BeforeSuper pc) has = has
  alike First Second to (cause.Unborn pc) has = has
  alike First Second to (cause.Large count) has = has

  module _ (unpaired : Option ℕ) (first : IsFirstMonitor typed unpaired) where
    abbrev Yet : Cause → Type 0
    Yet = HasCause IsUnpairedYet world class at typed

    abbrev Given : Cause → Type 0
    Given = HoldsGiven unpaired world class at typed

    to_yet : (one : Cause) → Given one → Yet one
    to_yet = alike (λ one pc. unpaired ≡ Some pc) IsUnpairedYet (counts typed unpaired first)

    from_yet : (one : Cause) → Yet one → Given one
    from_yet = alike IsUnpairedYet (λ one pc. unpaired ≡ Some pc) (counted typed unpaired first)

    -- the first cause is told
    pub told_first : (one : Cause) → ¬ (number_of one ≡ 8) → IsFirstCause number_of Given (Some one) → IsToldCause world class at typed (Some one)
    told_first one paired least = (record { holds = to_yet one least.holds; least = λ other has. least.least other (from_yet other has) }, paired)
