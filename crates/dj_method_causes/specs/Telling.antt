-- What the functions that tell the causes of methods promise each other.
use Rattle.std.specs.Prelude.{◌≡◌, ℕ, ◌<◌, ◌≤◌, Option, Some, None, IsSomeAnd, MatchOption, slice_get}
use Rattle.dj_names.specs.Headers.{Name}
use Rattle.dj_class.specs.Described.{ClassOf}
use Rattle.dj_world.specs.Worlds.{WorldOf}
use Rattle.dj_code.specs.MethodCode.{Code, Typed}
use Rattle.dj_tags.specs.Laxly.{Strictly}
use Rattle.dj_verify.specs.Verified.{IsTyped}
use Rattle.dj_sayable.specs.Scopes.{IsScope}
use Rattle.dj_signatures.specs.Signatures.{BreaksSignature, TellsRivals}
use Rattle.dj_causes.specs.declared.cause.Cause.{Cause}
use Rattle.dj_causes.specs.BareCauses.{number_of}
use Rattle.dj_code_causes.specs.Floats.{HasFloatAt}
use Rattle.dj_code_causes.specs.Dynamics.{HasDynamicAt}
use Rattle.dj_code_causes.specs.Monitors.{HasMonitorAt}
use Rattle.dj_code_causes.specs.NamedIn.{IsMissing, IsUnsaidIn}
use Rattle.dj_member_cause.specs.Lacking.{LacksMember}
use Rattle.dj_birth_causes.specs.Beginning.{HasBeforeSuperAt}
use Rattle.dj_birth_causes.specs.Unborn.{HasUnbornAt}
use Rattle.dj_birth_causes.specs.Large.{IsTooMuch}
use Rattle.dj_method_causes.specs.declared.method_causes.MethodCauses.{MethodCauses}
use Rattle.dj_method_causes.specs.MethodCauses.{BreaksStrictly, HasCause, IsMethodCause, IsUnpairedYet}

-- when each cause holds, given the offset at which monitors are unpaired, if they are
abbrev pub HoldsGiven : Option ℕ → WorldOf → ClassOf → ℕ → Typed → Cause → Type 0
HoldsGiven unpaired = HasCause (λ typed pc. unpaired ≡ Some pc)

-- of the causes whose numbers begin with `from` and are below `to`, this is the first that holds
pub record IsFirstIn (Holds : Cause → Type 0) (from to : ℕ) (cause : Cause) : Type 0 where
  pub holds : Holds cause
  pub above : from ≤ number_of cause
  pub below : number_of cause < to
  pub least : (other : Cause) → Holds other → from ≤ number_of other → number_of cause ≤ number_of other

-- it is, or none of them holds
abbrev pub IsFirstAmong : (Cause → Type 0) → ℕ → ℕ → Option Cause → Type 0
IsFirstAmong Holds from to found = MatchOption found ((cause : Cause) → Holds cause → from ≤ number_of cause → to ≤ number_of cause) (IsFirstIn Holds from to)

-- what is made once of a class to tell the causes of its methods with code
pub record AreMethodCauses (world : WorldOf) (class : ClassOf) (causes : MethodCauses) : Type 0 where
  pub scope : IsScope world.headers world.members class.this_class causes.scope
  pub rivals : TellsRivals class.methods causes.rivals

-- ---- where none is found

-- neither Float nor Dynamic holds
pub record HasNoneInInstructions (code : Code) : Type 0 where
  pub float : (pc : ℕ) → ¬ HasFloatAt code pc
  pub dynamic : (pc : ℕ) → ¬ HasDynamicAt code pc

-- neither Missing nor Name
pub record HasNoneInNames (world : WorldOf) (code : Code) : Type 0 where
  pub missing : (name : Name) → ¬ IsMissing world code name
  pub unsaid : (name : Name) → ¬ IsUnsaidIn world code name

-- neither Signature nor Member nor Interface: so the frames keep Java's rules too
pub record HasNoneInMembers (world : WorldOf) (class : ClassOf) (at : ℕ) (typed : Typed) : Type 0 where
  pub signature : ¬ IsSomeAnd (slice_get class.methods at) (BreaksSignature class at)
  pub member : (pc : ℕ) → ¬ LacksMember world typed pc
  pub interface : (pc : ℕ) → ¬ BreaksStrictly world typed pc
  pub strict : IsTyped (Strictly world.headers) world.headers typed

-- neither BeforeSuper nor Unborn nor Large
pub record HasNoneInBirths (world : WorldOf) (typed : Typed) : Type 0 where
  pub before : (pc : ℕ) → ¬ HasBeforeSuperAt world typed pc
  pub unborn : (pc : ℕ) → ¬ HasUnbornAt typed pc
  pub large : (count : ℕ) → ¬ IsTooMuch typed count

-- none of the causes before Monitor
pub record HasNoneEarly (world : WorldOf) (class : ClassOf) (at : ℕ) (typed : Typed) : Type 0 where
  pub instructions : HasNoneInInstructions typed.code
  pub names : HasNoneInNames world typed.code
  pub members : HasNoneInMembers world class at typed

-- none at all, and no instruction on a monitor
pub record HasNoCause (world : WorldOf) (class : ClassOf) (at : ℕ) (typed : Typed) : Type 0 where
  pub early : HasNoneEarly world class at typed
  pub monitor : (pc : ℕ) → ¬ HasMonitorAt typed.code pc
  pub births : HasNoneInBirths world typed

-- ---- what is told

-- no cause is told of a method with code: it has none before Monitor, and none behind it where none of its instructions is on a monitor
pub record IsUntold (world : WorldOf) (class : ClassOf) (at : ℕ) (typed : Typed) : Type 0 where
  pub early : HasNoneEarly world class at typed
  pub births : ((pc : ℕ) → ¬ HasMonitorAt typed.code pc) → HasNoneInBirths world typed

-- the cause that is told of it: its first one, which is never Monitor, as no pairs are looked for yet
abbrev pub IsToldCause : WorldOf → ClassOf → ℕ → Typed → Option Cause → Type 0
IsToldCause world class at typed None = IsUntold world class at typed
IsToldCause world class at typed (Some cause) = IsMethodCause IsUnpairedYet world class at typed (Some cause) × ¬ (number_of cause ≡ 8)
