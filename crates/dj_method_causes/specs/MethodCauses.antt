-- Why a method with code isn't printed: its causes in order, and which is the first.
use Rattle.std.specs.Prelude.{◌≡◌, ℕ, Option, Some, IsSomeAnd, slice_get}
use Rattle.dj_class.specs.Described.{ClassOf, MethodOf}
use Rattle.dj_world.specs.Worlds.{WorldOf}
use Rattle.dj_code.specs.MethodCode.{Code, Typed}
use Rattle.dj_code.specs.Targets.{IsLeast}
use Rattle.dj_tags.specs.Laxly.{Strictly}
use Rattle.dj_verify.specs.declared.rule.Rule.{Rule}
use Rattle.dj_verify.specs.Table.{IsFirstViolation}
use Rattle.dj_signatures.specs.Signatures.{BreaksSignature}
use Rattle.dj_causes.specs.declared.cause.Cause.{Cause}
use Rattle.dj_causes.specs.declared.cause.Cause.TheVariants as cause
use Rattle.dj_causes.specs.Firsts.{IsLeastName, IsFirstCause}
use Rattle.dj_causes.specs.BareCauses.{number_of}
use Rattle.dj_code_causes.specs.Floats.{HasFloatAt}
use Rattle.dj_code_causes.specs.Dynamics.{HasDynamicAt}
use Rattle.dj_code_causes.specs.Monitors.{HasMonitorAt}
use Rattle.dj_code_causes.specs.NamedIn.{IsMissing, IsUnsaidIn}
use Rattle.dj_member_cause.specs.Lacking.{LacksMember}
use Rattle.dj_birth_causes.specs.Beginning.{HasBeforeSuperAt}
use Rattle.dj_birth_causes.specs.Unborn.{HasUnbornAt}
use Rattle.dj_birth_causes.specs.Large.{IsTooMuch}

-- code is that of the method at a place of a class, by its head: two methods of one name and descriptor are told apart by their places
pub record IsCodeAt (class : ClassOf) (at : ℕ) (code : Code) : Type 0 where
  pub own : code.class ≡ class.this_class
  pub method : MethodOf
  pub here : slice_get class.methods at ≡ Some method
  pub name : code.name ≡ method.name
  pub flags : code.flags ≡ method.flags
  pub descriptor : code.descriptor ≡ method.descriptor
  pub thrown : code.thrown ≡ method.thrown

-- the frames of typed code break a rule first at this offset, by what Java asks of references
pub record BreaksStrictly (world : WorldOf) (typed : Typed) (pc : ℕ) : Type 0 where
  pub rule : Rule
  pub first : IsFirstViolation (Strictly world.headers) world.headers typed.code pc rule

-- when each cause holds of the method at a place of a class, with its typed code; `IsUnpaired` tells at which offset monitors aren't entered and left in pairs, as blocks of Java do
abbrev pub HasCause : (Typed → ℕ → Type 0) → WorldOf → ClassOf → ℕ → Typed → Cause → Type 0
HasCause IsUnpaired world class at typed (cause.Float pc) = IsLeast (HasFloatAt typed.code) pc
HasCause IsUnpaired world class at typed (cause.Dynamic pc) = IsLeast (HasDynamicAt typed.code) pc
HasCause IsUnpaired world class at typed (cause.Missing name) = IsLeastName (IsMissing world typed.code) name
HasCause IsUnpaired world class at typed (cause.Name name) = IsLeastName (IsUnsaidIn world typed.code) name
HasCause IsUnpaired world class at typed cause.Signature = IsSomeAnd (slice_get class.methods at) (BreaksSignature class at)
HasCause IsUnpaired world class at typed (cause.Member pc) = IsLeast (LacksMember world typed) pc
HasCause IsUnpaired world class at typed (cause.Interface pc) = BreaksStrictly world typed pc
HasCause IsUnpaired world class at typed (cause.Monitor pc) = IsUnpaired typed pc
HasCause IsUnpaired world class at typed (cause.BeforeSuper pc) = IsLeast (HasBeforeSuperAt world typed) pc
HasCause IsUnpaired world class at typed (cause.Unborn pc) = IsLeast (HasUnbornAt typed) pc
HasCause IsUnpaired world class at typed (cause.Large count) = IsTooMuch typed count

-- the first cause that a method with code has, or that it has none
abbrev pub IsMethodCause : (Typed → ℕ → Type 0) → WorldOf → ClassOf → ℕ → Typed → Option Cause → Type 0
IsMethodCause IsUnpaired world class at typed = IsFirstCause number_of (HasCause IsUnpaired world class at typed)

-- until monitors are paired, the first instruction on one counts as unpaired
abbrev pub IsUnpairedYet : Typed → ℕ → Type 0
IsUnpairedYet typed = IsLeast (HasMonitorAt typed.code)
