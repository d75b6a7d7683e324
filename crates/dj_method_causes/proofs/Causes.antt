-- The first of some causes, by what is told of each.
use Rattle.std.proofs.Common.{◌≡◌, ◌↔◌, ℕ, List, Contains, Option, Some, None, IsSomeAnd, refl, sym, subst, arith}
use Rattle.std.specs.Prelude.{slice_get}
use Rattle.dj_names.specs.Headers.{Name, names}
use Rattle.dj_class.specs.Described.{ClassOf, MethodOf}
use Rattle.dj_world.specs.Worlds.{WorldOf}
use Rattle.dj_code.specs.MethodCode.{Typed}
use Rattle.dj_code.specs.Targets.{IsLeast}
use Rattle.dj_signatures.specs.Signatures.{BreaksSignature}
use Rattle.dj_causes.specs.declared.cause.Cause.{Cause}
use Rattle.dj_causes.specs.declared.cause.Cause.TheVariants as cause
use Rattle.dj_causes.specs.Firsts.{IsLeastName, IsFirstCause}
use Rattle.dj_causes.specs.BareCauses.{number_of}
use Rattle.dj_causes.specs.Tables.{IsLeastIfAny}
use Rattle.dj_causes.proofs.LeastLemmas.{least_like}
use Rattle.dj_code_causes.specs.Floats.{HasFloatAt}
use Rattle.dj_code_causes.specs.Dynamics.{HasDynamicAt}
use Rattle.dj_code_causes.specs.NamedIn.{IsAboveCode, IsMissing, IsUnsaidIn}
use Rattle.dj_member_cause.specs.Lacking.{LacksMember}
use Rattle.dj_birth_causes.specs.Beginning.{HasBeforeSuperAt}
use Rattle.dj_birth_causes.specs.Unborn.{HasUnbornAt}
use Rattle.dj_birth_causes.specs.Large.{IsTooMuch}
use Rattle.dj_method_causes.specs.MethodCauses.{BreaksStrictly}
use Rattle.dj_method_causes.specs.Telling.{HoldsGiven, IsFirstAmong}
use Rattle.dj_method_causes.proofs.Firsts as firsts
use Rattle.dj_method_causes.proofs.Firsts.{some_at, after_none, widened, of_all}

module _ (unpaired : Option ℕ) (world : WorldOf) (class : ClassOf) (at : ℕ) (typed : Typed) where
  abbrev pub Held : Cause → Type 0
  Held = HoldsGiven unpaired world class at typed

  -- ---- instructions

  no_float : ((pc : ℕ) → ¬ HasFloatAt typed.code pc) → IsFirstAmong Held 1 2 None
  no_float none = firsts.no_float Held (λ pc h. none pc h.here)

  no_dynamic : ((pc : ℕ) → ¬ HasDynamicAt typed.code pc) → IsFirstAmong Held 2 3 None
  no_dynamic none = firsts.no_dynamic Held (λ pc h. none pc h.here)

  pub float_first : (pc : ℕ) → IsLeast (HasFloatAt typed.code) pc → IsFirstAmong Held 1 3 (Some (cause.Float pc))
  float_first pc holds =
      some_at Held 1 3 (cause.Float pc) holds refl (omega arith)

  pub dynamic_first : ((pc : ℕ) → ¬ HasFloatAt typed.code pc) → (pc : ℕ) → IsLeast (HasDynamicAt typed.code) pc → IsFirstAmong Held 1 3 (Some (cause.Dynamic pc))
  dynamic_first no0 pc holds =
      after_none Held 1 2 3 (Some (cause.Dynamic pc)) (omega arith) (no_float no0) (some_at Held 2 3 (cause.Dynamic pc) holds refl (omega arith))

  pub none_in_instructions : ((pc : ℕ) → ¬ HasFloatAt typed.code pc) → ((pc : ℕ) → ¬ HasDynamicAt typed.code pc) → IsFirstAmong Held 1 3 None
  none_in_instructions no0 no1 =
      after_none Held 1 2 3 None (omega arith) (no_float no0) (no_dynamic no1)

  -- ---- names

  no_missing : ((name : Name) → ¬ IsMissing world typed.code name) → IsFirstAmong Held 3 4 None
  no_missing none = firsts.no_missing Held (λ name h. none name h.holds)

  no_name : ((name : Name) → ¬ IsUnsaidIn world typed.code name) → IsFirstAmong Held 4 5 None
  no_name none = firsts.no_name Held (λ name h. none name h.holds)

  pub missing_first : (name : Name) → IsLeastName (IsMissing world typed.code) name → IsFirstAmong Held 3 5 (Some (cause.Missing name))
  missing_first name holds =
      some_at Held 3 5 (cause.Missing name) holds refl (omega arith)

  pub name_first : ((name : Name) → ¬ IsMissing world typed.code name) → (name : Name) → IsLeastName (IsUnsaidIn world typed.code) name → IsFirstAmong Held 3 5 (Some (cause.Name name))
  name_first no0 name holds =
      after_none Held 3 4 5 (Some (cause.Name name)) (omega arith) (no_missing no0) (some_at Held 4 5 (cause.Name name) holds refl (omega arith))

  pub none_in_names : ((name : Name) → ¬ IsMissing world typed.code name) → ((name : Name) → ¬ IsUnsaidIn world typed.code name) → IsFirstAmong Held 3 5 None
  none_in_names no0 no1 =
      after_none Held 3 4 5 None (omega arith) (no_missing no0) (no_name no1)

  -- ---- members

  no_signature : (¬ IsSomeAnd (slice_get class.methods at) (BreaksSignature class at)) → IsFirstAmong Held 5 6 None
  no_signature none = firsts.no_signature Held none

  no_member : ((pc : ℕ) → ¬ LacksMember world typed pc) → IsFirstAmong Held 6 7 None
  no_member none = firsts.no_member Held (λ pc h. none pc h.here)

  no_interface : ((pc : ℕ) → ¬ BreaksStrictly world typed pc) → IsFirstAmong Held 7 8 None
  no_interface none = firsts.no_interface Held (λ pc h. none pc h)

  pub signature_first : IsSomeAnd (slice_get class.methods at) (BreaksSignature class at) → IsFirstAmong Held 5 8 (Some cause.Signature)
  signature_first holds =
      some_at Held 5 8 cause.Signature holds refl (omega arith)

  pub member_first : (¬ IsSomeAnd (slice_get class.methods at) (BreaksSignature class at)) → (pc : ℕ) → IsLeast (LacksMember world typed) pc → IsFirstAmong Held 5 8 (Some (cause.Member pc))
  member_first no0 pc holds =
      after_none Held 5 6 8 (Some (cause.Member pc)) (omega arith) (no_signature no0) (some_at Held 6 8 (cause.Member pc) holds refl (omega arith))

  pub interface_first : (¬ IsSomeAnd (slice_get class.methods at) (BreaksSignature class at)) → ((pc : ℕ) → ¬ LacksMember world typed pc) → (pc : ℕ) → BreaksStrictly world typed pc → IsFirstAmong Held 5 8 (Some (cause.Interface pc))
  interface_first no0 no1 pc holds =
      after_none Held 5 6 8 (Some (cause.Interface pc)) (omega arith) (no_signature no0) (after_none Held 6 7 8 (Some (cause.Interface pc)) (omega arith) (no_member no1) (some_at Held 7 8 (cause.Interface pc) holds refl (omega arith)))

  pub none_in_members : (¬ IsSomeAnd (slice_get class.methods at) (BreaksSignature class at)) → ((pc : ℕ) → ¬ LacksMember world typed pc) → ((pc : ℕ) → ¬ BreaksStrictly world typed pc) → IsFirstAmong Held 5 8 None
  none_in_members no0 no1 no2 =
      after_none Held 5 6 8 None (omega arith) (no_signature no0) (after_none Held 6 7 8 None (omega arith) (no_member no1) (no_interface no2))

  -- ---- all before Monitor, and all

  -- monitors that aren't unpaired
  no_monitor : ((pc : ℕ) → ¬ (unpaired ≡ Some pc)) → IsFirstAmong Held 8 9 None
  no_monitor none = firsts.no_monitor Held (λ pc h. none pc h)

  pub early_first : (found : Option Cause) → IsFirstAmong Held 1 3 None → IsFirstAmong Held 3 5 None → IsFirstAmong Held 5 8 found → IsFirstAmong Held 1 8 found
  early_first found in_instructions in_names in_members =
      after_none Held 1 3 8 found (omega arith) in_instructions (after_none Held 3 5 8 found (omega arith) in_names in_members)

  pub names_first : (one : Cause) → IsFirstAmong Held 1 3 None → IsFirstAmong Held 3 5 (Some one) → IsFirstAmong Held 1 8 (Some one)
  names_first one in_instructions in_names = widened Held 1 5 8 one (omega arith) (after_none Held 1 3 5 (Some one) (omega arith) in_instructions in_names)

  pub early_of_all : (one : Cause) → IsFirstAmong Held 1 8 (Some one) → IsFirstCause number_of Held (Some one)
  early_of_all one early = of_all Held (Some one) (widened Held 1 8 12 one (omega arith) early)

  pub monitor_of_all : (pc : ℕ) → unpaired ≡ Some pc → IsFirstAmong Held 1 8 None → IsFirstCause number_of Held (Some (cause.Monitor pc))
  monitor_of_all pc is early = of_all Held (Some (cause.Monitor pc)) (after_none Held 1 8 12 (Some (cause.Monitor pc)) (omega arith) early (some_at Held 8 12 (cause.Monitor pc) is refl (omega arith)))

  pub births_of_all : (found : Option Cause) → ((pc : ℕ) → ¬ (unpaired ≡ Some pc)) → IsFirstAmong Held 1 8 None → IsFirstAmong Held 9 12 found → IsFirstCause number_of Held found
  births_of_all found none early births = of_all Held found (after_none Held 1 8 12 found (omega arith) early (after_none Held 8 9 12 found (omega arith) (no_monitor none) births))

  -- ---- births

  no_beforesuper : ((pc : ℕ) → ¬ HasBeforeSuperAt world typed pc) → IsFirstAmong Held 9 10 None
  no_beforesuper none = firsts.no_beforesuper Held (λ pc h. none pc h.here)

  no_unborn : ((pc : ℕ) → ¬ HasUnbornAt typed pc) → IsFirstAmong Held 10 11 None
  no_unborn none = firsts.no_unborn Held (λ pc h. none pc h.here)

  no_large : ((count : ℕ) → ¬ IsTooMuch typed count) → IsFirstAmong Held 11 12 None
  no_large none = firsts.no_large Held (λ count h. none count h)

  pub beforesuper_first : (pc : ℕ) → IsLeast (HasBeforeSuperAt world typed) pc → IsFirstAmong Held 9 12 (Some (cause.BeforeSuper pc))
  beforesuper_first pc holds =
      some_at Held 9 12 (cause.BeforeSuper pc) holds refl (omega arith)

  pub unborn_first : ((pc : ℕ) → ¬ HasBeforeSuperAt world typed pc) → (pc : ℕ) → IsLeast (HasUnbornAt typed) pc → IsFirstAmong Held 9 12 (Some (cause.Unborn pc))
  unborn_first no0 pc holds =
      after_none Held 9 10 12 (Some (cause.Unborn pc)) (omega arith) (no_beforesuper no0) (some_at Held 10 12 (cause.Unborn pc) holds refl (omega arith))

  pub large_first : ((pc : ℕ) → ¬ HasBeforeSuperAt world typed pc) → ((pc : ℕ) → ¬ HasUnbornAt typed pc) → (count : ℕ) → IsTooMuch typed count → IsFirstAmong Held 9 12 (Some (cause.Large count))
  large_first no0 no1 count holds =
      after_none Held 9 10 12 (Some (cause.Large count)) (omega arith) (no_beforesuper no0) (after_none Held 10 11 12 (Some (cause.Large count)) (omega arith) (no_unborn no1) (some_at Held 11 12 (cause.Large count) holds refl (omega arith)))

  pub none_in_births : ((pc : ℕ) → ¬ HasBeforeSuperAt world typed pc) → ((pc : ℕ) → ¬ HasUnbornAt typed pc) → ((count : ℕ) → ¬ IsTooMuch typed count) → IsFirstAmong Held 9 12 None
  none_in_births no0 no1 no2 =
      after_none Held 9 10 12 None (omega arith) (no_beforesuper no0) (after_none Held 10 11 12 None (omega arith) (no_unborn no1) (no_large no2))

  -- a method at a place
  pub at_method : (method : MethodOf) → slice_get class.methods at ≡ Some method → BreaksSignature class at method → IsSomeAnd (slice_get class.methods at) (BreaksSignature class at)
  at_method method there breaks = subst (λ (o : Option MethodOf). IsSomeAnd o (BreaksSignature class at)) (sym there) breaks

  pub not_at_method : (method : MethodOf) → slice_get class.methods at ≡ Some method → ¬ BreaksSignature class at method → ¬ IsSomeAnd (slice_get class.methods at) (BreaksSignature class at)
  not_at_method method there right some = right (subst (λ (o : Option MethodOf). IsSomeAnd o (BreaksSignature class at)) there some)

  -- the least name that is missing, of those at or above the code's
  pub missing_among : (classes : List Name) → ((name : Name) → Contains classes name ↔ IsAboveCode world typed.code name) → (found : Option Name)
      → IsLeastIfAny (λ other. Contains classes other × ¬ Contains (names world.headers) other) found → IsLeastIfAny (IsMissing world typed.code) found
  missing_among classes above found least =
      least_like (λ other. Contains classes other × ¬ Contains (names world.headers) other) (IsMissing world typed.code)
      (λ name. (λ both. record { above = (above name).0 both.0; absent = both.1 }, λ missing. ((above name).1 missing.above, missing.absent))) found least
