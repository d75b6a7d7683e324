-- The first cause of a method without code: those before it don't hold.
use Rattle.std.proofs.Common.{◌≡◌, ◌⊎◌, ◌↔◌, ℕ, ◌≤◌, List, Option, Some, Contains, IsSomeAnd, slice_get, sym, subst, inl, inr, arith}
use Rattle.dj_names.specs.Headers.{Name}
use Rattle.dj_class.specs.Described.{ClassOf, MethodOf}
use Rattle.dj_world.specs.Worlds.{WorldOf}
use Rattle.dj_causes.specs.declared.cause.Cause.{Cause}
use Rattle.dj_causes.specs.declared.cause.Cause.TheVariants as cause
use Rattle.dj_causes.specs.Firsts.{IsLeastName, IsLeastCause}
use Rattle.dj_signatures.specs.Signatures.{BreaksSignature}
use Rattle.dj_causes.specs.BareCauses.{IsMethodName, IsCommon, IsInHead, IsUnsaid, HasBareCause, number_of}
use Rattle.dj_causes.specs.Tables.{IsUnsaidAbove, IsLeastIfAny, IsLesser}
use Rattle.dj_causes.proofs.LeastLemmas.{lesser_least, least_like}

-- ---- names that can't be said

module _ (world : WorldOf) (class : ClassOf) (method : MethodOf) where
  abbrev IsOwn : Name → Type 0
  IsOwn name = ¬ IsMethodName method.name × (name ≡ method.name)

  unsaid_parts : (heads : List Name) → ((name : Name) → Contains heads name ↔ IsInHead method name) → (name : Name)
      → (IsOwn name ⊎ (IsUnsaidAbove world class.this_class (IsCommon class) name ⊎ IsUnsaidAbove world class.this_class (Contains heads) name)) ↔ IsUnsaid world class method name
  unsaid_parts heads are name = (
    λ parts. elim parts [
      | inl own ↦ inl own
      | inr (inl shared) ↦ inr (record { lower = shared.0.lower; is_one = inl shared.0.is_one; above = shared.0.above }, shared.1)
      | inr (inr head) ↦ inr (record { lower = head.0.lower; is_one = inr ((are head.0.lower).0 head.0.is_one); above = head.0.above }, head.1)
    ],
    λ unsaid. elim unsaid [
      | inl own ↦ inl own
      | inr rest ↦ elim rest.0.is_one [
        | inl shared ↦ inr (inl (record { lower = rest.0.lower; is_one = shared; above = rest.0.above }, rest.1))
        | inr head ↦ inr (inr (record { lower = rest.0.lower; is_one = (are rest.0.lower).1 head; above = rest.0.above }, rest.1))
      ]
    ],
  )

  pub least_unsaid_name : (heads : List Name) → ((name : Name) → Contains heads name ↔ IsInHead method name) → (own shared head between found : Option Name)
      → IsLeastIfAny IsOwn own → IsLeastIfAny (IsUnsaidAbove world class.this_class (IsCommon class)) shared → IsLeastIfAny (IsUnsaidAbove world class.this_class (Contains heads)) head
      → IsLesser shared head between → IsLesser own between found → IsLeastIfAny (IsUnsaid world class method) found
  least_unsaid_name heads are own shared head between found of_own of_shared of_head first second =
      let P = IsUnsaidAbove world class.this_class (IsCommon class) in
      let Q = IsUnsaidAbove world class.this_class (Contains heads) in
      least_like (λ name. IsOwn name ⊎ (P name ⊎ Q name)) (IsUnsaid world class method) (unsaid_parts heads are) found
      (lesser_least IsOwn (λ name. P name ⊎ Q name) own between found second of_own (lesser_least P Q shared head between first of_shared of_head))

-- ---- the first cause

module _ (world : WorldOf) (class : ClassOf) (at : ℕ) (method : MethodOf) (there : slice_get class.methods at ≡ Some method) where
  at_method : (P : MethodOf → Type 0) → IsSomeAnd (slice_get class.methods at) P → P method
  at_method P some = subst (λ (o : Option MethodOf). IsSomeAnd o P) there some

  of_method : (P : MethodOf → Type 0) → P method → IsSomeAnd (slice_get class.methods at) P
  of_method P holds = subst (λ (o : Option MethodOf). IsSomeAnd o P) (sym there) holds

  from_name : (other : Cause) → HasBareCause world class at other → 4 ≤ number_of other
  from_name (cause.Float pc) holds = absurd holds
  from_name (cause.Dynamic pc) holds = absurd holds
  from_name (cause.Missing name) holds = absurd holds
  from_name (cause.Name name) holds = omega arith
  from_name cause.Signature holds = omega arith
  from_name (cause.Member pc) holds = omega arith
  from_name (cause.Interface pc) holds = omega arith
  from_name (cause.Monitor pc) holds = omega arith
  from_name (cause.BeforeSuper pc) holds = omega arith
  from_name (cause.Unborn pc) holds = omega arith
  from_name (cause.Large count) holds = omega arith

  pub least_name : (name : Name) → IsLeastName (IsUnsaid world class method) name → IsLeastCause number_of (HasBareCause world class at) (cause.Name name)
  least_name name least = record { holds = of_method (λ m. IsLeastName (IsUnsaid world class m) name) least; least = from_name }

  module _ (said : (name : Name) → ¬ IsUnsaid world class method name) where
    no_name : (name : Name) → ¬ HasBareCause world class at (cause.Name name)
    no_name name holds = said name (at_method (λ m. IsLeastName (IsUnsaid world class m) name) holds).holds

    from_signature : (other : Cause) → HasBareCause world class at other → 5 ≤ number_of other
    from_signature (cause.Float pc) holds = absurd holds
    from_signature (cause.Dynamic pc) holds = absurd holds
    from_signature (cause.Missing name) holds = absurd holds
    from_signature (cause.Name name) holds = absurd (no_name name holds)
    from_signature cause.Signature holds = omega arith
    from_signature (cause.Member pc) holds = omega arith
    from_signature (cause.Interface pc) holds = omega arith
    from_signature (cause.Monitor pc) holds = omega arith
    from_signature (cause.BeforeSuper pc) holds = omega arith
    from_signature (cause.Unborn pc) holds = omega arith
    from_signature (cause.Large count) holds = omega arith

    pub least_signature : BreaksSignature class at method → IsLeastCause number_of (HasBareCause world class at) cause.Signature
    least_signature breaks = record { holds = of_method (BreaksSignature class at) breaks; least = from_signature }

    pub none_of_method : ¬ BreaksSignature class at method → (other : Cause) → ¬ HasBareCause world class at other
    none_of_method right (cause.Float pc) holds = holds
    none_of_method right (cause.Dynamic pc) holds = holds
    none_of_method right (cause.Missing name) holds = holds
    none_of_method right (cause.Name name) holds = no_name name holds
    none_of_method right cause.Signature holds = right (at_method (BreaksSignature class at) holds)
    none_of_method right (cause.Member pc) holds = holds
    none_of_method right (cause.Interface pc) holds = holds
    none_of_method right (cause.Monitor pc) holds = holds
    none_of_method right (cause.BeforeSuper pc) holds = holds
    none_of_method right (cause.Unborn pc) holds = holds
    none_of_method right (cause.Large count) holds = holds

  -- nothing that can't be said is told where there is none
  pub none_unsaid : ((name : Name) → ¬ IsUnsaid world class method name) → (name : Name) → ¬ IsSomeAnd (slice_get class.methods at) (λ m. IsUnsaid world class m name)
  none_unsaid said name some = said name (at_method (λ m. IsUnsaid world class m name) some)
