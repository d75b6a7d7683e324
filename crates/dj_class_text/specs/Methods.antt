-- The methods that the text of a class shows (JVMS 4.6; JLS 8.4, 9.4).
use Rattle.std.specs.Prelude.{◌≡◌, ◌⊎◌, ℕ, ◌+◌, Bool, List, [], ◌∷◌, Option, Some, None, IsSome, IsSomeAnd, MatchOption, option_map, slice_get}
use Rattle.dj_names.specs.Headers.{Name}
use Rattle.dj_syntax.specs.Trees.{Body, MethodText}
use Rattle.dj_syntax.specs.WellFormed.{held_method}
use Rattle.dj_class.specs.Described.{ClassOf, MethodOf}
use Rattle.dj_world.specs.Worlds.{WorldOf}
use Rattle.dj_causes.specs.declared.cause.Cause.{Cause}
use Rattle.dj_causes.specs.BareCauses.{HasBareCause, IsUnsaid}

-- a method with all flags of its file, and this body, if any
abbrev pub bare_method : MethodOf → Option Body → MethodText
bare_method method body = record { flags = method.flags; name = method.name; descriptor = method.descriptor; thrown = method.thrown; body = body }

-- the text of a method, whose flags are those that it gives back
abbrev pub method_text : Bool → MethodOf → Option Body → MethodText
method_text interface method body = let bare = bare_method method body in record bare { flags = held_method interface bare }

-- the method at a place, which has no code, has no cause, and its text can say each of its names
pub record IsFreeOfCauses (world : WorldOf) (class : ClassOf) (at : ℕ) : Type 0 where
  pub none : (cause : Cause) → ¬ HasBareCause world class at cause
  pub said : (name : Name) → ¬ IsSomeAnd (slice_get class.methods at) (λ method. IsUnsaid world class method name)

-- the text of the method at a place, given its body, if any: with code it is shown where it has a body, without code where it has no cause
abbrev pub IsTextOfMethod : WorldOf → ClassOf → Bool → ℕ → MethodOf → Option Body → Option MethodText → Type 0
IsTextOfMethod world class interface at method body text =
    (IsSome method.code × (text ≡ option_map (λ found. method_text interface method (Some found)) body))
    ⊎ ((method.code ≡ None) × MatchOption text ((cause : Cause) × HasBareCause world class at cause) (λ found. IsFreeOfCauses world class at × (found ≡ method_text interface method None)))

-- the texts of the methods from a place on, each with its place among the bodies, in file order
pub data ShowsMethods (world : WorldOf) (class : ClassOf) (interface : Bool) : ℕ → List MethodOf → List (Option Body) → List MethodText → Type 0 where
  no_more : {at : ℕ} → ShowsMethods world class interface at [] [] []
  absent : {at : ℕ} {method : MethodOf} {methods : List MethodOf} {body : Option Body} {bodies : List (Option Body)} {texts : List MethodText} → IsTextOfMethod world class interface at method body None
      → ShowsMethods world class interface (at + 1) methods bodies texts → ShowsMethods world class interface at (method ∷ methods) (body ∷ bodies) texts
  shown : {at : ℕ} {method : MethodOf} {methods : List MethodOf} {body : Option Body} {bodies : List (Option Body)} {text : MethodText} {texts : List MethodText} → IsTextOfMethod world class interface at method body (Some text)
      → ShowsMethods world class interface (at + 1) methods bodies texts → ShowsMethods world class interface at (method ∷ methods) (body ∷ bodies) (text ∷ texts)
