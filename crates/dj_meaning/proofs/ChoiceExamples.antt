-- Which member a name or a call means at worked examples, by computation: a wrong definition is refused here.
use Rattle.std.proofs.Common.{◌≡◌, List, [], ◌∷◌, Option, Some, None, refl}
use Rattle.std.specs.Prelude.{codes, option_map}
use Rattle.dj_names.specs.declared.header.Header.{Header}
use Rattle.dj_names.specs.Headers.{Name}
use Rattle.dj_names.specs.Types as types
use Rattle.dj_names.specs.Types.{JType, Class, Array, StaticType, Of}
use Rattle.dj_meaning.specs.Members.{Method, Members}
use Rattle.dj_meaning.specs.Fields.{KnownField, field_of}
use Rattle.dj_meaning.specs.Calls.{MethodIn, chosen}
use Rattle.dj_meaning.specs.Targets.{Target, of_new}
use Rattle.dj_meaning.proofs.ExampleWorld.{object_class, header, field, method, none}

-- `class q.B extends q.A implements I, J`, `class t.C extends q.B`, each interface with a field `x`
abbrev headers : List Header
headers =
    header (codes "q/A") (Some object_class) [] 0x0021
    ∷ header (codes "q/B") (Some (codes "q/A")) (codes "I" ∷ codes "J" ∷ []) 0x0021
    ∷ header (codes "t/C") (Some (codes "q/B")) [] 0x0021
    ∷ header (codes "I") (Some object_class) [] 0x0601
    ∷ header (codes "J") (Some object_class) [] 0x0601
    ∷ header object_class None [] 0x0021
    ∷ []

-- the types that tell two fields of one name apart here
abbrev members : List Members
members =
    record {
      fields = field 0x0001 (codes "y") types.Int ∷ field 0x0000 (codes "w") types.Int ∷ field 0x0002 (codes "z") types.Int ∷ field 0x0004 (codes "v") types.Int ∷ [];
      methods = method 0x0001 (codes "m") (Class object_class ∷ []) None ∷ method 0x1041 (codes "n") [] (Some (Class object_class)) ∷ method 0x0001 (codes "n") [] (Some (Class (codes "q/A"))) ∷ [];
    }
    ∷ (record {
      fields = field 0x0001 (codes "y") types.Long ∷ [];
      methods =
          method 0x0001 (codes "m") (Class (codes "q/A") ∷ []) None ∷ method 0x0001 (codes "m") (Class (codes "I") ∷ []) None
          ∷ method 0x0001 (codes "m") (Class object_class ∷ []) (Some types.Int) ∷ [];
    })
    ∷ none
    ∷ (record { fields = field 0x0019 (codes "x") types.Int ∷ []; methods = [] })
    ∷ (record { fields = field 0x0019 (codes "x") types.Long ∷ []; methods = [] })
    ∷ (record { fields = []; methods = method 0x0004 (codes "clone") [] (Some (Class object_class)) ∷ [] })
    ∷ []

-- ---- fields

-- the type of the field that a name means in a class, used in another through an expression of that class
abbrev found : Name → Name → Name → Option JType
found from class name = option_map (λ (field : KnownField). field.type) (field_of headers members from (Some (Class class)) class name)

-- a class's own field hides one above it
hidden : found (codes "t/C") (codes "t/C") (codes "y") ≡ Some types.Long
hidden = refl

-- two fields of one name are inherited, so neither is meant
ambiguous : found (codes "q/B") (codes "q/B") (codes "x") ≡ None
ambiguous = refl

through_the_interface : found (codes "q/B") (codes "I") (codes "x") ≡ Some types.Int
through_the_interface = refl

-- a private field is its class's alone
private_field : found (codes "q/B") (codes "q/B") (codes "z") ≡ None
private_field = refl

-- one of a package goes on within it
package_field : found (codes "q/A") (codes "q/B") (codes "w") ≡ Some types.Int
package_field = refl

out_of_its_package : found (codes "t/C") (codes "t/C") (codes "w") ≡ None
out_of_its_package = refl

-- a protected one may be used below its class through a type that is below the user
protected_field : found (codes "t/C") (codes "t/C") (codes "v") ≡ Some types.Int
protected_field = refl

protected_through_another : found (codes "t/C") (codes "q/B") (codes "v") ≡ None
protected_through_another = refl

-- ---- methods

-- the class and the result of the method that a call means, on an object of a class
abbrev meant : Name → List StaticType → Option (Name × JType)
meant name arguments =
    option_map (λ (one : MethodIn). (one.owner, first (types.parameters_of one.method.descriptor) (types.result_of one.method.descriptor)))
    (chosen headers members (record { from = codes "t/C"; class = codes "q/B"; through = Some (Class (codes "q/B")); name = name; arguments = arguments }))
  where
    first : List JType → Option JType → JType
    first [] None = types.Boolean
    first [] (Some result) = result
    first (parameter ∷ parameters) result = parameter

-- the most specific one
a_specific_method : meant (codes "m") (Of (Class (codes "q/A")) ∷ []) ≡ Some (codes "q/B", Class (codes "q/A"))
a_specific_method = refl

-- no most specific one: `q.B` goes to both `q.A` and `I`
no_specific_method : meant (codes "m") (Of (Class (codes "q/B")) ∷ []) ≡ None
no_specific_method = refl

-- one that is overridden isn't meant
overridden : meant (codes "m") (Of (Class (codes "J")) ∷ []) ≡ Some (codes "q/B", Class object_class)
overridden = refl

-- a bridge isn't meant where its class has what it bridges to
a_bridge : meant (codes "n") [] ≡ Some (codes "q/A", Class (codes "q/A"))
a_bridge = refl

-- `clone` of Object is protected, and so may not be called through a class that isn't below the caller; each array has it
no_clone : meant (codes "clone") [] ≡ None
no_clone = refl

an_array_clone : option_map (λ (one : MethodIn). one.owner) (chosen headers members (record { from = codes "t/C"; class = object_class; through = Some (Array types.Int); name = codes "clone"; arguments = [] })) ≡ Some object_class
an_array_clone = refl

-- ---- constructors

-- the result of the constructor that `new q.A()` means, where `q.A` has these methods
abbrev constructed : List Method → Option (Option JType)
constructed methods =
    option_map (λ (one : Target). types.result_of one.descriptor)
    (of_new headers (record { fields = []; methods = methods } ∷ none ∷ none ∷ none ∷ none ∷ none ∷ []) (codes "q/A") (codes "q/A") [])

-- a constructor, and a method of its name that has a result
abbrev a_constructor : Method
a_constructor = method 0x0001 (codes "<init>") [] None

abbrev with_a_result : Method
with_a_result = method 0x0001 (codes "<init>") [] (Some types.Int)

-- what has a result is no constructor, and doesn't stand in the way of one
no_constructor : constructed (with_a_result ∷ []) ≡ None
no_constructor = refl

the_constructor : constructed (with_a_result ∷ a_constructor ∷ []) ≡ Some None
the_constructor = refl
