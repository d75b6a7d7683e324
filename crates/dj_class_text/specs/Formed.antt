-- What the unit of a class rests on to be well formed.
use Rattle.std.specs.Prelude.{◌<◌, ◌^◌, Bool, IsTrue, List, [], ◌∷◌, length, Option, Some, None, IfSome, FitsSigned}
use Rattle.std.specs.Int.{w32, w64}
use Rattle.std.specs.List.{AllByRecursion}
use Rattle.dj_names.specs.declared.members.Constant.{Constant}
use Rattle.dj_names.specs.declared.members.Constant.TheVariants as constant
use Rattle.dj_names.specs.Headers.{Name}
use Rattle.dj_names.specs.Types.{Descriptor, Field, Method}
use Rattle.dj_syntax.specs.Trees.{Body}
use Rattle.dj_syntax.specs.WellFormed.{IsWellFormedMethod}
use Rattle.dj_class.specs.Described.{ClassOf, FieldOf, MethodOf}
use Rattle.dj_class_text.specs.Rethrows.{have_rethrow}
use Rattle.dj_class_text.specs.Methods.{method_text}

-- an int, a long and the units of a text are of their size
abbrev pub FitsConstant : Constant → Type 0
FitsConstant (constant.Int number) = FitsSigned w32 number
FitsConstant (constant.Long number) = FitsSigned w64 number
FitsConstant (constant.Text units) = AllByRecursion (λ unit. unit < 2 ^ 16) units
FitsConstant (constant.Float bits) = Unit {0}
FitsConstant (constant.Double bits) = Unit {0}

-- a method's descriptor
abbrev pub IsOfMethod : Descriptor → Type 0
IsOfMethod (Field kind) = ⊥
IsOfMethod (Method parameters result) = Unit {0}

-- what holds of each class that is read from a file (JVMS 4.1, 4.6, 4.7.2)
pub record IsFromFile (class : ClassOf) : Type 0 where
  pub constants : AllByRecursion (λ (field : FieldOf). IfSome field.constant FitsConstant) class.fields
  pub descriptors : AllByRecursion (λ (method : MethodOf). IsOfMethod method.descriptor) class.methods
  pub few : length class.methods < 2 ^ 32

-- the text of a method with this body is well formed in a unit of this class that has a helper, and in one that has none unless the body has a rethrow
abbrev pub FitsBody : Bool → Name → MethodOf → Body → Type 0
FitsBody interface class method body =
    (helper : Bool) → (IsTrue (have_rethrow body.statements) → IsTrue helper) → IsWellFormedMethod interface helper class (method_text interface method (Some body))

-- each body fits its method
abbrev pub FitBodies : Bool → Name → List MethodOf → List (Option Body) → Type 0
FitBodies interface class [] bodies = Unit {0}
FitBodies interface class (method ∷ methods) [] = Unit {0}
FitBodies interface class (method ∷ methods) (None ∷ bodies) = FitBodies interface class methods bodies
FitBodies interface class (method ∷ methods) (Some body ∷ bodies) = FitsBody interface class method body × FitBodies interface class methods bodies
