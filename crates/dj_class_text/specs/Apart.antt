-- No two members of a unit clash (JLS 8.2, 8.3, 8.4.2).
use Rattle.std.specs.Prelude.{◌≡◌, ◌≢◌, All, AllPairs, IfSome}
use Rattle.dj_names.specs.Types.{parameters_of}
use Rattle.dj_syntax.specs.Trees.{CompilationUnit, FieldText, MethodText}

-- two methods have one name and the same parameter types, whatever their results (JLS 8.4.2)
pub record HaveOneSignature (method other : MethodText) : Type 0 where
  pub name : other.name ≡ method.name
  pub parameters : parameters_of other.descriptor ≡ parameters_of method.descriptor

-- no two fields of a unit have one name, no two of its methods have one signature, and none has the helper's name
pub record IsApart (unit : CompilationUnit) : Type 0 where
  pub fields : AllPairs (λ (field other : FieldText). other.name ≢ field.name) unit.fields
  pub methods : AllPairs (λ (method other : MethodText). ¬ HaveOneSignature method other) unit.methods
  pub helper : IfSome unit.helper (λ name. All (λ (method : MethodText). method.name ≢ name) unit.methods)
