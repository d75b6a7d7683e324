-- What may be known of references, and what it takes that instructions keep it (JVMS 2.4, 4.10.1.2, 4.10.1.9).
use Rattle.std.specs.Prelude.{◌≡◌, ℕ, ℤ, List, Contains, Some, codes}
use Rattle.dj_names.specs.declared.header.Header.{Header}
use Rattle.dj_names.specs.Headers.{Name}
use Rattle.dj_names.specs.Types.{JType, Class, Array}
use Rattle.dj_names.specs.Assignable.{IsReference, IsSubtype}
use Rattle.dj_values.specs.Values.{RefValue}
use Rattle.dj_values.specs.Fits.{throwable_name, element_of, IsReferenceOf, IsObject, IsThrowable}
use Rattle.dj_values.specs.Answers.{IsNewArray}
use Rattle.dj_instructions.specs.Instructions.{New, instruction_at}
use Rattle.dj_code.specs.MethodCode.{Code}
use Rattle.dj_tags.specs.Goes.{Assignability}
use Rattle.dj_effects.specs.Operands.{IsNewOf}
use Rattle.dj_loaded.specs.Loaded.{IsInstanceOf}
use Rattle.dj_bytecode.specs.Objects.{text_reference}
use Rattle.dj_typed_states.specs.Shapes.{HasShape}

-- the classes of which a machine makes objects by itself
abbrev pub string_name : Name
string_name = codes "java/lang/String"

abbrev pub class_name : Name
class_name = codes "java/lang/Class"

-- facts of references: of one whose tag is that of objects of a type; of `this` while it isn't constructed; and of an object that the `new` at an offset made and that isn't constructed yet
pub record Facts : Type 1 where
  pub of : JType → RefValue → Type 0
  pub this : RefValue → Type 0
  pub made : ℕ → RefValue → Type 0

-- what is known of a reference that is thrown
abbrev pub IsThrown : Facts → RefValue → Type 0
IsThrown facts reference = facts.of (Class throwable_name) reference

-- what it takes that each step of code keeps facts, by a relation that says which types stand where which are wanted, and the headers that run
pub record AreKept (Goes : Assignability) (headers : List Header) (code : Code) (facts : Facts) : Type 0 where
  -- they say at least that each is a reference, of its type's shape
  pub reference : (type : JType) (one : RefValue) → facts.of type one → IsReference one.class
  pub shape : (type : JType) (one : RefValue) → facts.of type one → HasShape type one.class
  pub this_reference : (one : RefValue) → facts.this one → IsReference one.class
  pub made_reference : (pc : ℕ) (one : RefValue) → facts.made pc one → IsReference one.class
  -- they are so of what fits a type, of `this`, of what is thrown, and of what an array holds
  pub fits : (type : JType) (one : RefValue) → IsReferenceOf headers type one → facts.of type one
  pub this_fits : (one : RefValue) → IsReferenceOf headers (Class code.class) one → facts.this one
  pub thrown : (one : RefValue) → IsThrowable headers one → IsThrown facts one
  pub element : (element kept : JType) (array one : RefValue) → facts.of (Array element) array → element_of array.class ≡ Some kept → IsReferenceOf headers kept one → facts.of element one
  -- of what the machine makes: new objects and arrays, texts, and classes
  pub new : (pc : ℕ) (class : Name) (one : RefValue) → Contains code.instructions (pc, New class) → IsObject class one → facts.made pc one
  pub array : (type : JType) (sizes : List ℤ) (one : RefValue) → IsNewArray type sizes one → facts.of type one
  pub text : (units : List ℕ) → facts.of (Class string_name) (text_reference units)
  pub class : (one : RefValue) → IsObject class_name one → facts.of (Class class_name) one
  -- and they go on: where a type stands for another, behind a cast, and as an object is constructed
  pub goes : (from to : JType) (one : RefValue) → Goes from to → facts.of from one → facts.of to one
  pub cast : (from to : JType) (one : RefValue) → facts.of from one → IsSubtype headers one.class to → facts.of to one
  pub this_born : (one : RefValue) → facts.this one → facts.of (Class code.class) one
  pub born : (pc : ℕ) (owner : JType) (one : RefValue) → IsNewOf code pc owner → facts.made pc one → facts.of owner one

-- ---- shapes

-- facts whatever classes there are: each is a reference, of its type's shape
abbrev pub shapes : Facts
shapes = record { of = λ type one. IsReference one.class × HasShape type one.class; this = λ one. IsReference one.class; made = λ pc one. IsReference one.class }

-- ---- classes

-- an object that isn't constructed yet, of exactly the class that the `new` at an offset names
pub record IsMadeAt (headers : List Header) (code : Code) (pc : ℕ) (reference : RefValue) : Type 0 where
  pub class : Name
  pub here : instruction_at code.instructions pc ≡ Some (New class)
  pub exact : reference.class ≡ Class class
  pub of : IsInstanceOf headers (Class class) reference

-- facts by the headers of the classes that run: the class of each goes to its type, that of `this` to the method's class, and another that isn't constructed yet is of the class of its `new`
abbrev pub classes : List Header → Code → Facts
classes headers code = record { of = IsInstanceOf headers; this = IsInstanceOf headers (Class code.class); made = IsMadeAt headers code }
