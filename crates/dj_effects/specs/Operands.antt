-- When an instruction finds its operands in a frame (JVMS 4.10.1.9).
use Rattle.std.specs.Prelude.{◌≡◌, ℕ, ◌<◌, ◌==◌, Bool, true, false, ◌&&◌, if◌then◌else◌, List, [], ◌∷◌, map, drop, length, Option, Some, None, IsSome, IsSomeAnd, IsTrue, slice_get}
use Rattle.std.specs.List.{list_any}
use Rattle.dj_names.specs.declared.header.Header.{Header}
use Rattle.dj_names.specs.Types as type
use Rattle.dj_names.specs.Types.{JType, Class, Array}
use Rattle.dj_names.specs.Headers.{Name, HasSuperclass}
use Rattle.dj_names.specs.MethodNames.{is_constructor}
use Rattle.dj_instructions.specs.declared.kinds.Kind.{Kind}
use Rattle.dj_instructions.specs.declared.kinds.Kind.TheVariants as kind
use Rattle.dj_instructions.specs.Instructions.{New, instruction_at}
use Rattle.dj_frames.specs.Frames.{Tag, Top, Int, Float, Double, Long, Null, UnbornThis, Object, Unborn, tag_of, is_unborn_at}
use Rattle.dj_code.specs.MethodCode.{Code}
use Rattle.dj_tags.specs.Goes.{Assignability, LocalGoes, Working}
use Rattle.dj_tags.specs.Laxly.{IsUnknown}
use Rattle.dj_effects.specs.Works.{Want, Of, Reference, AnyArray, ByteArray, Form, Work, Plain, Moves, Loads, Stores, Counts, Makes, Bears, Elements, Sets, Supers, Leaves, Never}
use Rattle.dj_effects.specs.Spelled.{is_named}

-- ---- tags

-- a reference, to an object that is constructed or not, or null
abbrev pub is_reference : Tag → Bool
is_reference Top = false
is_reference Int = false
is_reference Float = false
is_reference Double = false
is_reference Long = false
is_reference Null = true
is_reference UnbornThis = true
is_reference (Object type) = true
is_reference (Unborn pc) = true

-- the type of an array's elements, None where the type is no array's
abbrev pub element_type : JType → Option JType
element_type type.Boolean = None
element_type type.Byte = None
element_type type.Char = None
element_type type.Short = None
element_type type.Int = None
element_type type.Long = None
element_type type.Float = None
element_type type.Double = None
element_type (Class name) = None
element_type (Array element) = Some element

-- null, or an array whose elements pass the test
abbrev pub is_array_of : (JType → Bool) → Tag → Bool
is_array_of test Top = false
is_array_of test Int = false
is_array_of test Float = false
is_array_of test Double = false
is_array_of test Long = false
is_array_of test Null = true
is_array_of test UnbornThis = false
is_array_of test (Object type) = passes (element_type type)
  where
    passes : Option JType → Bool
    passes None = false
    passes (Some element) = test element
is_array_of test (Unborn pc) = false

-- the types that `baload` and `bastore` work on (JVMS 6.5, `baload`)
abbrev pub is_byte_or_boolean : JType → Bool
is_byte_or_boolean type.Boolean = true
is_byte_or_boolean type.Byte = true
is_byte_or_boolean type.Char = false
is_byte_or_boolean type.Short = false
is_byte_or_boolean type.Int = false
is_byte_or_boolean type.Long = false
is_byte_or_boolean type.Float = false
is_byte_or_boolean type.Double = false
is_byte_or_boolean (Class name) = false
is_byte_or_boolean (Array element) = false

-- a tag is of a kind of values
abbrev pub HasKind : Kind → Tag → Type 0
HasKind kind.Int tag = tag ≡ Int
HasKind kind.Long tag = tag ≡ Long
HasKind kind.Float tag = tag ≡ Float
HasKind kind.Double tag = tag ≡ Double
HasKind kind.Ref tag = IsTrue (is_reference tag)

-- ---- the stack

-- an entry is what is wanted
abbrev pub IsWanted : Assignability → Want → Tag → Type 0
IsWanted Goes (Of tag) found = LocalGoes Goes found tag
IsWanted Goes Reference found = IsTrue (is_reference found)
IsWanted Goes AnyArray found = IsTrue (is_array_of (λ element. true) found)
IsWanted Goes ByteArray found = IsTrue (is_array_of is_byte_or_boolean found)

-- the stack begins with what is wanted (JVMS 4.10.1.4, canPop)
pub data AreWanted (Goes : Assignability) : List Want → List Tag → Type 0 where
  enough : {stack : List Tag} → AreWanted Goes [] stack
  there : {first : Want} {more : List Want} {top : Tag} {below : List Tag} → IsWanted Goes first top → AreWanted Goes more below → AreWanted Goes (first ∷ more) (top ∷ below)

-- the words of an entry that is moved; nothing takes a Top
abbrev pub moved_words : Tag → ℕ
moved_words Top = 0
moved_words Int = 1
moved_words Float = 1
moved_words Double = 2
moved_words Long = 2
moved_words Null = 1
moved_words UnbornThis = 1
moved_words (Object type) = 1
moved_words (Unborn pc) = 1

-- entries of these words begin with these words
abbrev pub begins : List ℕ → List ℕ → Bool
begins [] found = true
begins (wanted ∷ more) [] = false
begins (wanted ∷ more) (first ∷ rest) = (wanted == first) && begins more rest

-- the first form that fits entries of these words
abbrev pub form_of : List Form → List ℕ → Option Form
form_of [] found = None
form_of (form ∷ forms) found = if begins form.takes found then Some form else form_of forms found

-- what is read from an array of references: null where the array is
abbrev pub element_tag : Tag → Option Tag
element_tag Top = None
element_tag Int = None
element_tag Float = None
element_tag Double = None
element_tag Long = None
element_tag Null = Some Null
element_tag UnbornThis = None
element_tag (Object type) = of_element (element_type type)
  where
    of_element : Option JType → Option Tag
    of_element None = None
    of_element (Some element) = if is_named element then Some (Object element) else None
element_tag (Unborn pc) = None

-- an index on top of an array of references, or of null
abbrev pub HasElement : List Tag → Type 0
HasElement [] = ⊥
HasElement (index ∷ []) = ⊥
HasElement (index ∷ array ∷ below) = (index ≡ Int) × IsSome (element_tag array)

-- ---- constructors

-- the `new` at this offset makes an object of the type
pub record IsNewOf (code : Code) (pc : ℕ) (owner : JType) : Type 0 where
  pub class : Name
  pub here : instruction_at code.instructions pc ≡ Some (New class)
  pub same : owner ≡ Class class

-- a constructor of this type may be called on `this`: of the class itself, or of its superclass, which may be any where the class is unknown
pub data ConstructsThis (headers : List Header) (class : Name) : JType → Type 0 where
  own : ConstructsThis headers class (Class class)
  above : {upper : Name} → HasSuperclass headers class upper → ConstructsThis headers class (Class upper)
  unknown : {upper : Name} → IsUnknown headers class → ConstructsThis headers class (Class upper)

-- the object on top of the stack isn't constructed yet, and a constructor of this type may be called on it
abbrev pub CanBeBorn : List Header → Code → JType → List Tag → Type 0
CanBeBorn headers code owner [] = ⊥
CanBeBorn headers code owner (Top ∷ below) = ⊥
CanBeBorn headers code owner (Int ∷ below) = ⊥
CanBeBorn headers code owner (Float ∷ below) = ⊥
CanBeBorn headers code owner (Double ∷ below) = ⊥
CanBeBorn headers code owner (Long ∷ below) = ⊥
CanBeBorn headers code owner (Null ∷ below) = ⊥
CanBeBorn headers code owner (UnbornThis ∷ below) = ConstructsThis headers code.class owner
CanBeBorn headers code owner (Object type ∷ below) = ⊥
CanBeBorn headers code owner (Unborn pc ∷ below) = IsNewOf code pc owner

-- what lies below what is taken
abbrev pub under : {A : Type 0} → List Want → List A → List A
under wants stack = drop (length wants) stack

-- a value for a field, on an object that has it; or on `this` in a constructor of the field's own class, before another is called
pub data CanSet (Goes : Assignability) (code : Code) (type owner : JType) (stack : List Tag) : Type 0 where
  born : AreWanted Goes (Of (tag_of type) ∷ Of (Object owner) ∷ []) stack → CanSet Goes code type owner stack
  unborn : IsTrue (is_constructor code.name) → owner ≡ Class code.class → AreWanted Goes (Of (tag_of type) ∷ Of UnbornThis ∷ []) stack → CanSet Goes code type owner stack

-- ---- all works

-- an instruction with this work at `pc` finds its operands in the frame
abbrev pub HasOperands : Assignability → List Header → Code → ℕ → Work → Working → Type 0
HasOperands Goes headers code pc (Plain wants gives) frame = AreWanted Goes wants frame.stack
HasOperands Goes headers code pc (Moves forms) frame = IsSome (form_of forms (map moved_words frame.stack))
HasOperands Goes headers code pc (Loads kind slot) frame = (slot < code.max_locals) × IsSomeAnd (slice_get frame.locals slot) (HasKind kind)
HasOperands Goes headers code pc (Stores kind slot) frame = IsSomeAnd (slice_get frame.stack 0) (HasKind kind)
HasOperands Goes headers code pc (Counts slot) frame = (slot < code.max_locals) × (slice_get frame.locals slot ≡ Some Int)
HasOperands Goes headers code pc Makes frame = list_any (is_unborn_at pc) frame.stack ≡ false
HasOperands Goes headers code pc (Bears wants owner) frame = AreWanted Goes wants frame.stack × CanBeBorn headers code owner (under wants frame.stack)
HasOperands Goes headers code pc Elements frame = HasElement frame.stack
HasOperands Goes headers code pc (Sets type owner) frame = CanSet Goes code type owner frame.stack
HasOperands Goes headers code pc (Supers owner wants gives) frame = Goes (Class code.class) owner × AreWanted Goes wants frame.stack
HasOperands Goes headers code pc Leaves frame = IsTrue (is_constructor code.name) → frame.unborn_this ≡ false
HasOperands Goes headers code pc Never frame = ⊥
