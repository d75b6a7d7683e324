-- Frames as plain data, and the frame that a method begins with (JVMS 4.7.4, 4.10.1.2, 4.10.1.6).
use Rattle.std.specs.Prelude.{◌≡◌, ◌<◌, ◌≤◌, Option, Some, None, ℕ, List, [], ◌∷◌, ◌++◌, map, flat_map, Bool, true, false, ◌==◌, ◌&&◌, not, if◌then◌else◌, bit_and, codes}
use Rattle.std.specs.List.{list_any}
use Rattle.std.specs.Str.{bytes_eq}
use Rattle.dj_names.specs.Headers.{Name}
use Rattle.dj_names.specs.Types.{JType, Boolean, Byte, Char, Short, Int as IntType, Long as LongType, Float as FloatType, Double as DoubleType, Class, Array, parameters_of, view_type}
use Rattle.dj_names.specs.Assignable.{object_name}
use Rattle.dj_class.specs.Described.{MethodOf}
use Rattle.dj_frames.specs.declared.tag.Tag as declared
use Rattle.dj_frames.specs.declared.tag.Tag.TheVariants as code
use Rattle.dj_frames.specs.declared.frame.Frame as code_frame
use Rattle.dj_frames.specs.declared.unborn.Unborn as code_unborn
use Rattle.dj_frames.specs.declared.unborn.Unborn.TheVariants as unborn

-- a verification type; UnbornThis is `this` before its constructor is called, Unborn an object before its own, by the pc of its `new`
pub data Tag : Type 0 where
  Top : Tag
  Int : Tag
  Float : Tag
  Double : Tag
  Long : Tag
  Null : Tag
  UnbornThis : Tag
  Object : JType → Tag
  Unborn : ℕ → Tag

-- a tag of the code, seen as plain data
abbrev pub view_tag : declared.Tag → Tag
view_tag code.Top = Top
view_tag code.Int = Int
view_tag code.Float = Float
view_tag code.Double = Double
view_tag code.Long = Long
view_tag code.Null = Null
view_tag code.UnbornThis = UnbornThis
view_tag (code.Object type) = Object (view_type type)
view_tag (code.Unborn pc) = Unborn pc

-- tags of the code, in order
abbrev pub view_tags : List declared.Tag → List Tag
view_tags = map view_tag

-- what the locals and the operand stack hold, and whether `this` isn't constructed yet
pub record Frame : Type 0 where
  pub locals : List Tag
  pub stack : List Tag
  pub unborn_this : Bool

-- a frame of the code, seen as plain data
abbrev pub view_frame : code_frame.Frame → Frame
view_frame frame = record { locals = view_tags frame.locals; stack = view_tags frame.stack; unborn_this = frame.unborn_this }

-- frames of the code by their offsets, seen as plain data
abbrev pub view_frames : List (ℕ × code_frame.Frame) → List (ℕ × Frame)
view_frames = map (λ at. (at.0, view_frame at.1))

-- ---- from values to slots

-- the locals that a value takes: a long or a double has a second one, of which nothing is known (JVMS 2.6.1)
abbrev pub slots_of : Tag → List Tag
slots_of Top = Top ∷ []
slots_of Int = Int ∷ []
slots_of Float = Float ∷ []
slots_of Double = Double ∷ Top ∷ []
slots_of Long = Long ∷ Top ∷ []
slots_of Null = Null ∷ []
slots_of UnbornThis = UnbornThis ∷ []
slots_of (Object type) = Object type ∷ []
slots_of (Unborn pc) = Unborn pc ∷ []

-- whether a value is a `this` that isn't constructed yet
abbrev pub is_unborn_this : Tag → Bool
is_unborn_this Top = false
is_unborn_this Int = false
is_unborn_this Float = false
is_unborn_this Double = false
is_unborn_this Long = false
is_unborn_this Null = false
is_unborn_this UnbornThis = true
is_unborn_this (Object type) = false
is_unborn_this (Unborn pc) = false

-- whether a value is the object of the `new` at a pc, before its constructor is called
abbrev pub is_unborn_at : ℕ → Tag → Bool
is_unborn_at pc Top = false
is_unborn_at pc Int = false
is_unborn_at pc Float = false
is_unborn_at pc Double = false
is_unborn_at pc Long = false
is_unborn_at pc Null = false
is_unborn_at pc UnbornThis = false
is_unborn_at pc (Object type) = false
is_unborn_at pc (Unborn other) = other == pc

-- the test for an object that isn't constructed yet
abbrev pub is_unborn : code_unborn.Unborn → Tag → Bool
is_unborn unborn.This = is_unborn_this
is_unborn (unborn.At pc) = is_unborn_at pc

-- a place from one up to an end is the first that passes
pub record IsFirst (passes : ℕ → Bool) (start end place : ℕ) : Type 0 where
  pub behind : start ≤ place
  pub before : place < end
  pub here : passes place ≡ true
  pub first : (other : ℕ) → start ≤ other → other < place → passes other ≡ false

-- the first place from one up to an end that passes, if one does
abbrev pub IsNext : (ℕ → Bool) → ℕ → ℕ → Option ℕ → Type 0
IsNext passes start end None = (place : ℕ) → start ≤ place → place < end → passes place ≡ false
IsNext passes start end (Some place) = IsFirst passes start end place

-- the frame of these values in the locals and on the stack; its flag is set where a local is UnbornThis (JVMS 4.10.1.4)
abbrev pub frame_of : List Tag → List Tag → Frame
frame_of values stack = record { locals = flat_map slots_of values; stack = stack; unborn_this = list_any is_unborn_this values }

-- ---- the frame that a method begins with

-- the tag of a value of a type; the machine knows no values smaller than an int (JVMS 4.10.1.2)
abbrev pub tag_of : JType → Tag
tag_of Boolean = Int
tag_of Byte = Int
tag_of Char = Int
tag_of Short = Int
tag_of IntType = Int
tag_of LongType = Long
tag_of FloatType = Float
tag_of DoubleType = Double
tag_of (Class name) = Object (Class name)
tag_of (Array element) = Object (Array element)

-- whether a method of this class is a constructor that has another to call: not in java/lang/Object (JVMS 4.10.1.6)
abbrev pub has_unborn_this : Name → Name → Bool
has_unborn_this class name = bytes_eq name (codes "<init>") && not (bytes_eq class object_name)

-- what `this` is at the entry of a method that has one
abbrev pub this_of : Name → MethodOf → Tag
this_of class method = if has_unborn_this class method.name then UnbornThis else Object (Class class)

-- what `this` is at the entry of a method, none where the method is static (ACC_STATIC, 0x0008)
abbrev pub receiver_of : Name → MethodOf → List Tag
receiver_of class method = if bit_and method.flags 8 == 0 then this_of class method ∷ [] else []

-- the values that a method's locals hold at its entry: `this`, and its parameters
abbrev pub entry_values : Name → MethodOf → List Tag
entry_values class method = receiver_of class method ++ map tag_of (parameters_of method.descriptor)

-- the frame that a method begins with
abbrev pub entry_frame : Name → MethodOf → Frame
entry_frame class method = frame_of (entry_values class method) []
