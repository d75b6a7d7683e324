-- Slots of frames, and the numbers that they get.
use Rattle.std.specs.Prelude.{◌≡◌, ℕ, ◌+◌, ◌-◌, nat_lt, length, if◌then◌else◌, List, [], ◌∷◌, option_map, Option, Some, None, slice_get}
use Rattle.dj_names.specs.Types as types
use Rattle.dj_names.specs.Types.{JType, Class, view_type}
use Rattle.dj_names.specs.Assignable.{object_name}
use Rattle.dj_frames.specs.Frames.{Tag, Top, Int, Float, Double, Long, Null, UnbornThis, Object, Unborn, Frame, view_frame}
use Rattle.dj_frames.specs.declared.frame.Frame as code_frame
use Rattle.dj_numbers.specs.Numbers.{Typing, with_slots}
use Rattle.dj_numbers.specs.declared.kinds.PlainTypes.{PlainTypes}

-- the type of the variable of a slot of which this is said: none where nothing is known, or where its object isn't born; that of null is Object
abbrev pub type_of_tag : Tag → Option JType
type_of_tag Top = None
type_of_tag Int = Some types.Int
type_of_tag Float = Some types.Float
type_of_tag Double = Some types.Double
type_of_tag Long = Some types.Long
type_of_tag Null = Some (Class object_name)
type_of_tag UnbornThis = None
type_of_tag (Object type) = Some type
type_of_tag (Unborn pc) = None

-- likewise, where a frame may say nothing
abbrev pub type_of_slot : Option Tag → Option JType
type_of_slot None = None
type_of_slot (Some tag) = type_of_tag tag

-- what a frame says of a slot: a local's number, or one past the locals for each entry of the stack, listed from the bottom
abbrev pub frame_tag : ℕ → Frame → ℕ → Option Tag
frame_tag most frame slot = if nat_lt slot most then slice_get frame.locals slot else slice_get frame.stack (slot - most)

-- the type of a slot's variable by a frame
abbrev pub frame_type : ℕ → Frame → ℕ → Option JType
frame_type most frame slot = type_of_slot (frame_tag most frame slot)

-- the types that tags are of by themselves
pub record ArePlain (plain : PlainTypes) : Type 0 where
  pub int : view_type plain.int ≡ types.Int
  pub long : view_type plain.long ≡ types.Long
  pub float : view_type plain.float ≡ types.Float
  pub double : view_type plain.double ≡ types.Double
  pub object : view_type plain.object ≡ Class object_name

-- ---- frames one after another

-- a frame where it is there, seen as plain data
abbrev pub view_first : Option code_frame.Frame → Option Frame
view_first = option_map view_frame

-- the variables of a frame's slots are met, where there is a frame
abbrev pub with_first : ℕ → List Typing → Option Frame → List Typing
with_first most variables None = variables
with_first most variables (Some frame) = with_slots variables (frame_type most frame) (most + length frame.stack)

-- those of frames, one after another
abbrev pub with_frames : ℕ → List Typing → List (Option Frame) → List Typing
with_frames most variables [] = variables
with_frames most variables (first ∷ rest) = with_frames most (with_first most variables first) rest
