-- What a frame says of the state of a running method: of which kinds its values are (JVMS 2.6, 4.10.1.2, 4.10.1.6).
use Rattle.std.specs.Prelude.{ℕ, ℤ, ◌≤◌, List, [], ◌∷◌, length, Option, Some, slice_get, slice_index_or, None}
use Rattle.dj_names.specs.Types.{JType}
use Rattle.dj_values.specs.Values.{RefValue, Value, Int, Long, Null, Ref}
use Rattle.dj_frames.specs.Frames as tag
use Rattle.dj_frames.specs.Frames.{Tag}
use Rattle.dj_code.specs.MethodCode.{Code}
use Rattle.dj_tags.specs.Goes.{Working}
use Rattle.dj_effects.specs.Effects.{or_top}
use Rattle.dj_bytecode.specs.Machine.{Locals}
use Rattle.dj_typed_states.specs.Facts.{Facts}

-- a value is of the kind that a tag says: no value is a float or double, an object is null or a reference of which the facts hold that are known of its type, and of one that isn't constructed yet they hold too
pub data IsHeld (facts : Facts) : Tag → Value → Type 0 where
  unknown : {value : Value} → IsHeld facts tag.Top value
  int : {number : ℤ} → IsHeld facts tag.Int (Int number)
  long : {number : ℤ} → IsHeld facts tag.Long (Long number)
  null : IsHeld facts tag.Null Null
  unborn_this : {reference : RefValue} → facts.this reference → IsHeld facts tag.UnbornThis (Ref reference)
  no_object : {type : JType} → IsHeld facts (tag.Object type) Null
  object : {type : JType} {reference : RefValue} → facts.of type reference → IsHeld facts (tag.Object type) (Ref reference)
  unborn : {pc : ℕ} {reference : RefValue} → facts.made pc reference → IsHeld facts (tag.Unborn pc) (Ref reference)

-- a local is so too; where nothing is known it may hold no value
pub data IsLocal (facts : Facts) : Tag → Option Value → Type 0 where
  anything : {local : Option Value} → IsLocal facts tag.Top local
  known : {held : Tag} {value : Value} → IsHeld facts held value → IsLocal facts held (Some value)

-- one by one, and as many
pub data AllAre {A B : Type 0} (Is : A → B → Type 0) : List A → List B → Type 0 where
  none : AllAre Is [] []
  more : {first : A} {other : B} {ones : List A} {others : List B} → Is first other → AllAre Is ones others → AllAre Is (first ∷ ones) (other ∷ others)

-- the locals, slot by slot; nothing is known of those that no tag is of
abbrev pub AreLocals : Facts → List Tag → Locals → Type 0
AreLocals facts tags locals = (slot : ℕ) → IsLocal facts (or_top (slice_get tags slot)) (slice_index_or locals slot None)

-- a frame says what is on the stack and in the locals, which are as many as the method has, or more
pub record Describes (facts : Facts) (code : Code) (frame : Working) (stack : List Value) (locals : Locals) : Type 0 where
  pub on_stack : AllAre (IsHeld facts) frame.stack stack
  pub in_locals : AreLocals facts frame.locals locals
  pub room : code.max_locals ≤ length locals
