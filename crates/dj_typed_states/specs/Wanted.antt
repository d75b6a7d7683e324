-- What instructions want of the values on the stack, and where references go (JVMS 4.10.1.4, 4.10.1.9; JLS 5.5).
use Rattle.std.specs.Prelude.{◌⊎◌, List, [], ◌∷◌}
use Rattle.dj_names.specs.declared.header.Header.{Header}
use Rattle.dj_names.specs.Types.{JType, Boolean, Byte, Array}
use Rattle.dj_names.specs.Assignable.{IsReference, IsSubtype}
use Rattle.dj_values.specs.Values.{RefValue, Value, Int, Long, Null, Ref}
use Rattle.dj_frames.specs.Frames as tag
use Rattle.dj_frames.specs.Frames.{Tag}
use Rattle.dj_effects.specs.Works.{Want, Of, Reference, AnyArray, ByteArray}
use Rattle.dj_typed_states.specs.Facts.{Facts}
use Rattle.dj_typed_states.specs.Held.{IsHeld, AllAre}

-- a value that is null or a reference
pub data IsAnyReference : Value → Type 0 where
  nothing : IsAnyReference Null
  something : {reference : RefValue} → IsReference reference.class → IsAnyReference (Ref reference)

-- a value that is null or an array of bytes or booleans
abbrev pub IsByteArray : Facts → Value → Type 0
IsByteArray facts value = IsHeld facts (tag.Object (Array Boolean)) value ⊎ IsHeld facts (tag.Object (Array Byte)) value

-- a value is what is wanted
abbrev pub IsMeant : Facts → Want → Value → Type 0
IsMeant facts (Of wanted) value = IsHeld facts wanted value
IsMeant facts Reference value = IsAnyReference value
IsMeant facts AnyArray value = IsAnyReference value
IsMeant facts ByteArray value = IsByteArray facts value

-- the top of a stack is what is wanted, and what lies below it is of these tags
pub data Meets (facts : Facts) : List Want → List Tag → List Value → Type 0 where
  met : {tags : List Tag} {stack : List Value} → AllAre (IsHeld facts) tags stack → Meets facts [] tags stack
  top : {want : Want} {wants : List Want} {tags : List Tag} {value : Value} {stack : List Value} → IsMeant facts want value → Meets facts wants tags stack → Meets facts (want ∷ wants) tags (value ∷ stack)

-- null, or a reference that goes to a type: what a cast to it leaves as it is
abbrev pub GoesAs : List Header → JType → Value → Type 0
GoesAs headers to (Int number) = ⊥
GoesAs headers to (Long number) = ⊥
GoesAs headers to Null = Unit {0}
GoesAs headers to (Ref reference) = IsSubtype headers reference.class to
