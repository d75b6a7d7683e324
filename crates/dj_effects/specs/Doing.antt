-- What the functions that work on frames promise each other.
use Rattle.std.specs.Prelude.{◌≡◌, ℕ, zero, suc, List, [], ◌∷◌, map, Option, Some, None, Bool, false, slice_get, codes}
use Rattle.std.specs.Option.{option_and_then}
use Rattle.dj_names.specs.Types as type
use Rattle.dj_names.specs.Types.{Class, Array, view_type}
use Rattle.dj_names.specs.Assignable.{object_name}
use Rattle.dj_frames.specs.Frames.{Tag, Top, Int, Float, Double, Long, Null, UnbornThis, Object, Unborn, tag_of, view_tag, view_tags}
use Rattle.dj_effects.specs.declared.want.Want as code_want
use Rattle.dj_effects.specs.declared.want.Want.TheVariants as code
use Rattle.dj_effects.specs.declared.known.ClassTags as code_classes
use Rattle.dj_effects.specs.declared.known.ArrayTags as code_arrays
use Rattle.dj_effects.specs.declared.known.Known as code_known
use Rattle.dj_frames.specs.declared.unborn.Unborn as code_unborn
use Rattle.dj_frames.specs.declared.unborn.Unborn.TheVariants as unborn
use Rattle.dj_effects.specs.declared.working.Working as code_working
use Rattle.dj_tags.specs.Goes.{Working}
use Rattle.dj_effects.specs.Works.{Want, Of, Reference, AnyArray, ByteArray}
use Rattle.dj_effects.specs.Rows.{object, throwable_name}

-- a working frame of the code, seen as plain data
abbrev pub view_working : code_working.Working → Working
view_working frame = record { locals = view_tags frame.locals; stack = view_tags frame.stack; unborn_this = frame.unborn_this }

-- what the code wants of an entry, seen as plain data
abbrev pub view_want : code_want.Want → Want
view_want (code.Of tag) = Of (view_tag tag.now)
view_want (code.Value kind) = Of (tag_of (view_type kind.now))
view_want (code.Object kind) = Of (Object (view_type kind.now))
view_want code.Reference = Reference
view_want code.AnyArray = AnyArray
view_want code.ByteArray = ByteArray

-- wants of the code, in order
abbrev pub view_wants : List code_want.Want → List Want
view_wants = map view_want

-- the references are those of the classes that they are called after
pub record AreClasses (tags : code_classes.ClassTags) : Type 0 where
  pub object_is : view_tag tags.object ≡ object object_name
  pub throwable_is : view_tag tags.throwable ≡ object throwable_name
  pub string_is : view_tag tags.string ≡ object (codes "java/lang/String")
  pub class_is : view_tag tags.class ≡ object (codes "java/lang/Class")
  pub handle_is : view_tag tags.handle ≡ object (codes "java/lang/invoke/MethodHandle")
  pub method_type_is : view_tag tags.method_type ≡ object (codes "java/lang/invoke/MethodType")

-- the references are those of arrays of what they are called after
pub record AreArrays (tags : code_arrays.ArrayTags) : Type 0 where
  pub ints_are : view_tag tags.ints ≡ Object (Array type.Int)
  pub longs_are : view_tag tags.longs ≡ Object (Array type.Long)
  pub floats_are : view_tag tags.floats ≡ Object (Array type.Float)
  pub doubles_are : view_tag tags.doubles ≡ Object (Array type.Double)
  pub objects_are : view_tag tags.objects ≡ Object (Array (Class object_name))
  pub chars_are : view_tag tags.chars ≡ Object (Array type.Char)
  pub shorts_are : view_tag tags.shorts ≡ Object (Array type.Short)

-- each reference is what it is called after
pub record IsKnown (known : code_known.Known) : Type 0 where
  pub classes : AreClasses known.classes
  pub arrays : AreArrays known.arrays

-- the object that a tag tells of, where it isn't constructed yet
abbrev pub unborn_of : Tag → Option code_unborn.Unborn
unborn_of Top = None
unborn_of Int = None
unborn_of Float = None
unborn_of Double = None
unborn_of Long = None
unborn_of Null = None
unborn_of UnbornThis = Some unborn.This
unborn_of (Object type) = None
unborn_of (Unborn pc) = Some (unborn.At pc)

-- the object on top of a stack, where it isn't constructed yet
abbrev pub unborn_on : List Tag → Option code_unborn.Unborn
unborn_on stack = option_and_then unborn_of (slice_get stack 0)

-- the item at a place passes the test
abbrev pub passes_at : {A : Type 0} → (A → Bool) → ℕ → List A → Bool
passes_at test place [] = false
passes_at test zero (x ∷ list) = test x
passes_at test (suc place) (x ∷ list) = passes_at test place list
