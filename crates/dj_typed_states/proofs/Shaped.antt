-- Shapes are kept, whatever classes run.
use Rattle.std.proofs.Common.{◌≡◌, List, IsSomeAnd, Option, sym, subst}
use Rattle.std.proofs.lemmas.Bool.{false≢true}
use Rattle.dj_names.specs.declared.header.Header.{Header}
use Rattle.dj_names.specs.Types.{JType, Class, Array}
use Rattle.dj_names.specs.Assignable.{IsReference}
use Rattle.dj_values.specs.Values.{RefValue, Value}
use Rattle.dj_frames.specs.Frames.{Tag}
use Rattle.dj_values.specs.Fits.{IsArray, IsReferenceOf}
use Rattle.dj_code.specs.MethodCode.{Code}
use Rattle.dj_tags.specs.Goes.{Assignability, Working}
use Rattle.dj_bytecode.specs.Machine.{Locals}
use Rattle.dj_typed_states.specs.Shapes.{HasShape}
use Rattle.dj_typed_states.specs.Facts.{Facts, AreKept, shapes}
use Rattle.dj_typed_states.specs.Held.{IsHeld, unknown, int, long, null, unborn_this, no_object, object, unborn, IsLocal, anything, known, AllAre, none, more, Describes}
use Rattle.dj_typed_states.proofs.Shapes.{shape_refl, shape_join, subtype_shape, length_reference}

-- an array's type is a reference's
pub array_reference : (type : JType) → IsArray type → IsReference type
array_reference (Array element) is = tt
array_reference (Class name) is = tt
array_reference type is = absurd (false≢true is)

-- a reference of a type has its shape
pub reference_shaped : (headers : List Header) (type : JType) (reference : RefValue) → IsReferenceOf headers type reference → IsReference reference.class × HasShape type reference.class
reference_shaped headers type reference is =
    let found = length_reference reference.class reference.length is.length in
    (found, subtype_shape headers reference.class type found is.assignable)

-- an object of exactly one class is a reference
exactly : (one : RefValue) (type : JType) → one.class ≡ type → IsReference type → IsReference one.class
exactly one type exact is = subst IsReference (sym exact) is

pub shapes_kept : (Goes : Assignability) (headers : List Header) (code : Code) → ((from to : JType) → Goes from to → HasShape to from) → AreKept Goes headers code shapes
shapes_kept Goes headers code keeps = record {
  reference = λ type one of. of.0;
  shape = λ type one of. of.1;
  this_reference = λ one is. is;
  made_reference = λ pc one is. is;
  fits = λ type one is. reference_shaped headers type one is;
  this_fits = λ one is. (reference_shaped headers (Class code.class) one is).0;
  thrown = λ one is. let found = exactly one (Class is.class) is.object.exact tt in (found, found);
  element = λ element kept array one of here is.
      let shaped = reference_shaped headers kept one is in (shaped.0, shape_join element kept one.class (subst (λ found. IsSomeAnd found (HasShape element)) here of.1) shaped.1);
  new = λ pc class one has is. exactly one (Class class) is.exact tt;
  array = λ type sizes one is. (exactly one type is.exact (array_reference type is.array), subst (HasShape type) (sym is.exact) (shape_refl type));
  text = λ units. (tt, tt);
  class = λ one is. let found = exactly one (Class _) is.exact tt in (found, found);
  goes = λ from to one goes of. (of.0, shape_join to from one.class (keeps from to goes) of.1);
  cast = λ from to one of passed. (of.0, subtype_shape headers one.class to of.0 passed);
  this_born = λ one is. (is, is);
  born = λ pc owner one is made. subst (λ type. IsReference one.class × HasShape type one.class) (sym is.same) (made, made);
}

-- ---- what facts say at least

module _ {Goes : Assignability} {headers : List Header} {code : Code} {facts : Facts} (kept : AreKept Goes headers code facts) where
  held_shaped : {held : Tag} {value : Value} → IsHeld facts held value → IsHeld shapes held value
  held_shaped unknown = unknown
  held_shaped int = int
  held_shaped long = long
  held_shaped null = null
  held_shaped (unborn_this {reference} is) = unborn_this (kept.this_reference reference is)
  held_shaped no_object = no_object
  held_shaped (object {type} {reference} is) = object (kept.reference type reference is, kept.shape type reference is)
  held_shaped (unborn {pc} {reference} is) = unborn (kept.made_reference pc reference is)

  local_shaped : {held : Tag} {local : Option Value} → IsLocal facts held local → IsLocal shapes held local
  local_shaped anything = anything
  local_shaped (known is) = known (held_shaped is)

  all_shaped : {tags : List Tag} {stack : List Value} → AllAre (IsHeld facts) tags stack → AllAre (IsHeld shapes) tags stack
  all_shaped none = none
  all_shaped (more is are) = more (held_shaped is) (all_shaped are)

  -- what a frame describes by facts it describes by shapes
  pub describes_shaped : {frame : Working} {stack : List Value} {locals : Locals} → Describes facts code frame stack locals → Describes shapes code frame stack locals
  describes_shaped describes = record { on_stack = all_shaped describes.on_stack; in_locals = λ slot. local_shaped (describes.in_locals slot); room = describes.room }
