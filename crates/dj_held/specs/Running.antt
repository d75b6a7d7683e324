-- A body of a world's class that runs where other classes may run beside those of the world.
use Rattle.std.specs.Prelude.{◌≡◌, List, [], Bool, true, codes, length, Contains, IsSome, IsSomeAnd, Option, Some}
use Rattle.dj_names.specs.declared.header.Header.{Header}
use Rattle.dj_names.specs.declared.members.Constant.{Constant}
use Rattle.dj_names.specs.declared.members.Constant.TheVariants as constant
use Rattle.dj_names.specs.Headers.{Name}
use Rattle.dj_names.specs.Types as types
use Rattle.dj_names.specs.Types.{JType, Float, Double, Class, result_of}
use Rattle.dj_names.specs.Assignable.{object_name}
use Rattle.dj_values.specs.Values.{Value}
use Rattle.dj_values.specs.Fits.{int_range}
use Rattle.dj_meaning.specs.Members.{Field, Method, Members, parameters}
use Rattle.dj_meaning.specs.Visible.{members_of, fields_in, methods_in}
use Rattle.dj_meaning.specs.Fields.{known}
use Rattle.dj_meaning.specs.StaticTypes.{Context}
use Rattle.dj_places.specs.Constants.{Surroundings}
use Rattle.dj_typing.specs.Sites.{Site, is_whole}
use Rattle.dj_widened.specs.Widens.{Widens}
use Rattle.dj_held.specs.Values.{IsHeld}

-- ---- the members of a world

-- a constant that a field of this type may have (JVMS table 4.7.2-A)
abbrev pub FitsField : JType → Constant → Type 0
FitsField type (constant.Int number) = IsSome (int_range type)
FitsField type (constant.Long number) = type ≡ types.Long
FitsField type (constant.Float bits) = type ≡ Float
FitsField type (constant.Double bits) = type ≡ Double
FitsField type (constant.Text units) = type ≡ Class (codes "java/lang/String")

-- the members of a world's classes: those of each class at its header's place; each constant variable has a constant of its type;
-- and the method `clone` of Object, which each array has, gives a value (JLS 10.7)
pub record AreMembers (world : List Header) (members : List Members) : Type 0 where
  pub paired : length members ≡ length world
  pub constants : (class : Name) (field : Field) (kept : Constant) → Contains (fields_in (members_of world members class)) field → (known field).constant ≡ Some kept → FitsField field.type kept
  pub clones : (method : Method) → Contains (methods_in (members_of world members object_name)) method → method.name ≡ codes "clone" → parameters method ≡ [] → IsSome (result_of method.descriptor)

-- ---- a body

-- where the expressions of a body stand in the world, the headers of the classes that run, the method's result, `this`, where it has one, and whether it is a constructor's
pub record Running : Type 0 where
  pub site : Site
  pub headers : List Header
  pub result : Option JType
  pub this : Option Value
  pub constructs : Bool

-- what its run knows
abbrev pub context : Running → Context
context body = record {
  headers = body.headers;
  members = body.site.members;
  class = body.site.class;
  result = body.result;
  this = body.this;
  constructs = body.constructs;
}

-- what its constant expressions rest on
abbrev pub surroundings : Site → Surroundings
surroundings site = record { headers = site.headers; members = site.members; class = site.class }

-- `this` is there
abbrev pub HasThis : Running → Type 0
HasThis body = IsSomeAnd body.this (IsHeld body.headers (Class body.site.class))

-- a body runs in order: the headers that run widen the world's, which has the body's class whole, and `this` is there where it may be named, and in a constructor
pub record IsInOrder (body : Running) : Type 0 where
  pub widens : Widens body.site.headers body.headers
  pub whole : is_whole body.site.headers body.site.class ≡ true
  pub members : AreMembers body.site.headers body.site.members
  pub this : body.site.has_this ≡ true → HasThis body
  pub constructs : body.constructs ≡ true → HasThis body
