-- Which fields may be assigned (JLS 8.3.1.2, 10.7, 15.26.1).
use Rattle.std.specs.Prelude.{Bool, false, not, ◌&&◌, ◌||◌, is_some, filter, List, Option, Some, None, option_map, option_and_then}
use Rattle.dj_names.specs.declared.header.Header.{Header}
use Rattle.dj_names.specs.Headers.{Name}
use Rattle.dj_names.specs.Types as types
use Rattle.dj_names.specs.Types.{JType, Boolean, Byte, Char, Short, Int, Long, Float, Double, Class, Array, StaticType, Of}
use Rattle.dj_values.specs.Deciding.{is_name, is_some_and}
use Rattle.dj_kinds.specs.Search.{enough}
use Rattle.dj_meaning.specs.Members.{Field, Members, is_of_class, is_final}
use Rattle.dj_meaning.specs.Fields.{KnownField, own_field, field_owners, has_from, once, sole, selected, named_field}
use Rattle.dj_meaning.specs.StaticTypes.{plain, selection_type}
use Rattle.dj_typing.specs.Sites.{Site}

-- the class whose field a name means in a class
abbrev pub owner_of : List Header → List Members → Name → Name → Option Name
owner_of headers members class name = sole (filter (has_from headers members name class) (once (field_owners (enough headers) headers members name class)))

-- a final field is assigned in its own class alone, and a constant variable nowhere
abbrev pub is_fixed : Name → Name → Field → Bool
is_fixed from owner field = is_final field.flags && (not (is_name owner from) || (is_of_class field.flags && is_some field.constant))

-- the field that a name means in a class is not fixed
abbrev pub may_assign : Site → Name → Name → Bool
may_assign site class name =
    is_some_and (owner_of site.headers site.members class name) (λ owner.
    is_some_and (own_field site.headers site.members name owner) (λ field. not (is_fixed site.class owner field)))

-- a name selects a field of an object of this type that may be assigned; the length of an array is final
abbrev pub may_set : Site → Name → JType → Bool
may_set site name Boolean = false
may_set site name Byte = false
may_set site name Char = false
may_set site name Short = false
may_set site name Int = false
may_set site name Long = false
may_set site name Float = false
may_set site name Double = false
may_set site name (Class class) = is_some (selected site.headers site.members site.class name (Class class)) && may_assign site class name
may_set site name (Array element) = false

-- the same of the type of an expression; null has no field
abbrev pub may_set_of : Site → Name → StaticType → Bool
may_set_of site name types.Null = false
may_set_of site name (Of type) = may_set site name type

-- so it is with a static field of a class that is named
abbrev pub may_set_static : Site → Name → Name → Bool
may_set_static site class name = is_some (named_field site.headers site.members site.class class name) && may_assign site class name

-- the type of the field that a name selects of an object of this type
abbrev pub set_type : Site → Name → Option StaticType → Option JType
set_type site name object = option_map selection_type (option_and_then (selected site.headers site.members site.class name) (plain object))

-- the type of a static field of a class that is named
abbrev pub set_static_type : Site → Name → Name → Option JType
set_static_type site class name = option_map (λ (field : KnownField). field.type) (named_field site.headers site.members site.class class name)
