-- Other methods of a name that can be found through a class (JLS 15.12.2).
use Rattle.std.specs.Prelude.{Bool, not, ◌&&◌, ◌||◌, ◌==◌, length, List}
use Rattle.std.specs.List.{list_any}
use Rattle.dj_names.specs.declared.header.Header.{Header}
use Rattle.dj_names.specs.Headers.{Name}
use Rattle.dj_names.specs.Types.{JType}
use Rattle.dj_values.specs.Deciding.{is_name, is_type, is_interface}
use Rattle.dj_kinds.specs.Own.{is_false_constructor}
use Rattle.dj_meaning.specs.Members.{Method, Members, parameters, is_public, is_private, is_of_class}
use Rattle.dj_meaning.specs.Calls.{all_pairs, is_seen, named_in}

-- types are the same, one by one
abbrev pub are_same : List JType → List JType → Bool
are_same first second = all_pairs is_type first second

-- a method has as many parameters, and others
abbrev pub differs : List JType → Method → Bool
differs types method = (length (parameters method) == length types) && not (are_same (parameters method) types)

-- a method has a constructor's name and is none
abbrev pub is_no_constructor : Method → Bool
is_no_constructor method = is_false_constructor method.name method.descriptor

-- a method is seen from below its class
abbrev pub sees_below : List Header → Name → Name → Method → Bool
sees_below headers start class method = is_name start class || not (is_interface headers class) || not (is_of_class method.flags || is_private method.flags)

-- and from an interface
abbrev pub sees_above : List Header → Name → Name → Method → Bool
sees_above headers start class method = not (is_interface headers start) || is_interface headers class || (is_public method.flags && not (is_of_class method.flags))

-- a method is another one that is seen
abbrev pub is_rival : List Header → Name → List JType → Name → Method → Bool
is_rival headers start types class method = differs types method && is_seen headers start class method

-- a class has one
abbrev pub has : List Header → List Members → Name → Name → List JType → Name → Bool
has headers members start name types class = list_any (differs types) (named_in headers members start name class)
