-- Where expressions stand: what their names may mean, and what may be written there.
use Rattle.std.specs.Prelude.{ℕ, Bool, true, false, not, ◌&&◌, ◌||◌, List, None}
use Rattle.std.specs.List.{list_any, list_all}
use Rattle.dj_names.specs.declared.header.Header.{Header}
use Rattle.dj_names.specs.Headers.{Name}
use Rattle.dj_names.specs.Types.{JType, Boolean, Byte, Char, Short, Int, Long, Float, Double, Class, Array}
use Rattle.dj_values.specs.Deciding.{is_name, parents_of, implements}
use Rattle.dj_meaning.specs.Members.{Members}
use Rattle.dj_meaning.specs.StaticTypes.{Context}

-- the classes that run, the members of each in the same order, and the class of the body; whether `this` may stand here, as it may in what isn't static,
-- but in the arguments of `this(..)` and `super(..)` (8.8.7.1, 15.8.3); and two tests of what can be written: a name of a class, by the class of the body
-- (6.4.2, 6.5.2), and an identifier (3.8)
pub record Site : Type 0 where
  pub headers : List Header
  pub members : List Members
  pub class : Name
  pub has_this : Bool
  pub can_say : Name → Bool
  pub can_name : List ℕ → Bool

-- what the types of expressions rest on
abbrev pub context_of : Site → Context
context_of site = record { headers = site.headers; members = site.members; class = site.class; result = None; this = None; constructs = false }

-- ---- classes of the world

-- a class has a header
abbrev pub has_header : List Header → Name → Bool
has_header headers name = list_any (λ (header : Header). is_name header.name name) headers

-- a class has a header, and each class above it has one
abbrev pub is_whole : List Header → Name → Bool
is_whole headers name =
    has_header headers name && list_all (λ (header : Header). not (implements headers name header.name) || list_all (has_header headers) (parents_of header)) headers

-- so has the class of a type's innermost elements, where it has one
abbrev pub is_whole_type : List Header → JType → Bool
is_whole_type headers Boolean = true
is_whole_type headers Byte = true
is_whole_type headers Char = true
is_whole_type headers Short = true
is_whole_type headers Int = true
is_whole_type headers Long = true
is_whole_type headers Float = true
is_whole_type headers Double = true
is_whole_type headers (Class name) = is_whole headers name
is_whole_type headers (Array element) = is_whole_type headers element

-- a name of a class can stand here: it can be said, and its class is whole
abbrev pub may_name : Site → Name → Bool
may_name site name = site.can_say name && is_whole site.headers name

-- so can the class that a type names
abbrev pub may_name_type : Site → JType → Bool
may_name_type site Boolean = true
may_name_type site Byte = true
may_name_type site Char = true
may_name_type site Short = true
may_name_type site Int = true
may_name_type site Long = true
may_name_type site Float = true
may_name_type site Double = true
may_name_type site (Class name) = may_name site name
may_name_type site (Array element) = may_name_type site element
