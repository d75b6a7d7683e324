-- The classes that a body may name, with the throws clauses of their methods.
use Rattle.std.specs.Prelude.{List, map, None, false}
use Rattle.dj_names.specs.declared.header.Header.{Header}
use Rattle.dj_names.specs.declared.members.ClassMembers.{ClassMembers}
use Rattle.dj_names.specs.Headers.{Name}
use Rattle.dj_syntax.specs.Trees.{Body}
use Rattle.dj_meaning.specs.Members.{view_members}
use Rattle.dj_meaning.specs.StaticTypes.{Context}
use Rattle.dj_static.specs.declared.classes.Classes.{Classes}
use Rattle.dj_places.specs.Constants.{Surroundings}

-- the headers of the classes, the members of each in the same order, and the class in which names stand
pub record Setting : Type 0 where
  pub headers : List Header
  pub members : List ClassMembers
  pub class : Name

-- the program's classes
abbrev pub setting_of : Classes → Setting
setting_of classes = record { headers = classes.headers.now; members = classes.members.now; class = classes.from.now }

-- the classes as the class of a body sees them
abbrev pub setting_in : List Header → List ClassMembers → Body → Setting
setting_in headers members body = record { headers = headers; members = members; class = body.class }

-- what the types of expressions rest on
abbrev pub context_of : Setting → Context
context_of setting = record {
  headers = setting.headers;
  members = map view_members setting.members;
  class = setting.class;
  result = None;
  this = None;
  constructs = false;
}

-- what constant expressions rest on
abbrev pub around : Setting → Surroundings
around setting = record { headers = setting.headers; members = map view_members setting.members; class = setting.class }
