-- What stands around a body, and how the program's classes are seen as that.
use Rattle.std.specs.Prelude.{List, map}
use Rattle.dj_names.specs.declared.header.Header.{Header}
use Rattle.dj_names.specs.declared.members.ClassMembers.{ClassMembers}
use Rattle.dj_syntax.specs.Trees.{Body}
use Rattle.dj_meaning.specs.Members.{view_members}
use Rattle.dj_static.specs.declared.classes.Classes.{Classes}
use Rattle.dj_places.specs.Constants.{Surroundings}

-- the classes as a name in one of them sees them
abbrev pub surroundings_of : Classes → Surroundings
surroundings_of classes = record { headers = classes.headers.now; members = map view_members classes.members.now; class = classes.from.now }

-- what stands around the statements of a body
abbrev pub around_body : List Header → List ClassMembers → Body → Surroundings
around_body headers members body = record { headers = headers; members = map view_members members; class = body.class }
