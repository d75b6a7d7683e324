-- Definite assignment in a whole body (JLS 16). What it doesn't declare counts as assigned: of its parameters that is so (16.3), and a name that
-- isn't declared breaks another rule.
use Rattle.std.specs.Prelude.{List}
use Rattle.dj_names.specs.declared.header.Header.{Header}
use Rattle.dj_names.specs.declared.members.ClassMembers.{ClassMembers}
use Rattle.dj_syntax.specs.Trees.{Body}
use Rattle.dj_places.specs.Rules.{Rules}
use Rattle.dj_places.specs.Surroundings.{around_body}
use Rattle.dj_variables.specs.Sets.{everything}
use Rattle.dj_assigned.specs.Assigned.{list_reads}

-- the rules of a body: each variable is assigned where it is read
abbrev pub body_reads : List Header → List ClassMembers → Body → Rules
body_reads headers members body = list_reads (around_body headers members body) everything 0 body.statements
