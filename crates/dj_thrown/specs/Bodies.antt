-- The rules on what a whole body throws and catches (JLS 11.2.3).
use Rattle.std.specs.Prelude.{List, [], map}
use Rattle.dj_names.specs.declared.header.Header.{Header}
use Rattle.dj_names.specs.declared.members.ClassMembers.{ClassMembers}
use Rattle.dj_names.specs.Types.{parameters_of}
use Rattle.dj_syntax.specs.Trees.{Body}
use Rattle.dj_meaning.specs.StaticTypes.{Scope}
use Rattle.dj_scopes.specs.Parameters.{parameters_in}
use Rattle.dj_places.specs.Places.{told}
use Rattle.dj_places.specs.Rules.{Rules, ◌and◌}
use Rattle.dj_thrown.specs.declared.throwing.Throwing.{Throwing}
use Rattle.dj_thrown.specs.Settings.{setting_in}
use Rattle.dj_thrown.specs.Throws.{list_throws}
use Rattle.dj_thrown.specs.Catching.{list_catching, escaping}

-- what is thrown, its place as it is told
abbrev pub told_throwing : Throwing → Throwing
told_throwing thrown = record { place = told thrown.place; class = thrown.class }

-- all that is thrown, as it is told
abbrev pub all_told : List Throwing → List Throwing
all_told thrown = map told_throwing thrown

-- the variables in scope as a body begins
abbrev pub scope_in : Body → Scope
scope_in body = parameters_in (parameters_of body.descriptor)

-- what a body can throw
abbrev pub body_throws : List Header → List ClassMembers → Body → List Throwing
body_throws headers members body = list_throws (setting_in headers members body) [] (scope_in body) 0 body.statements

-- a body throws only what it declares, and catches only what can be thrown
abbrev pub body_thrown : List Header → List ClassMembers → Body → Rules
body_thrown headers members body =
    list_catching (setting_in headers members body) [] (scope_in body) 0 body.statements and escaping headers body.thrown (body_throws headers members body)
