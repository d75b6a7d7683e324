-- The rules of reachability on a whole body (JLS 8.4.7, 8.7, 14.21).
use Rattle.std.specs.Prelude.{Bool, true, not, is_some, ◌&&◌, ◌||◌, List}
use Rattle.dj_names.specs.Types.{result_of}
use Rattle.dj_names.specs.declared.header.Header.{Header}
use Rattle.dj_names.specs.declared.members.ClassMembers.{ClassMembers}
use Rattle.dj_syntax.specs.Trees.{Body}
use Rattle.dj_syntax.specs.UnitText.{is_initialiser}
use Rattle.dj_places.specs.Rules.{Rules, Rule, ◌and◌}
use Rattle.dj_places.specs.Surroundings.{around_body}
use Rattle.dj_places.specs.declared.kind.TypeKind.TheVariants.{Reach}
use Rattle.dj_reach.specs.Reach.{Site, list_completes, list_reach}

-- a body with a result doesn't complete normally (8.4.7), a static initialiser does (8.7)
abbrev pub ends_well : Body → Bool → Bool
ends_well body completes = (not (is_some (result_of body.descriptor)) || not completes) && (not (is_initialiser body.name) || completes)

-- where the statements of a body stand
abbrev pub site_of : List Header → List ClassMembers → Body → Site
site_of headers members body = record { around = around_body headers members body; may_return = not (is_initialiser body.name) }

-- how the body ends is a rule at place 0
abbrev pub body_reach : List Header → List ClassMembers → Body → Rules
body_reach headers members body =
    Rule 0 Reach (ends_well body (list_completes (around_body headers members body) body.statements))
    and list_reach (site_of headers members body) true 0 body.statements
