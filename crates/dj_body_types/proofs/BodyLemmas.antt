-- What stands around the statements of a body.
use Rattle.std.proofs.Common.{◌≡◌, Bool, not, List, []}
use Rattle.dj_names.specs.declared.header.Header.{Header}
use Rattle.dj_names.specs.declared.members.ClassMembers.{ClassMembers}
use Rattle.dj_names.specs.MethodNames.{is_constructor}
use Rattle.dj_names.specs.Types.{result_of}
use Rattle.dj_syntax.specs.Trees.{Body}
use Rattle.dj_values.specs.Fits.{is_static}
use Rattle.dj_typed.specs.Statements.{Around}
use Rattle.dj_typed.specs.Bodies.{Writing, site_in, around_in}

-- around, with whether there is `this` and whether it is a constructor told otherwise
abbrev pub around_with : Writing → List Header → List ClassMembers → Body → Bool → Bool → Around
around_with writing headers members body has_this constructs =
    record { site = record (site_in writing headers members body) { has_this = has_this }; result = result_of body.descriptor; constructs = constructs; targets = [] }

pub around_is : (writing : Writing) (headers : List Header) (members : List ClassMembers) (body : Body) (static constructs : Bool) → static ≡ is_static body.flags → constructs ≡ is_constructor body.name
    → around_with writing headers members body (not static) constructs ≡ around_in writing headers members body
around_is writing headers members body static constructs so is = λ i. around_with writing headers members body (not (so i)) (is i)
