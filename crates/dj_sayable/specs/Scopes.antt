-- What is kept of a class to tell which names it can say.
use Rattle.std.specs.Prelude.{◌≡◌, ◌↔◌, List, Contains}
use Rattle.dj_names.specs.declared.header.Header.{Header}
use Rattle.dj_names.specs.declared.members.ClassMembers.{ClassMembers}
use Rattle.dj_names.specs.Headers.{Name}
use Rattle.dj_sayable.specs.declared.scope.Scope.{Scope}
use Rattle.dj_sayable.specs.Saying.{HasFieldInScope}

-- the scope is that of a class: it has the names of the fields in scope there
pub record IsScope (headers : List Header) (members : List ClassMembers) (class : Name) (scope : Scope) : Type 0 where
  pub own : scope.class ≡ class
  pub fields : (field : Name) → Contains scope.fields field ↔ HasFieldInScope headers members class field
