-- How the program's answers are seen as those of the definition.
use Rattle.std.specs.Prelude.{false, map, None}
use Rattle.dj_names.specs.declared.members.Field as code_field
use Rattle.dj_names.specs.Types.{JType}
use Rattle.dj_meaning.specs.Members.{view_field, view_members}
use Rattle.dj_meaning.specs.Fields.{KnownField, known, Selection, Length, Member}
use Rattle.dj_meaning.specs.StaticTypes.{Context}
use Rattle.dj_static.specs.declared.classes.Classes.{Classes}
use Rattle.dj_static.specs.declared.fields.Selection as code_selection
use Rattle.dj_static.specs.declared.fields.Selection.TheVariants as selections

-- what is known of a field
abbrev pub known_of : code_field.Field → KnownField
known_of field = known (view_field field)

-- what a name selects of an expression of a type
abbrev pub view_selection : JType → code_selection.Selection → Selection
view_selection type selections.Length = Length
view_selection type (selections.Field field) = Member type (known_of field.now)

-- what a run knows of classes; types don't depend on the rest
abbrev pub context_in : Classes → Context
context_in classes = record {
  headers = classes.headers.now;
  members = map view_members classes.members.now;
  class = classes.from.now;
  result = None;
  this = None;
  constructs = false;
}
