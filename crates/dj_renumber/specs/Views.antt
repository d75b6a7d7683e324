-- How the numbers that a text uses, and other names, are seen.
use Rattle.std.specs.Prelude.{map}
use Rattle.dj_names.specs.Types.{view_type}
use Rattle.dj_syntax.specs.Trees.{Stms, Empty, And}
use Rattle.dj_renaming.specs.Renaming.{Names, all_renamed}
use Rattle.dj_numbered.specs.Numbering as numbering
use Rattle.dj_numbered.specs.Numbering.{names_for}
use Rattle.dj_parameters.specs.Parameters.{parameter_names}
use Rattle.dj_renumber.specs.declared.used.Used.{Used}
use Rattle.dj_renumber.specs.declared.names.NewNames.{NewNames}
use Rattle.dj_renumber.specs.declared.names.NewNames.TheVariants.{Exchanged, Counted}

-- the numbers that a text uses
abbrev pub view_used : Used → numbering.Used
view_used used = record { locals = used.locals.keys; caught = used.caught.keys; states = used.states.keys; labels = used.labels.keys }

-- other names
abbrev pub names_of : NewNames → Names
names_of (Exchanged copies) = parameter_names (map view_type copies.parameters.now) (map view_type copies.kinds.now) copies.entry.now
names_of (Counted used) = names_for (view_used used.now)

-- statements with other names, but the first as it is
abbrev pub renamed_behind : Names → Stms → Stms
renamed_behind names Empty = Empty
renamed_behind names (And first rest) = And first (all_renamed names rest)
