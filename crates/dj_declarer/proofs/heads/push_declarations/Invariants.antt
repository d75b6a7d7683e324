use Rattle.std.proofs.Common.{◌≡◌, ◌++◌, map, drop}
use Rattle.dj_names.specs.Types.{view_type}
use Rattle.dj_syntax.specs.Trees.{view_stm}
use Rattle.dj_declarer.specs.Declarations.{declarations_of}
use Rattle.dj_declaring.specs.Entries.{heads_of}
use Rattle.dj_declarer.proofs.heads.push_declarations.Given as goal

abbrev pub invariant-loop-variable : goal.invariant-loop-variable
invariant-loop-variable l =
    map view_stm l.list ++ declarations_of (heads_of (map view_type l.kinds) (map view_type l.parameters) l.entry (drop l.variable-index l.variables))
    ≡ map view_stm l.fn.list ++ declarations_of (heads_of (map view_type l.kinds) (map view_type l.parameters) l.entry l.variables)
