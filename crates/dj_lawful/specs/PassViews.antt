-- How what the program makes of statements is seen as what the pass makes of them.
use Rattle.std.specs.Prelude.{List, map}
use Rattle.dj_names.specs.Types.{view_type}
use Rattle.dj_syntax.specs.Trees.{view_stm, view_group, view_catch}
use Rattle.dj_lawful.specs.declared.made.Made as code_made
use Rattle.dj_lawful.specs.declared.made.Lost as code_lost
use Rattle.dj_lawful.specs.declared.made.MadeList as code_list
use Rattle.dj_lawful.specs.declared.made.MadeGroups as code_groups
use Rattle.dj_lawful.specs.declared.made.MadeClauses as code_clauses
use Rattle.dj_declare.specs.Lawful.{Declared}
use Rattle.dj_declaring.specs.Passes.{Made, MadeList, MadeGroups, MadeClauses}

-- what a statement is made to
abbrev pub view_made : code_made.Made → Made
view_made made = record { statement = view_stm made.statement; falls = made.falls; jumps = made.jumps }

-- a declaration that is lost
abbrev pub view_lost : code_lost.Lost → Declared
view_lost one = (one.variable, view_type one.kind)

-- declarations that are lost
abbrev pub view_all_lost : List code_lost.Lost → List Declared
view_all_lost = map view_lost

-- what is made of a list
abbrev pub view_list : code_list.MadeList → MadeList
view_list made = record { list = map view_stm made.list; falls = made.falls; jumps = made.jumps; lost = view_all_lost made.lost }

-- what is made of groups
abbrev pub view_made_groups : code_groups.MadeGroups → MadeGroups
view_made_groups made = record { groups = map view_group made.groups; falls = made.falls; jumps = made.jumps; lost = view_all_lost made.lost }

-- what is made of clauses
abbrev pub view_made_clauses : code_clauses.MadeClauses → MadeClauses
view_made_clauses made = record { clauses = map view_catch made.clauses; falls = made.falls; jumps = made.jumps }
