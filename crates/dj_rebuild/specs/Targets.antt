-- Variables of the code as names of slots.
use Rattle.dj_names.specs.Types.{JType}
use Rattle.dj_syntax.specs.declared.variable.Var.{Var}
use Rattle.dj_rebuilding.specs.Pending.{Atom, Named}

-- a variable as a name
abbrev pub as_name : Var × JType → JType × Atom
as_name target = (target.1, Named target.0)
