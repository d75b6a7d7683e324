-- The variables in scope as a body begins (JLS 8.4.1).
use Rattle.std.specs.Prelude.{ℕ, List, take}
use Rattle.dj_names.specs.Types.{JType}
use Rattle.dj_syntax.specs.declared.variable.VarKind.TheVariants.{Param}
use Rattle.dj_syntax.specs.declared.variable.Var.{Var}
use Rattle.dj_meaning.specs.StaticTypes.{Scope}
use Rattle.dj_meaning.specs.Meaning.{of_parameter}

-- the parameters, as many as variables of 32 bits can be: 2 ^ 32 - 1
abbrev pub parameters_in : List JType → Scope
parameters_in types = of_parameter (take 4294967295 types)

-- the variable of a parameter
abbrev pub parameter : ℕ → Var
parameter number = record { kind = Param; number = number }
