-- Arguments of a call as expressions, each fit for its parameter.
use Rattle.std.specs.Prelude.{Bool, if◌then◌else◌, List, [], ◌∷◌, Option, Some, None}
use Rattle.dj_names.specs.declared.header.Header.{Header}
use Rattle.dj_names.specs.Types.{JType}
use Rattle.dj_syntax.specs.Trees.{Exp, Exps, NoExps, AndExp}
use Rattle.dj_typing.specs.Expressions.{is_whole_static}
use Rattle.dj_rebuilding.specs.Pending.{Typed, and_then}
use Rattle.dj_member_trees.specs.Fitting.{fitted}

-- one expression behind others
abbrev pub with_last : Exps → Exp → Exps
with_last NoExps last = AndExp last NoExps
with_last (AndExp first rest) last = AndExp first (with_last rest last)

-- an operand as an argument: its class is whole, and it goes to the parameter
abbrev pub argument : List Header → Bool → JType → Typed → Option Exp
argument world alone to one = if is_whole_static world one.0 then fitted world alone to one else None

-- operands where types are wanted, as many as these
abbrev pub given : List Header → Bool → List Typed → List JType → Option Exps
given world alone [] [] = Some NoExps
given world alone [] (to ∷ tos) = None
given world alone (first ∷ rest) [] = None
given world alone (first ∷ rest) (to ∷ tos) = and_then (argument world alone to first) (λ one. and_then (given world alone rest tos) (λ more. Some (AndExp one more)))
