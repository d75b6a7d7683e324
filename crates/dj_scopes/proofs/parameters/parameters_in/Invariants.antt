use Rattle.dj_static.specs.Scopes.{scope_of}
use Rattle.dj_scopes.proofs.ParameterLemmas.{Opens}
use Rattle.dj_scopes.proofs.parameters.parameters_in.Given as goal

abbrev pub invariant-loop-number : goal.invariant-loop-number
invariant-loop-number l = Opens l.kinds l.number (scope_of l.scope)
