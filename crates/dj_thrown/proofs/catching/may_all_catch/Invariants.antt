use Rattle.std.proofs.Common.{◌≡◌, drop}
use Rattle.dj_syntax.specs.Trees.{view_catches}
use Rattle.dj_thrown.specs.Catching as spec
use Rattle.dj_thrown.proofs.catching.may_all_catch.Given as goal

abbrev pub invariant-loop-catch : goal.invariant-loop-catch
invariant-loop-catch l = spec.may_all_catch l.headers l.thrown (view_catches (drop l.catch-index l.catches)) ≡ spec.may_all_catch l.headers l.thrown (view_catches l.catches)
