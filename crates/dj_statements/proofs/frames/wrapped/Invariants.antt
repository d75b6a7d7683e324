use Rattle.std.proofs.Common.{◌≡◌, length}
use Rattle.std.specs.Prelude.{reverse}
use Rattle.dj_syntax.specs.Trees.{view_stm}
use Rattle.dj_grammar.specs.Open.{wrapped}
use Rattle.dj_statements.proofs.frames.wrapped.Given as goal

abbrev pub invariant-loop-label : goal.invariant-loop-label
invariant-loop-label l = wrapped (view_stm l.statement) (reverse l.labels) ≡ wrapped (view_stm l.initial.statement) (reverse l.initial.labels)

abbrev pub decreases-loop-label : goal.decreases-loop-label
decreases-loop-label l = length l.labels
