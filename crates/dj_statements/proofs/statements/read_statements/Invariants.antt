use Rattle.std.proofs.Common.{◌≡◌, length}
use Rattle.dj_statements.specs.OpenViews.{view_body}
use Rattle.dj_grammar.specs.Statements.{read_statements}
use Rattle.dj_statements.proofs.statements.read_statements.Given as goal

abbrev pub invariant-loop-word : goal.invariant-loop-word
invariant-loop-word l = read_statements (view_body l.body) l.reader ≡ read_statements (view_body l.initial.body) l.initial.reader

abbrev pub decreases-loop-word : goal.decreases-loop-word
decreases-loop-word l = length l.reader
