use Rattle.std.proofs.Common.{◌≡◌, length}
use Rattle.dj_grammar.specs.Values.{read_value}
use Rattle.dj_expressions.specs.Views.{view_reading}
use Rattle.dj_statements.proofs.values.read_value.Given as goal

abbrev pub invariant-loop-reader : goal.invariant-loop-reader
invariant-loop-reader l = read_value (view_reading l.reading) l.reader ≡ read_value (view_reading l.initial.reading) l.initial.reader

abbrev pub decreases-loop-reader : goal.decreases-loop-reader
decreases-loop-reader l = length l.reader
