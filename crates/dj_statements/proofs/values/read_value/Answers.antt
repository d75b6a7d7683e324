use Rattle.std.proofs.Common.{◌≢◌, [], sym, ◌∙◌}
use Rattle.std.proofs.lemmas.Bool.{both_ways}
use Rattle.dj_expressions.specs.Views.{view_reading}
use Rattle.dj_statements.proofs.StatementSteps.{fewer_behind}
use Rattle.dj_statements.proofs.ValueSteps.{value_more}
use Rattle.dj_statements.proofs.values.read_value.Goals as goal

pub loop-reader-smaller : goal.loop-reader-smaller
loop-reader-smaller c =
    let some : c.loop-reader.reader ≢ [] = λ none. both_ways c.is_at_end.result c.loop-reader-test.true (c.is_at_end.ensures.end.1 none) in
    fewer_behind c.loop-reader.reader c.take.new.self some c.take.ensures.rest

pub loop-reader-preserved : goal.loop-reader-preserved
loop-reader-preserved c =
    let some : c.loop-reader.reader ≢ [] = λ none. both_ways c.is_at_end.result c.loop-reader-test.true (c.is_at_end.ensures.end.1 none) in
    value_more (view_reading c.loop-reader.reading) (view_reading c.in_ok-reading.reading) c.take.result.now c.loop-reader.reader c.take.new.self some (sym c.is_at.ensures.comes ∙ c.if-not-is_at.true) c.take.ensures.first c.take.ensures.rest c.in_ok-reading.ensures.read
    ∙ c.loop-reader.invariant
