use Rattle.std.proofs.Common.{sym, ◌∙◌}
use Rattle.dj_statements.specs.OpenViews.{view_body}
use Rattle.dj_statements.proofs.StatementSteps.{statements_more}
use Rattle.dj_statements.proofs.statements.read_statements.Goals as goal

pub loop-word-preserved : goal.loop-word-preserved
loop-word-preserved c =
    statements_more (view_body c.loop-word.body) (view_body c.read_more.new.self) c.in-Some.word.now c.loop-word.reader c.take_next.new.self c.in-Some.ensures.left (sym c.if-is_ended_by.ensures.ends) c.in-Some.ensures.first c.in-Some.ensures.rest c.in_ok-read_more.ensures.read
    ∙ c.loop-word.invariant
