use Rattle.std.proofs.Common.{sym, ap, ◌∙◌}
use Rattle.std.specs.Prelude.{reverse}
use Rattle.std.proofs.lemmas.Result.{IfOk-weaker}
use Rattle.dj_grammar.specs.StatementEnds.{end_clause}
use Rattle.dj_expressions.specs.Views.{view_reading}
use Rattle.dj_statements.specs.OpenViews.{view_blocks, view_clause}
use Rattle.dj_statements.proofs.lists.Lists.end_clause.Goals as goal

pub returns-in-ReturnOf : goal.returns-in-ReturnOf
returns-in-ReturnOf c =
    let place = c.args.place in
    record {
      ended = IfOk-weaker c.end_return.result _ _
          (λ next h. h (view_clause place.clause) (reverse place.labels) (view_reading place.reading) ∙ ap (end_clause (view_blocks c.args.self.now place)) (sym (ap view_clause c.in-ReturnOf.is)))
          c.end_return.ensures.ended;
    }
