use Rattle.std.proofs.Common.{sym, ap, ◌∙◌}
use Rattle.std.specs.Prelude.{reverse}
use Rattle.std.proofs.lemmas.Result.{IfOk-weaker}
use Rattle.dj_grammar.specs.Braces.{open_brace}
use Rattle.dj_expressions.specs.Views.{view_reading}
use Rattle.dj_statements.specs.OpenViews.{view_blocks, view_clause}
use Rattle.dj_statements.proofs.lists.Lists.open_brace.Goals as goal

pub returns-in-Simple : goal.returns-in-Simple
returns-in-Simple c =
    let place = c.args.place in
    record {
      opened = IfOk-weaker c.open_block.result _ _
          (λ next h. h (view_clause place.clause) (reverse place.labels) (view_reading place.reading) ∙ ap (open_brace (view_blocks c.args.self.now place)) (sym (ap view_clause c.in-Simple.is)))
          c.open_block.ensures.opened;
    }

pub returns-in-ElseOf : goal.returns-in-ElseOf
returns-in-ElseOf c =
    let place = c.args.place in
    record {
      opened = IfOk-weaker c.open_plainly.result _ _
          (λ next h. h (view_clause place.clause) (reverse place.labels) (view_reading place.reading) ∙ ap (open_brace (view_blocks c.args.self.now place)) (sym (ap view_clause c.in-ElseOf.is)))
          c.open_plainly.ensures.opened;
    }

pub returns-in-TryOf : goal.returns-in-TryOf
returns-in-TryOf c =
    let place = c.args.place in
    record {
      opened = IfOk-weaker c.open_plainly-in-TryOf.result _ _
          (λ next h. h (view_clause place.clause) (reverse place.labels) (view_reading place.reading) ∙ ap (open_brace (view_blocks c.args.self.now place)) (sym (ap view_clause c.in-TryOf.is)))
          c.open_plainly-in-TryOf.ensures.opened;
    }

pub returns-in-FinallyOf : goal.returns-in-FinallyOf
returns-in-FinallyOf c =
    let place = c.args.place in
    record {
      opened = IfOk-weaker c.open_plainly-in-FinallyOf.result _ _
          (λ next h. h (view_clause place.clause) (reverse place.labels) (view_reading place.reading) ∙ ap (open_brace (view_blocks c.args.self.now place)) (sym (ap view_clause c.in-FinallyOf.is)))
          c.open_plainly-in-FinallyOf.ensures.opened;
    }

pub returns-in-DoOf : goal.returns-in-DoOf
returns-in-DoOf c =
    let place = c.args.place in
    record {
      opened = IfOk-weaker c.open_plainly-in-DoOf.result _ _
          (λ next h. h (view_clause place.clause) (reverse place.labels) (view_reading place.reading) ∙ ap (open_brace (view_blocks c.args.self.now place)) (sym (ap view_clause c.in-DoOf.is)))
          c.open_plainly-in-DoOf.ensures.opened;
    }
