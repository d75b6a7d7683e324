use Rattle.std.proofs.Common.{ap, ◌∙◌}
use Rattle.std.proofs.lemmas.Result.{IfOk-weaker}
use Rattle.dj_grammar.specs.Braces.{close_brace}
use Rattle.dj_statements.specs.OpenViews.{with_place}
use Rattle.dj_statements.proofs.OpenLemmas.{outer_less}
use Rattle.dj_statements.proofs.lists.Lists.close_brace.Goals as goal

pub returns-in-Some : goal.returns-in-Some
returns-in-Some c =
    record {
      closed = IfOk-weaker c.close_frame.result _ _
          (λ next h was named before. h was named before ∙ ap (close_brace (with_place c.args.self.now (was, named, before))) (outer_less c.args.self.now.outer c.pop.new.self c.in-Some.frame c.in-Some.ensures))
          c.close_frame.ensures.closed;
    }
