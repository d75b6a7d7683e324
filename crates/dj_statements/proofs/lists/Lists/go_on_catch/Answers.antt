use Rattle.std.proofs.Common.{map, sym, ap, ◌∙◌}
use Rattle.std.specs.Prelude.{reverse}
use Rattle.std.proofs.lemmas.Result.{IfOk-weaker}
use Rattle.dj_syntax.specs.Trees.{view_stm}
use Rattle.dj_grammar.specs.LastStatements.{catch_clause}
use Rattle.dj_statements.specs.OpenViews.{gone_on, view_outer, view_place}
use Rattle.dj_statements.proofs.PlaceLemmas.{last_gone_on}
use Rattle.dj_statements.proofs.lists.Lists.go_on_catch.Goals as goal

pub returns-in-Some : goal.returns-in-Some
returns-in-Some c =
    let lists = c.args.self.now in
    record {
      on = IfOk-weaker c.go_on.result _ _
          (λ next h was named before.
          last_gone_on (view_outer lists.outer) (map view_stm lists.list.before) catch_clause lists.list.last c.take.new.self c.in-Some.last (view_place next) (was, named, before)
          (sym c.in-Some.ensures.value) c.take.ensures.after
          (h ∙ ap (λ clause. gone_on clause (reverse c.in-Some.last.labels)) c.catch_clause.ensures.clause))
          c.go_on.ensures.on;
    }
