use Rattle.std.proofs.Common.{rules, ◌∙◌}
use Rattle.std.specs.Prelude.{None}
use Rattle.std.proofs.lemmas.Result.{IfOk-weaker}
use Rattle.dj_statements.proofs.MadeLemmas.{view_declare}
use Rattle.dj_statements.proofs.lists.Lists.end_simple.Goals as goal

pub returns-in-Named : goal.returns-in-Named
returns-in-Named c = record { ended = IfOk-weaker c.end_value.result _ _ (λ next h was named before. h was named before ∙ search rules) c.end_value.ensures.ended }

pub returns-in-Declared : goal.returns-in-Declared
returns-in-Declared c =
    let declared = c.in-Declared in
    record { ended = rw declared.is (rw (view_declare declared.variable declared.kind None) at c.end_start.ensures.ended) }
