use Rattle.std.specs.Prelude.{reverse}
use Rattle.std.proofs.lemmas.Result.{IfOk-weaker}
use Rattle.dj_statements.proofs.lists.Lists.open_or.Goals as goal

pub returns-in-Some : goal.returns-in-Some
returns-in-Some c = record { opened = rw c.in-Some.is (IfOk-weaker c.open_kind.result _ _ (λ next h clause before. h clause (reverse c.args.labels) before) c.open_kind.ensures.opened) }
