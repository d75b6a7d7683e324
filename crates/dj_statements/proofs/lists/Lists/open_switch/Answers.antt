use Rattle.std.proofs.Common.{sym}
use Rattle.std.specs.Prelude.{reverse}
use Rattle.std.proofs.lemmas.Result.{IfOk-weaker}
use Rattle.dj_statements.proofs.lists.Lists.open_switch.Goals as goal

pub returns-in-Some : goal.returns-in-Some
returns-in-Some c =
    let opened = rw c.switch_of.ensures.kind at c.open_kind.ensures.opened in
    record {
      opened = rw (sym c.in_ok-value.ensures.value, c.in-Some.is) (IfOk-weaker c.open_kind.result _ _ (λ next h clause before. h clause (reverse c.args.labels) before) opened);
    }
