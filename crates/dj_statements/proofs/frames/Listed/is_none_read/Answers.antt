use Rattle.dj_statements.proofs.OpenLemmas.{none_read}
use Rattle.dj_statements.proofs.frames.Listed.is_none_read.Goals as goal

pub returns-then-is_none : goal.returns-then-is_none
returns-then-is_none c =
    record { none = none_read c.args.self.now c.is_none.result c.is_empty.result c.is_none.ensures c.if-is_none.true c.is_empty.ensures }
