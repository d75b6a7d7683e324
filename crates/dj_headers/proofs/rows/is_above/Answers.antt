use Rattle.std.proofs.Common.{arith}
use Rattle.std.proofs.lemmas.Bool.{ltb-true}
use Rattle.dj_headers.proofs.RowLemmas.{none_behind}
use Rattle.dj_headers.proofs.rows.is_above.Goals as goal

pub returns-else-from-rows : goal.returns-else-from-rows
returns-else-from-rows c = record {
  set = (
    λ is. absurd (let h = ltb-true _ _ is in omega arith),
    λ is. absurd (none_behind c.args.rows.now c.args.from c.args.to c.if-from-rows.false is),
  );
}
