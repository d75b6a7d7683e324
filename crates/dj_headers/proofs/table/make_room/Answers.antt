use Rattle.std.proofs.Common.{length, inl, inr, arith}
use Rattle.std.proofs.lemmas.Bool.{cases_lt}
use Rattle.dj_headers.proofs.RowLemmas.{none_behind}
use Rattle.dj_headers.proofs.table.make_room.Goals as goal

pub returns-clause-room : goal.returns-clause-room
returns-clause-room c = λ i is_set. elim (cases_lt i (length c.loop-row.rows)) [
  | inl below ↦ c.loop-row.invariant.room i (omega arith) is_set
  | inr past ↦ absurd (none_behind c.loop-row.rows i c.args.class past is_set)
]
