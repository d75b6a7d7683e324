use Rattle.std.proofs.Common.{inl, inr, arith}
use Rattle.dj_headers.proofs.RowLemmas.{none_behind}
use Rattle.dj_headers.proofs.rows.add_row.Goals as goal

pub returns-then-at-rows : goal.returns-then-at-rows
returns-then-at-rows c = record {
  bits = λ j. (
    λ h. inl h,
    λ either. elim either [ inl h ↦ h | inr more ↦ absurd (none_behind c.args.rows.now c.args.at j (omega arith) more) ],
  );
}
