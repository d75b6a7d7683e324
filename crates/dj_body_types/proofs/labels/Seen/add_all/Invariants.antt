use Rattle.std.proofs.Common.{◌≡◌, ◌&&◌, ◌||◌, ℤ, Option, drop}
use Rattle.dj_meaning.specs.Statements.{has_label}
use Rattle.dj_body_types.specs.Seen.{all_fresh, has}
use Rattle.dj_body_types.proofs.labels.Seen.add_all.Given as goal

abbrev pub invariant-loop-label : goal.invariant-loop-label
invariant-loop-label l = record {
  fresh : (l.fresh && all_fresh (has l.self) (drop l.label-index l.labels)) ≡ all_fresh (has l.fn.self) l.labels;
  added : (other : Option ℤ) → (has_label other (drop l.label-index l.labels) || has l.self other) ≡ (has_label other l.labels || has l.fn.self other);
}
