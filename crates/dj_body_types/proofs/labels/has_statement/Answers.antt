use Rattle.std.proofs.Common.{◌≡◌, ◌≤◌, not, true, List, [], ◌∷◌, length, refl, arith}
use Rattle.dj_syntax.specs.declared.statement.Stm.{Stm}
use Rattle.dj_syntax.specs.StmText.{is_empty}
use Rattle.dj_syntax.specs.Trees.{view_stms}
use Rattle.dj_body_types.proofs.labels.has_statement.Goals as goal

has_one : (list : List Stm) → 1 ≤ length list → true ≡ not (is_empty (view_stms list))
has_one [] long = absurd (omega (arith, long))
has_one (first ∷ rest) long = refl

pub returns-in-len1-up : goal.returns-in-len1-up
returns-in-len1-up c = record { some = has_one c.args.list.now c.in-len1-up.len_at_least }
