use Rattle.std.proofs.Common.{◌≡◌, ◌≤◌, ◌++◌, replicate}
use Rattle.dj_names.specs.Types.{view_type}
use Rattle.dj_names.specs.Descriptors.{dimensions, spell_type}
use Rattle.dj_report.proofs.putting.descriptors.split_brackets.Given as goal

abbrev pub invariant-loop-rest : goal.invariant-loop-rest
invariant-loop-rest l = record {
  few : l.count ≤ 255;
  split : spell_type (view_type l.kind) ≡ replicate l.count 91 ++ spell_type (view_type l.rest);
}

abbrev pub decreases-loop-rest : goal.decreases-loop-rest
decreases-loop-rest l = dimensions (view_type l.rest)
