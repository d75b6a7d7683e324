use Rattle.std.proofs.Common.{◌≡◌, drop}
use Rattle.dj_syntax.specs.Trees.{view_groups}
use Rattle.dj_meaning.specs.Statements.{is_labelled}
use Rattle.dj_source.proofs.switches.is_labelled.Given as goal

abbrev pub invariant-loop-group : goal.invariant-loop-group
invariant-loop-group l = is_labelled l.wanted (view_groups (drop l.group-index l.groups)) ≡ is_labelled l.wanted (view_groups l.groups)
