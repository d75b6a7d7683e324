use Rattle.std.proofs.Common.{◌≡◌, ◌++◌, length}
use Rattle.dj_names.proofs.ClassNameLemmas.{NameRead}
use Rattle.dj_names.proofs.descriptors.read_class.Given as goal

abbrev pub invariant-loop-unit : goal.invariant-loop-unit
invariant-loop-unit l = record {
  split : l.name.items ++ l.unread ≡ l.initial.unread;
  read : NameRead l.name.items l.started;
}

abbrev pub decreases-loop-unit : goal.decreases-loop-unit
decreases-loop-unit l = length l.unread
