use Rattle.std.proofs.Common.{◌≡◌, ◌++◌, drop}
use Rattle.dj_declaring.specs.Passes.{others}
use Rattle.dj_lawful.proofs.made.others.Given as goal

abbrev pub invariant-loop-jump : goal.invariant-loop-jump
invariant-loop-jump l = l.kept ++ others l.label (drop l.jump-index l.from) ≡ others l.label l.from
