use Rattle.std.proofs.Common.{◌≡◌, take}
use Rattle.dj_core.specs.Rows.{texts}
use Rattle.dj_core.proofs.texts.classes_of.Given as goal

abbrev pub invariant-loop-name : goal.invariant-loop-name
invariant-loop-name l = l.classes ≡ texts (take l.name-index l.names)
