use Rattle.std.proofs.Common.{◌≡◌, ◌++◌, take}
use Rattle.dj_cli.proofs.pieces.file_line.Given as goal

abbrev pub invariant-loop-unit : goal.invariant-loop-unit
invariant-loop-unit l = l.line.items ≡ l.initial.line.items ++ take l.unit-index l.unit-items
