use Rattle.std.proofs.Common.{take}
use Rattle.std.specs.Fmt.{HasWritten, IsPlainFormatter}
use Rattle.dj_names.specs.Shown.{show_units}
use Rattle.dj_names.proofs.shown.ClassNameDisplay.fmt.Given as goal

abbrev pub invariant-loop-unit : goal.invariant-loop-unit
invariant-loop-unit g l =
    IsPlainFormatter l.initial.f → HasWritten g.W.Write.write_str_gives l.initial.f (show_units (take l.unit-index l.unit-items)) l.f
