use Rattle.std.proofs.Common.{Ok, take}
use Rattle.std.specs.List.{flat_map}
use Rattle.dj_outer.specs.Sink.{Puts}
use Rattle.dj_names.specs.Types.{view_types}
use Rattle.dj_names.specs.Descriptors.{spell_type}
use Rattle.dj_names.specs.Shown.{show_units}
use Rattle.dj_report.proofs.putting.descriptors.put_types.Given as goal

abbrev pub invariant-loop-kind : goal.invariant-loop-kind
invariant-loop-kind g l = Puts (Ok tt) (g.S.Sink.taken l.initial.sink) (g.S.Sink.taken l.sink) (g.S.Sink.faults l.initial.sink) (g.S.Sink.faults l.sink) (show_units (flat_map spell_type (view_types (take l.kind-index l.kinds))))
