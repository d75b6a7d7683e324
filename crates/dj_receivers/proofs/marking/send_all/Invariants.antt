use Rattle.std.proofs.Common.{take}
use Rattle.dj_code.specs.MethodCode.{view_typed}
use Rattle.dj_receivers.specs.Walks.{SendsAll}
use Rattle.dj_receivers.proofs.marking.send_all.Given as goal

abbrev pub invariant-loop-way : goal.invariant-loop-way
invariant-loop-way l = SendsAll (view_typed l.fn.typed) l.fn.joins l.initial.marking l.marking (take l.way-index l.ways)
