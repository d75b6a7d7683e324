use Rattle.std.proofs.Common.{arith}
use Rattle.dj_signatures.proofs.PuttingLemmas.{types_more, types_all}
use Rattle.dj_signatures.proofs.spelled.put_types.Goals as goal

pub loop-kind-preserved : goal.loop-kind-preserved
loop-kind-preserved c =
    types_more c.args.text.now.items c.loop-kind.text.items c.put_type.new.text.items c.args.kinds.now c.loop-kind.kind-index c.kind-item.result (omega arith) c.kind-item.is c.loop-kind.invariant c.in_ok-put_type.ensures.put

pub returns : goal.returns
returns c = record { put = types_all c.args.text.now.items c.loop-kind.text.items c.args.kinds.now c.loop-kind.kind-index (omega arith) c.loop-kind.invariant }
