use Rattle.std.proofs.Common.{arith}
use Rattle.dj_names.proofs.CopyLemmas.{copied_more}
use Rattle.dj_headers.proofs.HeaderLemmas.{none_before}
use Rattle.dj_headers.proofs.headers.Headers.copy.Goals as goal

pub push-requires : goal.push-requires
push-requires c =
    let headers = c.as_slice-header-items.result.now in
    let i = c.loop-header.header-index in
    rw (c.loop-header.invariant, c.in_ok-copy.ensures.equal)
    (none_before headers i c.header-item.result (rw c.as_slice-header-items.ensures c.self.invariant.distinct) (omega arith) c.header-item.is)

pub loop-header-preserved : goal.loop-header-preserved
loop-header-preserved c =
    copied_more c.as_slice-header-items.result.now c.loop-header.header-index _ _ _ _ (omega arith) c.header-item.is c.loop-header.invariant c.in_ok-copy.ensures.equal c.in_ok-push.ensures.ok
