use Rattle.std.proofs.Common.{Some, inr}
use Rattle.std.proofs.lemmas.Result.{err_from_is_err_and}
use Rattle.dj_layout.proofs.Steps.{stops_in}
use Rattle.dj_pool.specs.PoolFormat.{behind, content_of, entry_within}
use Rattle.dj_pool.proofs.PoolReading.{entry_there}
use Rattle.dj_pool.proofs.skipped.skip_entry.Goals as goal

pub returns-in_err-rest-clause-reads : goal.returns-in_err-rest-clause-reads
returns-in_err-rest-clause-reads c =
    let p = err_from_is_err_and c.from_residual-in_err-rest.result c.from_residual-in_err-rest.ensures.1 in
    rw (p.1, p.2) (stops_in (behind (Some c.args.given.now) c.in_ok-tag.tag (content_of c.in_ok-tag.tag)).Halts (entry_within (Some c.args.given.now) c.args.room).Halts _ _ c.in_ok-tag.rest.now _ c.in_err-rest.ensures.reads (λ f h. inr (_, _, c.in_ok-tag.ensures.reads, h)))

pub returns-clause-reads : goal.returns-clause-reads
returns-clause-reads c = rw c.places.ensures.places (entry_there (Some c.args.given.now) c.args.room c.in_ok-tag.tag c.args.bytes.now c.in_ok-tag.rest.now c.in_ok-rest.rest.now c.in_ok-tag.ensures.reads c.in_ok-rest.ensures.reads)
