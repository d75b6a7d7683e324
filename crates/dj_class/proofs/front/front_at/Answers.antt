use Rattle.std.proofs.Common.{None, inl, inr}
use Rattle.std.proofs.lemmas.Result.{err_from_is_err_and}
use Rattle.dj_layout.proofs.Steps.{stops_in}
use Rattle.dj_pool.specs.PoolFormat.{pool}
use Rattle.dj_class.specs.FileFormat.{front}
use Rattle.dj_class.proofs.front.front_at.Goals as goal

pub returns-in_err-pool : goal.returns-in_err-pool
returns-in_err-pool c =
    let p = err_from_is_err_and c.from_residual-in_err-pool.result c.from_residual-in_err-pool.ensures.1 in
    rw (p.1, p.2) record { reads = stops_in (pool None).Halts (front c.args.oldest None).Halts _ _ c.in_ok-major.rest.now _ c.in_err-pool.ensures.reads (λ f h. inr (_, _, c.in_ok-minor.ensures.reads, inr (_, _, c.in_ok-major.ensures.reads, inl h))) }
