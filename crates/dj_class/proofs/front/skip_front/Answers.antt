use Rattle.std.proofs.Common.{Some, inl, inr}
use Rattle.std.proofs.lemmas.Result.{err_from_is_err_and}
use Rattle.dj_layout.proofs.Steps.{stops_in}
use Rattle.dj_pool.specs.PoolFormat.{pool}
use Rattle.dj_class.specs.FileFormat.{front}
use Rattle.dj_class.proofs.RestParts.{front_spelled}
use Rattle.dj_class.proofs.front.skip_front.Goals as goal

pub returns-in_err-rest : goal.returns-in_err-rest
returns-in_err-rest c =
    let p = err_from_is_err_and c.from_residual-in_err-rest.result c.from_residual-in_err-rest.ensures.1 in
    rw (p.1, p.2) record { reads = stops_in (pool (Some c.args.pool.now)).Halts (front c.args.oldest (Some c.args.pool.now)).Halts _ _ c.in_ok-_major.rest.now _ c.in_err-rest.ensures.reads (λ f h. inr (_, _, c.in_ok-_minor.ensures.reads, inr (_, _, c.in_ok-_major.ensures.reads, inl h))) }

pub returns : goal.returns
returns c = record { reads = record { value = record { minor = c.in_ok-_minor._minor; major = c.in_ok-_major._major; pool = c.in_ok-rest.ensures.reads.value }; spells = front_spelled c.args.oldest (Some c.args.pool.now) c.args.bytes.now c.in_ok-_minor.rest.now c.in_ok-_major.rest.now c.in_ok-rest.rest.now c.in_ok-_minor._minor c.in_ok-_major._major c.in_ok-rest.ensures.reads.value c.in_ok-_minor.ensures.reads c.in_ok-_major.ensures.reads c.in_ok-rest.ensures.reads.spells } }
