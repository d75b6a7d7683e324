use Rattle.std.proofs.Common.{inl, inr}
use Rattle.std.proofs.lemmas.Result.{err_from_is_err_and}
use Rattle.std.specs.Option.{option_copied}
use Rattle.dj_layout.proofs.Steps.{stops_in}
use Rattle.dj_pool.specs.PoolFormat.{Two, asked_number, behind}
use Rattle.dj_pool.proofs.Pairs.{pair_spelled}
use Rattle.dj_pool.proofs.entries.pair_at.Goals as goal

pub returns-in_err-other : goal.returns-in_err-other
returns-in_err-other c =
    let p = err_from_is_err_and c.from_residual-in_err-other.result c.from_residual-in_err-other.ensures.1 in
    let given = option_copied c.args.given in
    rw (p.1, p.2) record { reads = stops_in (asked_number given 2 c.args.second).Halts (behind given c.args.tag (Two 2 c.args.first 2 c.args.second)).Halts _ _ c.in_ok-one.rest.now _ c.in_err-other.ensures.reads (λ f h. inr (_, _, c.in_ok-one.ensures.reads, inl h)) }

pub returns : goal.returns
returns c =
    record { reads = pair_spelled (option_copied c.args.given) c.args.tag c.in_ok-one.one c.in_ok-other.other c.args.first c.args.second c.pair.result c.args.bytes.now c.in_ok-one.rest.now c.in_ok-other.rest.now c.requires.tag c.pair.ensures.entry c.in_ok-one.ensures.reads c.in_ok-other.ensures.reads }
