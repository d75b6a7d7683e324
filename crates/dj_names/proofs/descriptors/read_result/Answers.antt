use Rattle.std.proofs.lemmas.Bool.{false≢true}
use Rattle.std.proofs.lemmas.Result.{err_from_is_err_and}
use Rattle.dj_names.proofs.RestLemmas.{result_is_type}
use Rattle.dj_names.proofs.descriptors.read_result.Goals as goal

pub returns-in_err-read_type-clause-stops : goal.returns-in_err-read_type-clause-stops
returns-in_err-read_type-clause-stops c =
    let p = err_from_is_err_and c.from_residual.result c.from_residual.ensures.1 in
    rw (p.1, p.2) (result_is_type _ c.args.unread.now _ (λ rest is. false≢true (c.if-is_at.ensures.at_hand.1 (rest, is))) c.in_err-read_type.ensures.stops)
