use Rattle.std.proofs.Common.{◌∙◌, ap, get_or}
use Rattle.dj_headers.proofs.RowLemmas.{same_words}
use Rattle.dj_headers.proofs.rows.widen.Goals as goal

pub returns-in_err-push-clause-bits : goal.returns-in_err-push-clause-bits
returns-in_err-push-clause-bits c =
    same_words c.args.row.now c.push.new.self (λ k. ap (λ xs. get_or xs k 0) c.in_err-push.ensures.err ∙ c.loop.invariant.words k)

pub returns-clause-bits : goal.returns-clause-bits
returns-clause-bits c = same_words c.args.row.now c.loop.row c.loop.invariant.words
