use Rattle.std.proofs.Common.{ℕ, List, Err, subst}
use Rattle.std.proofs.lemmas.Result.{err_from_is_err_and}
use Rattle.dj_code.specs.Checks.{ReadsListing}
use Rattle.dj_code.proofs.CodeReading.{listing_stops}
use Rattle.dj_code.proofs.reading.checked.Goals as goal

pub returns-in_err-instructions-clause-checked : goal.returns-in_err-instructions-clause-checked
returns-in_err-instructions-clause-checked c =
    let p = err_from_is_err_and c.from_residual.result c.from_residual.ensures.1 in
    rw (p.1, p.2) (listing_stops c.args.pool.now c.args.content.now c.in_err-instructions.field-0.0 (subst (λ (code : List ℕ). ReadsListing c.args.pool.now code (Err c.in_err-instructions.field-0.0)) c.as_slice.ensures c.in_err-instructions.ensures.listing))
