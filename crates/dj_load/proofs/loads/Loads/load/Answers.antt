use Rattle.std.proofs.Common.{refl, arith}
use Rattle.std.proofs.lemmas.Result.{err_from_is_err_and}
use Rattle.dj_load.proofs.LoadingLemmas.{stops_at_most, stops_one}
use Rattle.dj_load.proofs.loads.Loads.load.Goals as goal

pub returns-then-self-eq-MOST_FILES-clause-stopped : goal.returns-then-self-eq-MOST_FILES-clause-stopped
returns-then-self-eq-MOST_FILES-clause-stopped g c = stops_at_most (omega arith) refl

pub returns-in_err-bytes-clause-stopped : goal.returns-in_err-bytes-clause-stopped
returns-in_err-bytes-clause-stopped g c =
    let p = err_from_is_err_and c.from_residual.result c.from_residual.ensures.1 in
    rw (p.1, p.2) (stops_one c.requires.within (omega arith) c.in_err-bytes.ensures.never_falls c.in_err-bytes.ensures.stopped)
