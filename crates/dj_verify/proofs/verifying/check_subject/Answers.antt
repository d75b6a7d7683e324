use Rattle.std.proofs.Common.{◌∙◌}
use Rattle.dj_verify.proofs.verifying.check_subject.Goals as goal

pub check_all-requires-clause-entry : goal.check_all-requires-clause-entry
check_all-requires-clause-entry g c = c.in_ok-first-2.ensures.same ∙ c.in_ok-first.ensures.entry

pub returns : goal.returns
returns g c = record { table = c.check_all.ensures.table; unverified = c.check_all.ensures.unverified }
