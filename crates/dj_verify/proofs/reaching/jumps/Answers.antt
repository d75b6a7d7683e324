use Rattle.dj_verify.proofs.reaching.jumps.Goals as goal

pub returns-in-TableSwitch-clause-jumps : goal.returns-in-TableSwitch-clause-jumps
returns-in-TableSwitch-clause-jumps g c = rw c.in-TableSwitch.is (rw c.as_slice.ensures at c.goes_to_all.ensures.reaches)

pub returns-in-LookupSwitch-clause-jumps : goal.returns-in-LookupSwitch-clause-jumps
returns-in-LookupSwitch-clause-jumps g c = rw c.in-LookupSwitch.is (rw c.as_slice-in-LookupSwitch.ensures at c.goes_to_cases.ensures.reaches)
