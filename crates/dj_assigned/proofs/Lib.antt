mod JumpLemmas
mod AssignedLaw
mod Examples
