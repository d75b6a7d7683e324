use Rattle.dj_read.proofs.read.is_spelled.Goals as goal

pub is_text-requires : goal.is_text-requires
is_text-requires c = record { well_formed = c.is_well_formed.ensures.exact.0 c.if-not-is_well_formed.false }
