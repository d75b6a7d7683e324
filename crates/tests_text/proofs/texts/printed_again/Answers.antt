use Rattle.tests_text.proofs.texts.printed_again.Goals as goal

pub unit_bytes-requires : goal.unit_bytes-requires
unit_bytes-requires c = record { well_formed = rw c.in_ok-copy-in-Ok.ensures.equal c.in-Ok.ensures.read.0 }
