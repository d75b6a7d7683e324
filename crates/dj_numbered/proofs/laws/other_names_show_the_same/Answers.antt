use Rattle.dj_numbered.proofs.Assigning.{renamed_reads}
use Rattle.dj_numbered.proofs.Throwing.{renamed_throws, renamed_catching}
use Rattle.dj_numbered.proofs.Showing.{renamed_shows}
use Rattle.dj_numbered.proofs.laws.other_names_show_the_same.Goals as goal

pub returns : goal.returns
returns c = record { reads = renamed_reads; throws = renamed_throws; catching = renamed_catching; shows = renamed_shows }
