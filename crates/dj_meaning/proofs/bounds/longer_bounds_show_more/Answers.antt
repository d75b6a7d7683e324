use Rattle.dj_meaning.proofs.Growth.{longer_shows_more}
use Rattle.dj_meaning.proofs.bounds.longer_bounds_show_more.Goals as goal

pub returns : goal.returns
returns c = record { more = longer_shows_more }
