use Rattle.dj_straight_shows.proofs.StraightShows.{straight_methods_show}
use Rattle.dj_straight_shows.proofs.shows.straight_methods_show.Goals as goal

pub returns : goal.returns
returns c = record { same = straight_methods_show }
