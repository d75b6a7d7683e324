pub mod StraightShows
