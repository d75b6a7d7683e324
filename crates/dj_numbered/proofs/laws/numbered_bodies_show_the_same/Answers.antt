use Rattle.dj_numbered.proofs.Numbering.{numbers_are_apart, numbered_is_typed, numbered_shows}
use Rattle.dj_numbered.proofs.Counting.{numbers_count_up}
use Rattle.dj_numbered.proofs.laws.numbered_bodies_show_the_same.Goals as goal

pub returns : goal.returns
returns c = record { apart = numbers_are_apart; order = numbers_count_up; typed = numbered_is_typed; shows = numbered_shows }
