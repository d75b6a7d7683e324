use Rattle.dj_print.proofs.NamesAreAscii.{ascii_qualified}
use Rattle.dj_print.proofs.print.text.full_name.Goals as goal

pub with_dots-requires : goal.with_dots-requires
with_dots-requires g c = record { ascii = ascii_qualified _ c.requires.qualified }
