use Rattle.std.proofs.Common.{rules}
use Rattle.dj_print.proofs.NamesAreAscii.{ascii_identifier}
use Rattle.dj_print.proofs.print.text.simple_name.Goals as goal

pub ascii-requires : goal.ascii-requires
ascii-requires g c = let h = ascii_identifier c.args.name.now c.requires.identifier in record { ascii = search rules }
