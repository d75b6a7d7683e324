use Rattle.std.proofs.Common.{rules}
use Rattle.dj_syntax.specs.WellFormed.{IsHelperName}
use Rattle.dj_print.proofs.NamesAreAscii.{ascii_helper}
use Rattle.dj_print.proofs.print.names.helper_name.Goals as goal

pub ascii-requires : goal.ascii-requires
ascii-requires g c =
    let h : IsHelperName c.in-Some.name = search rules in let a = ascii_helper c.in-Some.name h in record { ascii = search rules }

pub returns-in-None : goal.returns-in-None
returns-in-None g c = record { prints = rw c.in-None.is (g.met.O.Out.nothing _) }
