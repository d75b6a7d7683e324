use Rattle.std.proofs.Common.{refl, rules}
use Rattle.dj_syntax.specs.WellFormed.{IsHelperName}
use Rattle.dj_print.proofs.NamesAreAscii.{ascii_helper}
use Rattle.dj_print.proofs.Composing.{eight}
use Rattle.dj_print.proofs.print.member.helper.Goals as goal

pub returns-in-Some : goal.returns-in-Some
returns-in-Some g c =
    record { prints = eight g.O.Out.prints g.met.O.Out.then c.line.ensures.prints c.put.ensures.prints c.ascii.ensures.prints c.put-in-Some.ensures.prints c.line-in-Some.ensures.prints c.put-in-Some-2.ensures.prints c.line-in-Some-2.ensures.prints c.put-in-Some-3.ensures.prints (rw (c.in-Some.is, c.as_slice.ensures.units) refl) }

pub ascii-requires : goal.ascii-requires
ascii-requires g c =
    let h : IsHelperName c.in-Some.name = search rules in let a = ascii_helper c.in-Some.name h in record { ascii = search rules }

pub returns-in-None : goal.returns-in-None
returns-in-None g c = record { prints = rw c.in-None.is (g.met.O.Out.nothing _) }
