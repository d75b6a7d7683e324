use Rattle.std.proofs.Common.{List, ℕ, subst}
use Rattle.dj_headers.proofs.TableLemmas.{IsRaised, AreTables-raised}
use Rattle.dj_headers.proofs.tables.Tables.add.Goals as goal

pub returns-clause-tables : goal.returns-clause-tables
returns-clause-tables c = λ headers header ready.
    let own = c.args.self.now in
    let addition = c.args.addition in
    AreTables-raised headers header own.places addition.class own.above.items c.raise.new.rows.items own.lines.items c.raise-2.new.rows.items addition.above addition.lines ready c.requires.above.own c.requires.lines.own
    (subst (λ (row : List ℕ). IsRaised addition.class row own.above.items c.raise.new.rows.items) c.as_slice.ensures c.raise.ensures.bits)
    (subst (λ (row : List ℕ). IsRaised addition.class row own.lines.items c.raise-2.new.rows.items) c.as_slice-2.ensures c.raise-2.ensures.bits)
