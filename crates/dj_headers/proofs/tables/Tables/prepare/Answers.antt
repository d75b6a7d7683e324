use Rattle.std.proofs.Common.{List, ℕ, subst}
use Rattle.dj_headers.specs.Table.{IsParent, IsUp}
use Rattle.dj_headers.proofs.TableLemmas.{AreTables-extends, AreTables-open_above, AreTables-open_lines}
use Rattle.dj_headers.proofs.tables.Tables.prepare.Goals as goal

pub returns-in_err-class-clause-kept : goal.returns-in_err-class-clause-kept
returns-in_err-class-clause-kept c = λ headers tables.
    let own = c.args.self.now in
    AreTables-extends headers own.places c.learn_header.new.places own.above.items own.lines.items c.learn_header.ensures.extends c.learn_header.ensures.index tables

pub returns-in_err-above-clause-kept : goal.returns-in_err-above-clause-kept
returns-in_err-above-clause-kept c = λ headers tables.
    let own = c.args.self.now in
    let places = c.learn_header.new.places in
    let learned = AreTables-extends headers own.places places own.above.items own.lines.items c.learn_header.ensures.extends c.learn_header.ensures.index tables in
    AreTables-open_above headers places c.args.header.now.name c.in_ok-class.class own.above.items c.find_above.new.rows.items own.lines.items c.in_ok-class.ensures.place c.find_above.ensures.opens learned

pub returns-in_err-lines-clause-kept : goal.returns-in_err-lines-clause-kept
returns-in_err-lines-clause-kept c = λ headers tables.
    let own = c.args.self.now in
    let places = c.learn_header.new.places in
    let learned = AreTables-extends headers own.places places own.above.items own.lines.items c.learn_header.ensures.extends c.learn_header.ensures.index tables in
    let opened = AreTables-open_above headers places c.args.header.now.name c.in_ok-class.class own.above.items c.find_above.new.rows.items own.lines.items c.in_ok-class.ensures.place c.find_above.ensures.opens learned in
    AreTables-open_lines headers places c.args.header.now.name c.in_ok-class.class c.find_above.new.rows.items own.lines.items c.find_above-2.new.rows.items c.in_ok-class.ensures.place c.find_above-2.ensures.opens opened

pub returns-clause-kept : goal.returns-clause-kept
returns-clause-kept c = λ headers tables.
    let own = c.args.self.now in
    let places = c.learn_header.new.places in
    let learned = AreTables-extends headers own.places places own.above.items own.lines.items c.learn_header.ensures.extends c.learn_header.ensures.index tables in
    let opened = AreTables-open_above headers places c.args.header.now.name c.in_ok-class.class own.above.items c.find_above.new.rows.items own.lines.items c.in_ok-class.ensures.place c.find_above.ensures.opens learned in
    AreTables-open_lines headers places c.args.header.now.name c.in_ok-class.class c.find_above.new.rows.items own.lines.items c.find_above-2.new.rows.items c.in_ok-class.ensures.place c.find_above-2.ensures.opens opened

pub returns-clause-ready : goal.returns-clause-ready
returns-clause-ready c = λ headers tables.
    let own = c.args.self.now in
    let header = c.args.header.now in
    let places = c.learn_header.new.places in
    let class = c.in_ok-class.class in
    let learned = AreTables-extends headers own.places places own.above.items own.lines.items c.learn_header.ensures.extends c.learn_header.ensures.index tables in
    let opened = AreTables-open_above headers places header.name class own.above.items c.find_above.new.rows.items own.lines.items c.in_ok-class.ensures.place c.find_above.ensures.opens learned in
    record {
      tables = AreTables-open_lines headers places header.name class c.find_above.new.rows.items own.lines.items c.find_above-2.new.rows.items c.in_ok-class.ensures.place c.find_above-2.ensures.opens opened;
      named = c.in_ok-class.ensures.place;
      all = subst (λ (names : List (List ℕ)). IsUp headers (IsParent header.superclass names) places c.in_ok-above.above) c.as_slice-interfaces.ensures (c.in_ok-above.ensures.up headers learned.index learned.above);
      line = c.in_ok-lines.ensures.up _ learned.index learned.lines;
    }
