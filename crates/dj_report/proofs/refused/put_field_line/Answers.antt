use Rattle.std.proofs.Common.{codes}
use Rattle.std.proofs.lemmas.Result.{err_from_is_err_and}
use Rattle.dj_names.specs.Types.{view_type}
use Rattle.dj_names.specs.Descriptors.{spell_type}
use Rattle.dj_names.specs.Shown.{show_units}
use Rattle.dj_outer.proofs.PutsLemmas.{puts-on, puts-stop, puts-then}
use Rattle.dj_report.proofs.refused.put_field_line.Goals as goal

pub returns-in_err-put_units : goal.returns-in_err-put_units
returns-in_err-put_units g c =
    let is = (err_from_is_err_and c.from_residual.result c.from_residual.ensures.1).1 in
    let name = show_units c.args.name.now in
    let type = show_units (spell_type (view_type c.args.kind.now)) in
    record { puts = puts-on is c.args.tail.now (puts-on is type (puts-on is (codes ":") (puts-on is name (puts-stop is (codes ".") (rw c.as_slice.ensures.units at c.in_err-put_units.ensures.puts))))) }

pub returns-in_err-put_piece : goal.returns-in_err-put_piece
returns-in_err-put_piece g c =
    let is = (err_from_is_err_and c.from_residual-in_err-put_piece.result c.from_residual-in_err-put_piece.ensures.1).1 in
    let name = show_units c.args.name.now in
    let type = show_units (spell_type (view_type c.args.kind.now)) in
    let class = rw c.as_slice.ensures.units at c.in_ok-put_units.ensures.puts in
    record { puts = puts-on is c.args.tail.now (puts-on is type (puts-on is (codes ":") (puts-stop is name (puts-then class c.in_err-put_piece.ensures.puts)))) }

pub returns-in_err-put_units-2 : goal.returns-in_err-put_units-2
returns-in_err-put_units-2 g c =
    let is = (err_from_is_err_and c.from_residual-in_err-put_units-2.result c.from_residual-in_err-put_units-2.ensures.1).1 in
    let type = show_units (spell_type (view_type c.args.kind.now)) in
    let class = rw c.as_slice.ensures.units at c.in_ok-put_units.ensures.puts in
    record { puts = puts-on is c.args.tail.now (puts-on is type (puts-stop is (codes ":") (puts-then (puts-then class c.in_ok-put_piece.ensures.puts) (rw c.as_slice-2.ensures.units at c.in_err-put_units-2.ensures.puts)))) }

pub returns-in_err-put_piece-2 : goal.returns-in_err-put_piece-2
returns-in_err-put_piece-2 g c =
    let is = (err_from_is_err_and c.from_residual-in_err-put_piece-2.result c.from_residual-in_err-put_piece-2.ensures.1).1 in
    let type = show_units (spell_type (view_type c.args.kind.now)) in
    let class = rw c.as_slice.ensures.units at c.in_ok-put_units.ensures.puts in
    let name = rw c.as_slice-2.ensures.units at c.in_ok-put_units-2.ensures.puts in
    record { puts = puts-on is c.args.tail.now (puts-stop is type (puts-then (puts-then (puts-then class c.in_ok-put_piece.ensures.puts) name) c.in_err-put_piece-2.ensures.puts)) }

pub returns-in_err-put_type : goal.returns-in_err-put_type
returns-in_err-put_type g c =
    let is = (err_from_is_err_and c.from_residual-in_err-put_type.result c.from_residual-in_err-put_type.ensures.1).1 in
    let class = rw c.as_slice.ensures.units at c.in_ok-put_units.ensures.puts in
    let name = rw c.as_slice-2.ensures.units at c.in_ok-put_units-2.ensures.puts in
    record { puts = puts-stop is c.args.tail.now (puts-then (puts-then (puts-then (puts-then class c.in_ok-put_piece.ensures.puts) name) c.in_ok-put_piece-2.ensures.puts) c.in_err-put_type.ensures.puts) }

pub returns : goal.returns
returns g c =
    let class = rw c.as_slice.ensures.units at c.in_ok-put_units.ensures.puts in
    let name = rw c.as_slice-2.ensures.units at c.in_ok-put_units-2.ensures.puts in
    let tail = rw c.as_bytes.ensures.value at c.put_piece-3.ensures.puts in
    record { puts = puts-then (puts-then (puts-then (puts-then (puts-then class c.in_ok-put_piece.ensures.puts) name) c.in_ok-put_piece-2.ensures.puts) c.in_ok-put_type.ensures.puts) tail }
