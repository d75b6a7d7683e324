use Rattle.std.proofs.Common.{codes}
use Rattle.std.proofs.lemmas.Result.{err_from_is_err_and}
use Rattle.dj_names.specs.Types.{view_descriptor}
use Rattle.dj_names.specs.Descriptors.{spell_descriptor}
use Rattle.dj_names.specs.Shown.{show_units}
use Rattle.dj_outer.proofs.PutsLemmas.{puts-on, puts-stop, puts-then}
use Rattle.dj_report.proofs.report.put_method_line.Goals as goal

pub returns-in_err-put_units : goal.returns-in_err-put_units
returns-in_err-put_units g c =
    let is = (err_from_is_err_and c.from_residual.result c.from_residual.ensures.1).1 in
    let name = show_units c.args.name.now in
    let descriptor = show_units (spell_descriptor (view_descriptor c.args.descriptor.now)) in
    record { puts = puts-on is c.args.tail.now (puts-on is descriptor (puts-on is name (puts-stop is (codes ".") (rw c.as_slice.ensures.units at c.in_err-put_units.ensures.puts)))) }

pub returns-in_err-put_piece : goal.returns-in_err-put_piece
returns-in_err-put_piece g c =
    let is = (err_from_is_err_and c.from_residual-in_err-put_piece.result c.from_residual-in_err-put_piece.ensures.1).1 in
    let name = show_units c.args.name.now in
    let descriptor = show_units (spell_descriptor (view_descriptor c.args.descriptor.now)) in
    let class = rw c.as_slice.ensures.units at c.in_ok-put_units.ensures.puts in
    record { puts = puts-on is c.args.tail.now (puts-on is descriptor (puts-stop is name (puts-then class c.in_err-put_piece.ensures.puts))) }

pub returns-in_err-put_units-2 : goal.returns-in_err-put_units-2
returns-in_err-put_units-2 g c =
    let is = (err_from_is_err_and c.from_residual-in_err-put_units-2.result c.from_residual-in_err-put_units-2.ensures.1).1 in
    let descriptor = show_units (spell_descriptor (view_descriptor c.args.descriptor.now)) in
    let class = rw c.as_slice.ensures.units at c.in_ok-put_units.ensures.puts in
    record { puts = puts-on is c.args.tail.now (puts-stop is descriptor (puts-then (puts-then class c.in_ok-put_piece.ensures.puts) (rw c.as_slice-2.ensures.units at c.in_err-put_units-2.ensures.puts))) }

pub returns-in_err-put_descriptor : goal.returns-in_err-put_descriptor
returns-in_err-put_descriptor g c =
    let is = (err_from_is_err_and c.from_residual-in_err-put_descriptor.result c.from_residual-in_err-put_descriptor.ensures.1).1 in
    let class = rw c.as_slice.ensures.units at c.in_ok-put_units.ensures.puts in
    let name = rw c.as_slice-2.ensures.units at c.in_ok-put_units-2.ensures.puts in
    record { puts = puts-stop is c.args.tail.now (puts-then (puts-then (puts-then class c.in_ok-put_piece.ensures.puts) name) c.in_err-put_descriptor.ensures.puts) }

pub returns : goal.returns
returns g c =
    let class = rw c.as_slice.ensures.units at c.in_ok-put_units.ensures.puts in
    let name = rw c.as_slice-2.ensures.units at c.in_ok-put_units-2.ensures.puts in
    let tail = rw c.as_bytes.ensures.value at c.put_piece-2.ensures.puts in
    record { puts = puts-then (puts-then (puts-then (puts-then class c.in_ok-put_piece.ensures.puts) name) c.in_ok-put_descriptor.ensures.puts) tail }
