use Rattle.std.proofs.Common.{◌++◌, codes, flat_map, sym, ap, ◌∙◌, append_assoc}
use Rattle.std.specs.Option.{option_map}
use Rattle.std.proofs.lemmas.Result.{err_from_is_err_and}
use Rattle.dj_names.specs.Types.{view_descriptor, view_type, view_types}
use Rattle.dj_names.specs.Descriptors.{spell_descriptor, spell_result, spell_type}
use Rattle.dj_names.specs.Shown.{show_units}
use Rattle.dj_outer.proofs.PutsLemmas.{puts-as, puts-stop, puts-then}
use Rattle.dj_report.proofs.ShownLemmas.{show-method}
use Rattle.dj_report.proofs.putting.descriptors.put_descriptor.Goals as goal

pub returns-in_err-put_piece-in-Method : goal.returns-in_err-put_piece-in-Method
returns-in_err-put_piece-in-Method g c =
    let parameters = flat_map spell_type (view_types c.in-Method.parameters) in
    let result = spell_result (option_map view_type c.in-Method.result) in
    let whole = ap (λ descriptor. show_units (spell_descriptor (view_descriptor descriptor))) (sym c.in-Method.is) in
    record {
      puts = puts-as (show-method parameters result ∙ whole)
          (puts-stop (err_from_is_err_and c.from_residual.result c.from_residual.ensures.1).1 (show_units parameters ++ codes ")" ++ show_units result) c.in_err-put_piece-in-Method.ensures.puts);
    }

pub returns-in_err-put_types-in-Method : goal.returns-in_err-put_types-in-Method
returns-in_err-put_types-in-Method g c =
    let parameters = flat_map spell_type (view_types c.in-Method.parameters) in
    let result = spell_result (option_map view_type c.in-Method.result) in
    let whole = ap (λ descriptor. show_units (spell_descriptor (view_descriptor descriptor))) (sym c.in-Method.is) in
    let parts = sym (append_assoc (codes "(" ++ show_units parameters) (codes ")") (show_units result)) in
    record {
      puts = puts-as (parts ∙ show-method parameters result ∙ whole)
          (puts-stop (err_from_is_err_and c.from_residual-in_err-put_types-in-Method.result c.from_residual-in_err-put_types-in-Method.ensures.1).1 (codes ")" ++ show_units result) (puts-then c.in_ok-put_piece-in-Method.ensures.puts (rw c.as_slice.ensures.items at c.in_err-put_types-in-Method.ensures.puts)));
    }

pub returns-in_err-put_piece-in-Method-2 : goal.returns-in_err-put_piece-in-Method-2
returns-in_err-put_piece-in-Method-2 g c =
    let parameters = flat_map spell_type (view_types c.in-Method.parameters) in
    let result = spell_result (option_map view_type c.in-Method.result) in
    let whole = ap (λ descriptor. show_units (spell_descriptor (view_descriptor descriptor))) (sym c.in-Method.is) in
    record {
      puts = puts-as (show-method parameters result ∙ whole)
          (puts-stop (err_from_is_err_and c.from_residual-in_err-put_piece-in-Method-2.result c.from_residual-in_err-put_piece-in-Method-2.ensures.1).1 (show_units result) (puts-then (puts-then c.in_ok-put_piece-in-Method.ensures.puts (rw c.as_slice.ensures.items at c.in_ok-put_types-in-Method.ensures.puts)) c.in_err-put_piece-in-Method-2.ensures.puts));
    }

pub returns-in_ok-put_piece-in-Method-2 : goal.returns-in_ok-put_piece-in-Method-2
returns-in_ok-put_piece-in-Method-2 g c =
    let parameters = flat_map spell_type (view_types c.in-Method.parameters) in
    let result = spell_result (option_map view_type c.in-Method.result) in
    let whole = ap (λ descriptor. show_units (spell_descriptor (view_descriptor descriptor))) (sym c.in-Method.is) in
    record {
      puts = puts-as (show-method parameters result ∙ whole)
          (puts-then (puts-then (puts-then c.in_ok-put_piece-in-Method.ensures.puts (rw c.as_slice.ensures.items at c.in_ok-put_types-in-Method.ensures.puts)) c.in_ok-put_piece-in-Method-2.ensures.puts) c.put_result.ensures.puts);
    }
