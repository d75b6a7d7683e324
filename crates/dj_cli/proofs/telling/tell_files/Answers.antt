use Rattle.std.proofs.Common.{Bool, false, refl, ◌≡◌, ◌<◌, [], ap, if◌then◌else◌, length, sym, ◌∙◌, subst, arith}
use Rattle.std.specs.String.{string_bytes}
use Rattle.std.proofs.lemmas.List.{length-map}
use Rattle.std.proofs.lemmas.Result.{err_from_is_err_and}
use Rattle.dj_load.specs.Loading.{finds_of, found_of}
use Rattle.dj_making.specs.MadeFiles.{summary_text}
use Rattle.dj_cli.specs.Pieces.{IsOfFile}
use Rattle.dj_cli.specs.declared.tally.Tally.{Tally}
use Rattle.dj_cli.specs.Telling.{Tallies, source_of}
use Rattle.dj_cli.proofs.TellingLemmas.{calm-stops, failed-from, few_told, name_at, stops_at_end, stops_telling, told_all, told_more, told_none}
use Rattle.dj_cli.proofs.telling.tell_files.Goals as goal

pub loop-place-init : goal.loop-place-init
loop-place-init g c = record {
  text_falls = omega arith;
  report_falls = omega arith;
  text_calm = refl;
  report_calm = refl;
  few_printed = omega (arith, ap (λ tally. tally.printed) c.no_tally-tally.ensures.tally);
  few_refused = omega (arith, ap (λ tally. tally.refused) c.no_tally-tally.ensures.tally);
  told = told_none (source_of c.args.named.now c.args.made) (finds_of c.args.files.now) c.args.files.now.world (g.T.Sink.taken c.args.text.now) (g.P.Sink.taken c.args.report.now) c.no_tally-tally.result c.no_tally-tally.ensures.tally;
}

pub returns-in_err-basis-clause-stopped : goal.returns-in_err-basis-clause-stopped
returns-in_err-basis-clause-stopped g c =
    let p = err_from_is_err_and c.from_residual.result c.from_residual.ensures.1 in
    let none = told_none (source_of c.args.named.now c.args.made) (finds_of c.args.files.now) c.args.files.now.world (g.T.Sink.taken c.args.text.now) (g.P.Sink.taken c.args.report.now) (record { has_line = false; printed = 0; refused = 0 }) refl in
    rw (p.1, p.2) (0, false, none.told)

pub tell_file-requires : goal.tell_file-requires
tell_file-requires g c =
    let found = c.args.files.now.found.items in
    let i = c.loop-place.place in
    let inside : i < length found = omega arith in
    let is = rw c.as_slice-found.ensures.value at c.index-found-place.is in
    record { of_file = subst (λ one. IsOfFile (found_of one)) (sym is) (c.requires.of_files i c.index-found-place.result inside) }

pub returns-in_err-one-clause-stopped : goal.returns-in_err-one-clause-stopped
returns-in_err-one-clause-stopped g c =
    let named = c.args.named.now in
    let found = c.args.files.now.found.items in
    let i = c.loop-place.place in
    let in_named : i < length named = omega arith in
    let in_found : i < length found = omega arith in
    let at_name = name_at string_bytes named i c.index-named-place.result in_named c.index-named-place.is in
    let at_file = name_at found_of found i c.index-found-place.result in_found (rw c.as_slice-found.ensures.value at c.index-found-place.is) in
    let p = err_from_is_err_and c.from_residual-in_err-one.result c.from_residual-in_err-one.ensures.1 in
    rw (p.1, p.2)
    (stops_telling (source_of named c.args.made) (finds_of c.args.files.now) c.args.files.now.world i c.loop-place.tally (g.T.Sink.taken c.args.text.now) (g.T.Sink.taken c.loop-place.text) (g.T.Sink.taken c.tell_file.new.text) (g.P.Sink.taken c.args.report.now) (g.P.Sink.taken c.loop-place.report) (g.P.Sink.taken c.tell_file.new.report) c.loop-place.invariant.told (string_bytes c.index-named-place.result) (found_of c.index-found-place.result) at_name at_file c.in_err-one.field-0.0 (rw (c.as_str.ensures.value, c.in_ok-basis.ensures.world) at c.in_err-one.ensures.stopped))

pub returns-in_err-one-clause-failed : goal.returns-in_err-one-clause-failed
returns-in_err-one-clause-failed g c =
    let p = err_from_is_err_and c.from_residual-in_err-one.result c.from_residual-in_err-one.ensures.1 in
    rw (p.1, p.2) (failed-from c.in_err-one.field-0.0 (g.T.Sink.faults c.args.text.now) (g.T.Sink.faults c.loop-place.text) (g.T.Sink.faults c.tell_file.new.text) (g.P.Sink.faults c.args.report.now) (g.P.Sink.faults c.loop-place.report) (g.P.Sink.faults c.tell_file.new.report) c.loop-place.invariant.text_falls c.loop-place.invariant.report_falls c.in_err-one.ensures.failed)

pub returns-in_err-one-clause-calm : goal.returns-in_err-one-clause-calm
returns-in_err-one-clause-calm g c =
    let p = err_from_is_err_and c.from_residual-in_err-one.result c.from_residual-in_err-one.ensures.1 in
    rw (p.1, p.2) (calm-stops Tally Bool (g.T.Sink.faults c.tell_file.new.text) (g.P.Sink.faults c.tell_file.new.report) c.in_err-one.field-0.0 c.loop-place.invariant.text_calm c.loop-place.invariant.report_calm c.in_err-one.ensures.calm)

pub both-tally-requires-clause-printed : goal.both-tally-requires-clause-printed
both-tally-requires-clause-printed g c =
    let found = c.args.files.now.found.items in
    let i = c.loop-place.place in
    let in_found : i < length found = omega arith in
    let one = rw (c.as_str.ensures.value, c.in_ok-basis.ensures.world) at c.in_ok-one.ensures.told in
    let of_file = subst (λ one. IsOfFile (found_of one)) (sym (rw c.as_slice-found.ensures.value at c.index-found-place.is)) (c.requires.of_files i c.index-found-place.result in_found) in
    let few = few_told c.args.files.now.world (string_bytes c.index-named-place.result) (found_of c.index-found-place.result) one.piece of_file one.is in
    omega (arith, one.printed_is, few.0, c.loop-place.invariant.few_printed, in_found, c.requires.few, c.requires.number)

pub both-tally-requires-clause-refused : goal.both-tally-requires-clause-refused
both-tally-requires-clause-refused g c =
    let found = c.args.files.now.found.items in
    let i = c.loop-place.place in
    let in_found : i < length found = omega arith in
    let one = rw (c.as_str.ensures.value, c.in_ok-basis.ensures.world) at c.in_ok-one.ensures.told in
    let of_file = subst (λ one. IsOfFile (found_of one)) (sym (rw c.as_slice-found.ensures.value at c.index-found-place.is)) (c.requires.of_files i c.index-found-place.result in_found) in
    let few = few_told c.args.files.now.world (string_bytes c.index-named-place.result) (found_of c.index-found-place.result) one.piece of_file one.is in
    omega (arith, one.refused_is, few.1, c.loop-place.invariant.few_refused, in_found, c.requires.few, c.requires.number)

pub loop-place-preserved : goal.loop-place-preserved
loop-place-preserved g c =
    let named = c.args.named.now in
    let found = c.args.files.now.found.items in
    let i = c.loop-place.place in
    let in_named : i < length named = omega arith in
    let in_found : i < length found = omega arith in
    let at_name = name_at string_bytes named i c.index-named-place.result in_named c.index-named-place.is in
    let at_file = name_at found_of found i c.index-found-place.result in_found (rw c.as_slice-found.ensures.value at c.index-found-place.is) in
    let one = rw (c.as_str.ensures.value, c.in_ok-basis.ensures.world) at c.in_ok-one.ensures.told in
    let of_file = subst (λ one. IsOfFile (found_of one)) (sym (rw c.as_slice-found.ensures.value at c.index-found-place.is)) (c.requires.of_files i c.index-found-place.result in_found) in
    let few = few_told c.args.files.now.world (string_bytes c.index-named-place.result) (found_of c.index-found-place.result) one.piece of_file one.is in
    record {
      text_falls = omega arith;
      report_falls = omega arith;
      text_calm = c.in_ok-one.ensures.calm.0 ∙ c.loop-place.invariant.text_calm;
      report_calm = c.in_ok-one.ensures.calm.1 ∙ c.loop-place.invariant.report_calm;
      few_printed = omega (arith, c.both-tally.ensures.printed, one.printed_is, few.0, c.loop-place.invariant.few_printed);
      few_refused = omega (arith, c.both-tally.ensures.refused, one.refused_is, few.1, c.loop-place.invariant.few_refused);
      told = told_more (source_of named c.args.made) (finds_of c.args.files.now) c.args.files.now.world i c.loop-place.tally (g.T.Sink.taken c.args.text.now) (g.T.Sink.taken c.loop-place.text) (g.T.Sink.taken c.tell_file.new.text) (g.P.Sink.taken c.args.report.now) (g.P.Sink.taken c.loop-place.report) (g.P.Sink.taken c.tell_file.new.report) c.loop-place.invariant.told (string_bytes c.index-named-place.result) (found_of c.index-found-place.result) at_name at_file c.in_ok-one.one c.both-tally.result c.both-tally.ensures.has_line c.both-tally.ensures.printed c.both-tally.ensures.refused one;
    }

pub returns-in_err-end-clause-stopped : goal.returns-in_err-end-clause-stopped
returns-in_err-end-clause-stopped g c =
    let named = c.args.named.now in
    let source = source_of named c.args.made in
    let found = finds_of c.args.files.now in
    let world = c.args.files.now.world in
    let end : c.loop-place.place ≡ length named = omega arith in
    let all : c.loop-place.place ≡ length source.names = end ∙ sym (length-map named string_bytes) in
    let told = subst (λ count. Tallies count c.loop-place.tally (g.T.Sink.taken c.args.text.now) (g.T.Sink.taken c.loop-place.text) (g.P.Sink.taken c.args.report.now) (g.P.Sink.taken c.loop-place.report) source found world) all c.loop-place.invariant.told in
    let text : c.in_ok-last.last.text.items ≡ (if c.args.made then summary_text (length source.names) c.loop-place.tally.printed c.loop-place.tally.refused else []) = rw (length-map named string_bytes) c.in_ok-last.ensures.text in
    let p = err_from_is_err_and c.from_residual-in_err-end.result c.from_residual-in_err-end.ensures.1 in
    rw (p.1, p.2)
    (stops_at_end source found world c.loop-place.tally (g.T.Sink.taken c.args.text.now) (g.T.Sink.taken c.loop-place.text) (g.T.Sink.taken c.tell_last.new.text) (g.P.Sink.taken c.args.report.now) (g.P.Sink.taken c.loop-place.report) (g.P.Sink.taken c.tell_last.new.report) told c.in_ok-last.last text c.in_ok-last.ensures.lines c.in_err-end.field-0.0 c.in_err-end.ensures.stopped)

pub returns-in_err-end-clause-failed : goal.returns-in_err-end-clause-failed
returns-in_err-end-clause-failed g c =
    let p = err_from_is_err_and c.from_residual-in_err-end.result c.from_residual-in_err-end.ensures.1 in
    rw (p.1, p.2) (failed-from c.in_err-end.field-0.0 (g.T.Sink.faults c.args.text.now) (g.T.Sink.faults c.loop-place.text) (g.T.Sink.faults c.tell_last.new.text) (g.P.Sink.faults c.args.report.now) (g.P.Sink.faults c.loop-place.report) (g.P.Sink.faults c.tell_last.new.report) c.loop-place.invariant.text_falls c.loop-place.invariant.report_falls c.in_err-end.ensures.failed)

pub returns-in_err-end-clause-calm : goal.returns-in_err-end-clause-calm
returns-in_err-end-clause-calm g c =
    let p = err_from_is_err_and c.from_residual-in_err-end.result c.from_residual-in_err-end.ensures.1 in
    rw (p.1, p.2) (calm-stops Tally Bool (g.T.Sink.faults c.tell_last.new.text) (g.P.Sink.faults c.tell_last.new.report) c.in_err-end.field-0.0 c.loop-place.invariant.text_calm c.loop-place.invariant.report_calm c.in_err-end.ensures.calm)

pub returns-clause-calm : goal.returns-clause-calm
returns-clause-calm g c = (c.in_ok-end.ensures.calm.0 ∙ c.loop-place.invariant.text_calm, c.in_ok-end.ensures.calm.1 ∙ c.loop-place.invariant.report_calm)

pub returns-clause-told : goal.returns-clause-told
returns-clause-told g c =
    let named = c.args.named.now in
    let source = source_of named c.args.made in
    let found = finds_of c.args.files.now in
    let world = c.args.files.now.world in
    let end : c.loop-place.place ≡ length named = omega arith in
    let all : c.loop-place.place ≡ length source.names = end ∙ sym (length-map named string_bytes) in
    let told = subst (λ count. Tallies count c.loop-place.tally (g.T.Sink.taken c.args.text.now) (g.T.Sink.taken c.loop-place.text) (g.P.Sink.taken c.args.report.now) (g.P.Sink.taken c.loop-place.report) source found world) all c.loop-place.invariant.told in
    let text : c.in_ok-last.last.text.items ≡ (if c.args.made then summary_text (length source.names) c.loop-place.tally.printed c.loop-place.tally.refused else []) = rw (length-map named string_bytes) c.in_ok-last.ensures.text in
    told_all source found world c.loop-place.tally (g.T.Sink.taken c.args.text.now) (g.T.Sink.taken c.loop-place.text) (g.T.Sink.taken c.tell_last.new.text) (g.P.Sink.taken c.args.report.now) (g.P.Sink.taken c.loop-place.report) (g.P.Sink.taken c.tell_last.new.report) told c.in_ok-last.last text c.in_ok-last.ensures.lines c.in_ok-end.end c.in_ok-end.ensures.told
