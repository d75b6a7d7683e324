use Rattle.std.proofs.Common.{Some}
use Rattle.std.proofs.lemmas.Result.{err_from_is_err_and}
use Rattle.dj_load.specs.HeldFiles.{listed_by}
use Rattle.dj_load.proofs.LoadingLemmas.{are_listed, are_loaded, is_list_other, library_loads, library_stops, paths_by, stops_between, stops_more}
use Rattle.dj_load.proofs.loading.load_library.Goals as goal

pub returns-in_err-bytes-clause-stopped : goal.returns-in_err-bytes-clause-stopped
returns-in_err-bytes-clause-stopped g c =
    let p = err_from_is_err_and c.from_residual.result c.from_residual.ensures.1 in
    let held = g.F.Files.held c.args.files.now in
    let list = Some c.args.list.now in
    rw (p.1, p.2) (record { paths = paths_by held list; listed = are_listed held list; stops = stops_more (paths_by held list) c.in_err-bytes.ensures.stopped })

pub returns-in-Ok-clause-loaded : goal.returns-in-Ok-clause-loaded
returns-in-Ok-clause-loaded g c =
    let text = rw c.as_slice.ensures.value at c.in-Ok.ensures.cases in
    library_loads c.load_listed.new.loads (g.F.Files.asked c.load_listed.new.files) (g.F.Files.faults c.load_listed.new.files) c.load_listed.result c.in_ok-bytes.ensures.loaded text.0 text.1 c.load_listed.ensures.read c.load_listed.ensures.paths (rw c.in_ok-bytes.ensures.kept at c.load_listed.ensures.loaded)

pub returns-in-Ok-clause-stopped : goal.returns-in-Ok-clause-stopped
returns-in-Ok-clause-stopped g c =
    let text = rw c.as_slice.ensures.value at c.in-Ok.ensures.cases in
    library_stops (g.F.Files.asked c.load_listed.new.files) (g.F.Files.faults c.load_listed.new.files) c.load_listed.result c.in_ok-bytes.ensures.loaded text.0 text.1 c.in_ok-bytes.ensures.has (rw c.in_ok-bytes.ensures.kept at c.load_listed.ensures.stopped)

pub returns-in_err-from_str-in-Err-clause-stopped : goal.returns-in_err-from_str-in-Err-clause-stopped
returns-in_err-from_str-in-Err-clause-stopped g c =
    let p = err_from_is_err_and c.from_residual-in_err-from_str-in-Err.result c.from_residual-in_err-from_str-in-Err.ensures.1 in
    let held = g.F.Files.held c.args.files.now in
    let bytes = c.in_ok-bytes.bytes.items in
    rw (p.1, p.2) (record { paths = listed_by bytes; listed = are_loaded held c.args.list.now bytes c.in_ok-bytes.ensures.has; stops = stops_more (listed_by bytes) (stops_between tt c.in_ok-bytes.ensures.loaded) })

pub returns-clause-loaded : goal.returns-clause-loaded
returns-clause-loaded g c =
    let isnt = rw c.as_slice.ensures.value at c.in-Err.ensures.cases in
    record {
      listed = Some c.in_ok-bytes.bytes.items;
      lists = rw (c.in_ok-from_str-in-Err.ensures.ok, c.new.ensures.items) (is_list_other c.args.list.now c.in_ok-bytes.bytes.items isnt.0);
      loads = rw (c.new.ensures.items, c.new-in-Err.ensures.items) c.in_ok-bytes.ensures.loaded;
    }
