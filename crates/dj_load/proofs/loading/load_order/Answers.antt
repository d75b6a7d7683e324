use Rattle.std.proofs.Common.{map}
use Rattle.std.specs.String.{string_bytes}
use Rattle.std.specs.Option.{option_map}
use Rattle.std.proofs.lemmas.List.{length-map}
use Rattle.std.proofs.lemmas.Result.{err_from_is_err_and}
use Rattle.dj_load.specs.declared.loading.OrderFiles.{OrderFiles}
use Rattle.dj_load.proofs.LoadingLemmas.{are_listed, behind_stops, due_behind, few_files, named_stops, order_asks, order_due, order_loads, paths_by, stops_due}
use Rattle.dj_load.proofs.loading.load_order.Goals as goal

pub returns-in_err-contents-clause-read : goal.returns-in_err-contents-clause-read
returns-in_err-contents-clause-read g c =
    let p = err_from_is_err_and c.from_residual.result c.from_residual.ensures.1 in
    let held = g.F.Files.held c.args.files.now in
    let names = map string_bytes c.args.named.now in
    let list = option_map string_bytes c.args.list.now in
    rw (p.1, p.2) (stops_due (due_behind held names list (paths_by held list) (are_listed held list)) (named_stops list c.new-loads.ensures.place c.new-loads.ensures.used c.in_err-contents.ensures.stopped))

pub returns-in_err-contents-clause-asked : goal.returns-in_err-contents-clause-asked
returns-in_err-contents-clause-asked g c =
    let held = g.F.Files.held c.args.files.now in
    let names = map string_bytes c.args.named.now in
    let list = option_map string_bytes c.args.list.now in
    record {
      due = _;
      is_due = due_behind held names list (paths_by held list) (are_listed held list);
      holds = (named_stops list c.new-loads.ensures.place c.new-loads.ensures.used c.in_err-contents.ensures.stopped).asked;
    }

pub returns-in_err-library-clause-read : goal.returns-in_err-library-clause-read
returns-in_err-library-clause-read g c =
    let p = err_from_is_err_and c.from_residual-in_err-library.result c.from_residual-in_err-library.ensures.1 in
    let held = g.F.Files.held c.args.files.now in
    let names = map string_bytes c.args.named.now in
    let list = option_map string_bytes c.args.list.now in
    let stops = rw c.in_ok-contents.ensures.kept at c.in_err-library.ensures.stopped in
    rw (p.1, p.2) (stops_due (due_behind held names list stops.paths stops.listed) (behind_stops c.new-loads.ensures.place c.new-loads.ensures.used c.in_ok-contents.ensures.loaded stops))

pub returns-in_err-library-clause-asked : goal.returns-in_err-library-clause-asked
returns-in_err-library-clause-asked g c =
    let held = g.F.Files.held c.args.files.now in
    let names = map string_bytes c.args.named.now in
    let list = option_map string_bytes c.args.list.now in
    let stops = rw c.in_ok-contents.ensures.kept at c.in_err-library.ensures.stopped in
    record {
      due = _;
      is_due = due_behind held names list stops.paths stops.listed;
      holds = (behind_stops c.new-loads.ensures.place c.new-loads.ensures.used c.in_ok-contents.ensures.loaded stops).asked;
    }

pub returns-clause-loaded : goal.returns-clause-loaded
returns-clause-loaded g c =
    let files : OrderFiles = record { named = c.in_ok-contents.contents; library = c.in_ok-library.library } in
    order_loads files c.new-loads.ensures.place c.new-loads.ensures.used c.in_ok-library.ensures.within c.in_ok-contents.ensures.loaded (rw c.in_ok-contents.ensures.kept at c.in_ok-library.ensures.loaded)

pub returns-clause-few : goal.returns-clause-few
returns-clause-few g c =
    let files : OrderFiles = record { named = c.in_ok-contents.contents; library = c.in_ok-library.library } in
    let loads = order_loads files c.new-loads.ensures.place c.new-loads.ensures.used c.in_ok-library.ensures.within c.in_ok-contents.ensures.loaded (rw c.in_ok-contents.ensures.kept at c.in_ok-library.ensures.loaded) in
    few_files loads (rw length-map c.in_ok-contents.ensures.number) c.in_ok-library.ensures.number

pub returns-clause-asked : goal.returns-clause-asked
returns-clause-asked g c =
    let files : OrderFiles = record { named = c.in_ok-contents.contents; library = c.in_ok-library.library } in
    let loads = order_loads files c.new-loads.ensures.place c.new-loads.ensures.used c.in_ok-library.ensures.within c.in_ok-contents.ensures.loaded (rw c.in_ok-contents.ensures.kept at c.in_ok-library.ensures.loaded) in
    order_asks (g.F.Files.asked c.args.files.now) (g.F.Files.asked c.load_behind.new.files) (order_due loads (rw length-map c.in_ok-contents.ensures.number))

pub returns-clause-asked_all : goal.returns-clause-asked_all
returns-clause-asked_all g c =
    let files : OrderFiles = record { named = c.in_ok-contents.contents; library = c.in_ok-library.library } in
    let loads = order_loads files c.new-loads.ensures.place c.new-loads.ensures.used c.in_ok-library.ensures.within c.in_ok-contents.ensures.loaded (rw c.in_ok-contents.ensures.kept at c.in_ok-library.ensures.loaded) in
    order_due loads (rw length-map c.in_ok-contents.ensures.number)
