use Rattle.std.proofs.Common.{◌+◌, ◌≤◌, length, take, drop, take-append-drop, ap, ◌∙◌, arith}
use Rattle.std.specs.String.{string_bytes}
use Rattle.std.proofs.lemmas.List.{length-map}
use Rattle.std.proofs.lemmas.Result.{err_from_is_err_and}
use Rattle.dj_load.specs.HeldFiles.{most_files, paths_in}
use Rattle.dj_load.proofs.LoadingLemmas.{few_taken, loads_none, stops_between, stops_more}
use Rattle.dj_load.proofs.loading.load_listed.Goals as goal

pub returns-in_err-paths-clause-stopped : goal.returns-in_err-paths-clause-stopped
returns-in_err-paths-clause-stopped g c =
    let p = err_from_is_err_and c.from_residual.result c.from_residual.ensures.1 in
    rw (p.1, p.2) (stops_more (paths_in c.args.text.now) (stops_between tt loads_none))

pub returns-in_err-contents-clause-stopped : goal.returns-in_err-contents-clause-stopped
returns-in_err-contents-clause-stopped g c =
    let p = err_from_is_err_and c.from_residual-in_err-contents.result c.from_residual-in_err-contents.ensures.1 in
    let all = paths_in c.args.text.now in
    let stops = stops_more (drop (most_files + 1) all) (rw (c.as_slice.ensures.value, c.in_ok-paths.ensures.paths) at c.in_err-contents.ensures.stopped) in
    rw (p.1, p.2) (rw (take-append-drop (most_files + 1) all) at stops)

pub returns-clause-paths : goal.returns-clause-paths
returns-clause-paths g c =
    let all = paths_in c.args.text.now in
    let few : length (take (most_files + 1) all) ≤ most_files = omega (arith, ap length c.in_ok-paths.ensures.paths, length-map c.in_ok-paths.paths.items (string_bytes), c.in_ok-contents.ensures.counted, c.in_ok-contents.ensures.within.few) in
    c.in_ok-paths.ensures.paths ∙ few_taken most_files all few

pub returns-clause-loaded : goal.returns-clause-loaded
returns-clause-loaded g c =
    let all = paths_in c.args.text.now in
    let few : length (take (most_files + 1) all) ≤ most_files = omega (arith, ap length c.in_ok-paths.ensures.paths, length-map c.in_ok-paths.paths.items (string_bytes), c.in_ok-contents.ensures.counted, c.in_ok-contents.ensures.within.few) in
    rw (c.as_slice.ensures.value, c.in_ok-paths.ensures.paths ∙ few_taken most_files all few) at c.in_ok-contents.ensures.loaded
