use Rattle.std.proofs.Common.{◌≡◌, ◌<◌, ◌≤◌, length, map, take, sym, ◌∙◌, append_assoc, arith}
use Rattle.std.specs.String.{string_bytes}
use Rattle.std.proofs.lemmas.List.{length-map, length-take-le, take_all}
use Rattle.dj_load.specs.Loading.{all_found, found_of}
use Rattle.dj_load.proofs.LoadingLemmas.{take_map_more}
use Rattle.dj_cli.specs.Output.{library_line, library_lines}
use Rattle.dj_cli.proofs.TellingLemmas.{library_lines-push}
use Rattle.dj_cli.proofs.last.add_library_lines.Goals as goal

pub loop-place-preserved : goal.loop-place-preserved
loop-place-preserved c =
    let paths = c.args.paths.now in
    let found = c.args.found.now in
    let i = c.loop-place.place in
    let in_paths : i < length paths = omega arith in
    let in_found : i < length found = omega arith in
    let path = string_bytes c.index-paths-place.result in
    let file = found_of c.index-found-place.result in
    let names = take_map_more string_bytes paths i c.index-paths-place.result in_paths c.index-paths-place.is in
    let files = take_map_more found_of found i c.index-found-place.result in_found c.index-found-place.is in
    let few_names : i ≤ length (map string_bytes paths) = rw length-map (omega arith) in
    let few_files : i ≤ length (all_found found) = rw length-map (omega arith) in
    let number : length (take i (all_found found)) ≡ length (take i (map string_bytes paths)) = length-take-le i (all_found found) few_files ∙ sym (length-take-le i (map string_bytes paths) few_names) in
    let line = rw c.as_str.ensures.value at c.in_ok-line.ensures.line in
    rw (c.in_ok-extend_from_slice.ensures.items, c.loop-place.invariant, names, files, library_lines-push (take i (map string_bytes paths)) (take i (all_found found)) path file number, c.as_slice.ensures.value, line)
    (append_assoc c.args.lines.now.items (library_lines (take i (map string_bytes paths)) (take i (all_found found))) (library_line path file))

pub returns : goal.returns
returns c =
    let paths = c.args.paths.now in
    let found = c.args.found.now in
    let names = take_all c.loop-place.place (map string_bytes paths) (rw length-map (omega arith)) in
    let files = take_all c.loop-place.place (all_found found) (rw length-map (omega arith)) in
    record { lines = rw (names, files) at c.loop-place.invariant }
