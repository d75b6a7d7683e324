use Rattle.std.proofs.Common.{◌≡◌, ◌+◌, ◌≤◌, ℕ, List, length, map, ap, ◌∙◌, arith}
use Rattle.std.specs.Prelude.{filter, nat_lt}
use Rattle.std.specs.String.{string_bytes}
use Rattle.std.proofs.lemmas.List.{length-map}
use Rattle.std.proofs.lemmas.Iterator.Consumers.{YieldsList-end, YieldsList-so_far}
use Rattle.std.proofs.lemmas.Iterator.Splits.{YieldsList-from_lines}
use Rattle.dj_load.specs.HeldFiles.{most_files}
use Rattle.dj_load.proofs.LoadingLemmas.{paths_all, paths_full}
use Rattle.dj_load.proofs.loading.paths_in.Goals as goal

pub returns-then-len : goal.returns-then-len
returns-then-len c =
    let before = c.loop-line.invariant in
    let so_far = YieldsList-so_far (YieldsList-from_lines c.args.text.now cc) c.loop-line.yielded _ c.loop-line.yielded_by in
    let are = before.paths ∙ ap (filter (λ (line : List ℕ). nat_lt 0 (length line))) so_far in
    let full : length (map string_bytes c.loop-line.paths.items) ≡ most_files + 1 = rw length-map (omega (arith, before.few)) in
    record { paths = paths_full c.args.text.now (length c.loop-line.yielded) (most_files + 1) (map string_bytes c.loop-line.paths.items) are full }

pub returns : goal.returns
returns c =
    let before = c.loop-line.invariant in
    let end = YieldsList-end (YieldsList-from_lines c.args.text.now cc) c.loop-line.yielded _ c.loop-line.yielded_by _ _ c.in-None.is c.next.ensures.steps in
    let are = before.paths ∙ ap (filter (λ (line : List ℕ). nat_lt 0 (length line))) end.0 in
    let few : length (map string_bytes c.loop-line.paths.items) ≤ most_files + 1 = rw length-map (omega (arith, before.few)) in
    record { paths = paths_all c.args.text.now (most_files + 1) (map string_bytes c.loop-line.paths.items) are few }
