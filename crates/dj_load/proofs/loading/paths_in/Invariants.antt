use Rattle.std.proofs.Common.{◌≡◌, ◌≤◌, ◌+◌, ℕ, List, map, length}
use Rattle.std.specs.Prelude.{filter, nat_lt}
use Rattle.std.specs.String.{string_bytes}
use Rattle.dj_load.specs.HeldFiles.{most_files}
use Rattle.dj_load.proofs.loading.paths_in.Given as goal

abbrev pub invariant-loop-line : goal.invariant-loop-line
invariant-loop-line l = record {
  few : length l.paths.items ≤ most_files + 1;
  paths : map string_bytes l.paths.items ≡ filter (λ (line : List ℕ). nat_lt 0 (length line)) (map (λ line. line.now) l.yielded);
}
