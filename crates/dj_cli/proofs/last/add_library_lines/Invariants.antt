use Rattle.std.proofs.Common.{◌≡◌, ◌++◌, map, take}
use Rattle.std.specs.String.{string_bytes}
use Rattle.dj_load.specs.Loading.{all_found}
use Rattle.dj_cli.specs.Output.{library_lines}
use Rattle.dj_cli.proofs.last.add_library_lines.Given as goal

abbrev pub invariant-loop-place : goal.invariant-loop-place
invariant-loop-place l = l.lines.items ≡ l.initial.lines.items ++ library_lines (take l.place (map string_bytes l.paths)) (take l.place (all_found l.found))
