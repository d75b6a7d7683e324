use Rattle.std.proofs.Common.{◌≡◌, ◌≤◌, ◌+◌, map, take, length}
use Rattle.std.specs.String.{string_bytes}
use Rattle.dj_load.specs.Loading.{IsWithin, LoadsMore, contents_of}
use Rattle.dj_load.proofs.loading.load_all.Given as goal

abbrev pub invariant-loop-name : goal.invariant-loop-name
invariant-loop-name g l = record {
  number : length l.contents.items ≡ l.name-index;
  counted : l.loads.place ≡ l.initial.loads.place + l.name-index;
  within : IsWithin l.loads;
  kept : g.F.Files.held l.files ≡ g.F.Files.held l.initial.files;
  falls : g.F.Files.faults l.initial.files ≤ g.F.Files.faults l.files;
  calm : g.F.Files.faults l.files ≡ g.F.Files.faults l.initial.files;
  loaded : LoadsMore (g.F.Files.held l.initial.files) l.initial.loads l.loads (g.F.Files.asked l.initial.files) (g.F.Files.asked l.files) (g.F.Files.faults l.initial.files) (g.F.Files.faults l.files) (take l.name-index (map string_bytes l.named)) (contents_of l.contents.items);
}
