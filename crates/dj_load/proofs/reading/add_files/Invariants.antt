use Rattle.std.proofs.Common.{◌≡◌, ◌≤◌, ◌+◌, length, take}
use Rattle.dj_load.specs.HeldFiles.{AreFiles}
use Rattle.dj_load.specs.Loading.{all_found, contents_of}
use Rattle.dj_load.proofs.reading.add_files.Given as goal

abbrev pub invariant-loop-bytes : goal.invariant-loop-bytes
invariant-loop-bytes l = record {
  files : AreFiles l.oldest l.initial.world (contents_of (take l.bytes-index l.contents)) (all_found l.found.items) l.world;
  as_many : length l.found.items ≡ l.bytes-index;
  few : length l.world.members ≤ length l.initial.world.members + l.bytes-index;
}
