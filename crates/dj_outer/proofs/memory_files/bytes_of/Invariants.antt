-- what was passed has not the name
use Rattle.std.proofs.Common.{◌≡◌, drop}
use Rattle.dj_outer.specs.Files.{file_named}
use Rattle.dj_outer.specs.MemoryFiles.{told_files}
use Rattle.dj_outer.proofs.memory_files.bytes_of.Given as goal

abbrev pub invariant-loop-held : goal.invariant-loop-held
invariant-loop-held l = file_named (told_files (drop l.held-index l.files)) l.name ≡ file_named (told_files l.files) l.name
