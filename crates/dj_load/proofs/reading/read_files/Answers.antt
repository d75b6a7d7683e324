use Rattle.dj_load.proofs.reading.read_files.Goals as goal

pub returns-clause-read : goal.returns-clause-read
returns-clause-read c = record {
  of_named = c.add_files.new.world;
  named = rw c.with_paths.ensures.found (rw (c.as_slice.ensures.value, c.new-world.ensures.empty) at c.in_ok-found.ensures.found);
  of_files = c.add_files-2.new.world;
  behind = rw c.with_paths.ensures.library (rw c.as_slice-behind.ensures.value at c.in_ok-library.ensures.found);
  filled = rw c.with_paths.ensures.world c.in_ok-fill.ensures.filled;
}
