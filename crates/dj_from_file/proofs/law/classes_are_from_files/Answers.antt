use Rattle.dj_from_file.proofs.FromFile.{from_file}
use Rattle.dj_from_file.proofs.law.classes_are_from_files.Goals as goal

pub returns : goal.returns
returns c = record { from_file = from_file }
