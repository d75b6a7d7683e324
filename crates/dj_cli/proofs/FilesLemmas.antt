-- The classes of files are as those are that were read from files.
use Rattle.std.proofs.Common.{ℕ, List, [], ◌∷◌}
use Rattle.std.specs.List.{AllByRecursion}
use Rattle.dj_class.specs.Views.{view_class}
use Rattle.dj_world.specs.Worlds.{WorldOf}
use Rattle.dj_load.specs.declared.reading.Found.{Found}
use Rattle.dj_load.specs.HeldFiles.{FileIs, IsClass, IsClash, IsBroken, IsFile, AreFiles}
use Rattle.dj_load.specs.Loading.{all_found, found_of}
use Rattle.dj_load.proofs.ReadingLemmas.{few_methods}
use Rattle.dj_from_file.proofs.FromFile.{from_file}
use Rattle.dj_cli.specs.Pieces.{IsOfFile}

of_file : (oldest : ℕ) (old new : WorldOf) (bytes : List ℕ) (file : FileIs) → IsFile oldest old bytes file new → IsOfFile file
of_file oldest old new bytes (IsClass class) is = record { of_file = from_file bytes oldest (view_class class) is.0; few = few_methods oldest bytes class is.0 }
of_file oldest old new bytes (IsClash kind) is = tt
of_file oldest old new bytes (IsBroken kind offset) is = tt

-- each file's class
pub classes_of_files : (oldest : ℕ) (old new : WorldOf) (contents : List (List ℕ)) (found : List Found) → AreFiles oldest old contents (all_found found) new → AllByRecursion (λ one. IsOfFile (found_of one)) found
classes_of_files oldest old new [] [] are = tt
classes_of_files oldest old new [] (one ∷ found) are = absurd are
classes_of_files oldest old new (bytes ∷ contents) [] are = absurd are
classes_of_files oldest old new (bytes ∷ contents) (one ∷ found) are = (of_file oldest old are.0 bytes (found_of one) are.1, classes_of_files oldest are.0 new contents found are.2)
