-- Which names loads ask for, and where loading stops.
use Rattle.std.specs.Prelude.{◌≡◌, ℕ, ◌+◌, ◌<◌, List, ◌++◌, length, map, sum_by, take, slice_get, Option, Some, IfSome, IsSomeAnd}
use Rattle.std.specs.Option.{option_map}
use Rattle.dj_outer.specs.Count.{Rose}
use Rattle.dj_outer.specs.Files.{file_named}
use Rattle.dj_load.specs.HeldFiles.{Files, most_bytes, most_together, most_files, AreContents}

-- the names asked, where they are told, with these at the end
abbrev pub asked_with : Option (List (List ℕ)) → List (List ℕ) → Option (List (List ℕ))
asked_with asked names = option_map (λ before. before ++ names) asked

-- the names asked in a call are some first of these
abbrev pub AsksFront : Option (List (List ℕ)) → Option (List (List ℕ)) → List (List ℕ) → Type 0
AsksFront old new names = (count : ℕ) × (new ≡ asked_with old (take count names))

-- files of these names are held, none of them too large, nor all together, where the files are told
abbrev pub CanLoad : Option Files → List (List ℕ) → Type 0
CanLoad held names = IfSome held (λ files. (contents : List (List ℕ)) × AreContents files names contents)

-- the load of the name at this place counted a fault: the files before it are held and aren't too large, and no name behind it was asked
pub record ReadFails (held : Option Files) (names : List (List ℕ)) (asked_old asked_new : Option (List (List ℕ))) (faults_old faults_new : ℕ) (place : ℕ) : Type 0 where
  pub due : place < length names
  pub few : place < most_files
  pub rose : Rose faults_old faults_new
  pub before : CanLoad held (take place names)
  pub asked : asked_new ≡ asked_with asked_old (take (place + 1) names)

-- the file of the name at this place is too large, where the files are told
abbrev pub IsTooLarge : Option Files → List (List ℕ) → ℕ → Type 0
IsTooLarge held names place = IfSome held (λ files. IsSomeAnd (slice_get names place) (λ name. IsSomeAnd (file_named files name) (λ bytes. most_bytes < length bytes)))

-- the files up to this place are too large together, where the files are told
abbrev pub AreTooLarge : Option Files → List (List ℕ) → ℕ → Type 0
AreTooLarge held names place = IfSome held (λ files. (contents : List (List ℕ)) × (map (file_named files) (take (place + 1) names) ≡ map Some contents) × (most_together < sum_by length contents))

-- `Exceeds held names place count`: why loading can't go on at a place, once so many names were asked
pub data Exceeds (held : Option Files) (names : List (List ℕ)) (place : ℕ) : ℕ → Type 0 where
  one : place < most_files → IsTooLarge held names place → Exceeds held names place (place + 1)
  together : place < most_files → AreTooLarge held names place → Exceeds held names place (place + 1)
  many : place ≡ most_files → Exceeds held names place place

-- loading can't go on at this place: the files before it are held and aren't too large, and no name behind it was asked
pub record IsTooMuch (held : Option Files) (names : List (List ℕ)) (asked_old asked_new : Option (List (List ℕ))) (place : ℕ) : Type 0 where
  pub due : place < length names
  pub before : CanLoad held (take place names)
  pub count : ℕ
  pub exceeds : Exceeds held names place count
  pub asked : asked_new ≡ asked_with asked_old (take count names)
