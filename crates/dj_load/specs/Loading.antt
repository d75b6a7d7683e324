-- How loading the files of an order goes on and ends, and what is found of each file.
use Rattle.std.specs.Prelude.{◌≡◌, ◌⊎◌, ℕ, ◌≤◌, List, ◌++◌, length, map, sum_by, Option, IfSome, Result, Ok, Err, Vec, ⊤}
use Rattle.std.specs.String.{string_bytes}
use Rattle.std.specs.Option.{option_map, option_to_list}
use Rattle.std.specs.declared.alloc.Global.{Global}
use Rattle.dj_load.specs.declared.loads.Loads.{Loads}
use Rattle.dj_load.specs.declared.loads.LoadStop.{LoadStop}
use Rattle.dj_load.specs.declared.loads.LoadStop.TheVariants.{Fault, Over, Memory}
use Rattle.dj_load.specs.declared.loading.OrderFiles.{OrderFiles}
use Rattle.dj_load.specs.declared.loading.Library.{Library}
use Rattle.dj_load.specs.declared.reading.Found.{Found}
use Rattle.dj_load.specs.declared.reading.Found.TheVariants as found
use Rattle.dj_load.specs.declared.reading.FoundFiles.{FoundFiles}
use Rattle.dj_load.specs.HeldFiles.{Files, FileIs, Finds, IsClass, IsClash, IsBroken, IsList, AreContents, AreListed, most_files, most_together}
use Rattle.dj_load.specs.Loads.{AsksFront, IsTooMuch, ReadFails, asked_with}

-- the bytes of each file
abbrev pub contents_of : List (Vec ℕ Global) → List (List ℕ)
contents_of contents = map (λ bytes. bytes.items) contents

-- ---- loads, one after another

-- counts of loads are within the limits
pub record IsWithin (loads : Loads) : Type 0 where
  pub few : loads.place ≤ most_files
  pub together : loads.used ≤ most_together

-- the files of these names were loaded, of these contents, and so it was counted; no other names were asked
pub record HasLoaded (held : Option Files) (loads : Loads) (asked_old asked_new : Option (List (List ℕ))) (faults_old faults_new : ℕ) (names contents : List (List ℕ)) : Type 0 where
  pub loaded : IfSome held (λ files. AreContents files names contents)
  pub number : length contents ≡ length names
  pub place : loads.place ≡ length contents
  pub used : loads.used ≡ sum_by length contents
  pub asked : asked_new ≡ asked_with asked_old names
  pub falls : faults_old ≤ faults_new

-- whatever was loaded before, the files of these names were loaded besides
pub record LoadsMore (held : Option Files) (loads_old loads_new : Loads) (asked_old asked_new : Option (List (List ℕ))) (faults_old faults_new : ℕ) (names contents : List (List ℕ)) : Type 0 where
  pub more : (asked : Option (List (List ℕ))) (faults : ℕ) (before done : List (List ℕ)) → HasLoaded held loads_old asked asked_old faults faults_old before done → HasLoaded held loads_new asked asked_new faults faults_new (before ++ names) (done ++ contents)

-- a fact of the place of a fault, and one of the place at which there is too much
abbrev pub Stopped : LoadStop → (ℕ → Type 0) → (ℕ → Type 0) → Type 0
Stopped (Fault place) Fails IsOver = Fails place
Stopped (Over place) Fails IsOver = IsOver place
Stopped (Memory error) Fails IsOver = Unit {0}

-- a fact of loading, however it ends but by a fault
abbrev pub UnlessFault : {X : Type 0} → Result X LoadStop → Type 0 → Type 0
UnlessFault (Ok done) P = P
UnlessFault (Err (Fault place)) P = ⊤
UnlessFault (Err (Over place)) P = P
UnlessFault (Err (Memory error)) P = P

-- the loading of the files of these names stopped
pub record StopsLoading (held : Option Files) (asked_old asked_new : Option (List (List ℕ))) (faults_old faults_new : ℕ) (names : List (List ℕ)) (stop : LoadStop) : Type 0 where
  pub stopped : Stopped stop (ReadFails held names asked_old asked_new faults_old faults_new) (IsTooMuch held names asked_old asked_new)
  pub asked : AsksFront asked_old asked_new names

-- whatever was loaded before, the loading of the files of these names besides stopped
pub record StopsAfter (held : Option Files) (loads_old : Loads) (asked_old asked_new : Option (List (List ℕ))) (faults_old faults_new : ℕ) (names : List (List ℕ)) (stop : LoadStop) : Type 0 where
  pub stops : (asked : Option (List (List ℕ))) (faults : ℕ) (before done : List (List ℕ)) → HasLoaded held loads_old asked asked_old faults faults_old before done → StopsLoading held asked asked_new faults faults_new (before ++ names) stop

-- the load at one place stopped: the name was asked, but where memory was wanting it may not have been
abbrev pub StoppedAt : ℕ → LoadStop → Type 0 → Type 0 → Type 0 → Type 0 → Type 0
StoppedAt here (Fault place) fails is_over asked unasked = (place ≡ here) × fails × asked
StoppedAt here (Over place) fails is_over asked unasked = (place ≡ here) × is_over × asked
StoppedAt here (Memory error) fails is_over asked unasked = unasked ⊎ asked

-- ---- an order

-- the paths of library files
abbrev pub paths_of : Library → List (List ℕ)
paths_of library = map string_bytes library.paths.items

-- the list, if one is named, was loaded, and then the library files that it has
pub record LoadsLibrary (held : Option Files) (loads_old loads_new : Loads) (asked_old asked_new : Option (List (List ℕ))) (faults_old faults_new : ℕ) (list : Option (List ℕ)) (library : Library) : Type 0 where
  pub listed : Option (List ℕ)
  pub lists : IsList list listed (option_map string_bytes library.unread) (paths_of library)
  pub loads : LoadsMore held loads_old loads_new asked_old asked_new faults_old faults_new (option_to_list list ++ paths_of library) (option_to_list listed ++ contents_of library.contents.items)

-- the loading of the list, or then of the library files that it has, stopped
pub record StopsLibrary (held : Option Files) (loads_old : Loads) (asked_old asked_new : Option (List (List ℕ))) (faults_old faults_new : ℕ) (list : Option (List ℕ)) (stop : LoadStop) : Type 0 where
  pub paths : List (List ℕ)
  pub listed : AreListed held list paths
  pub stops : StopsAfter held loads_old asked_old asked_new faults_old faults_new (option_to_list list ++ paths) stop

-- the files of an order were loaded, and the names that are due were asked
pub record AreLoaded (held : Option Files) (named : List (List ℕ)) (list : Option (List ℕ)) (asked_old asked_new : Option (List (List ℕ))) (files : OrderFiles) : Type 0 where
  pub few : length (named ++ (option_to_list list ++ paths_of files.library)) ≤ most_files
  pub listed : Option (List ℕ)
  pub are : IfSome held (λ told. AreContents told (named ++ (option_to_list list ++ paths_of files.library)) (contents_of files.named.items ++ (option_to_list listed ++ contents_of files.library.contents.items)))
  pub lists : IsList list listed (option_map string_bytes files.library.unread) (paths_of files.library)
  pub asked : asked_new ≡ asked_with asked_old (named ++ (option_to_list list ++ paths_of files.library))

-- ---- what is found

-- what a file is, by what was found of it
abbrev pub found_of : Found → FileIs
found_of (found.Class class) = IsClass class
found_of (found.Clash kind) = IsClash kind
found_of (found.Broken kind offset) = IsBroken kind offset

-- the same of each file
abbrev pub all_found : List Found → List FileIs
all_found found = map found_of found

-- the same of the files of an order
abbrev pub finds_of : FoundFiles → Finds
finds_of files = record {
  named = all_found files.found.items;
  unread = option_map string_bytes files.unread;
  paths = map string_bytes files.paths.items;
  library = all_found files.library.items;
}
