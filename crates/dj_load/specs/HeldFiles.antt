-- What the files of an order hold, what each of them is, and the world that they make.
use Rattle.std.specs.Prelude.{◌≡◌, ℕ, ◌≤◌, nat_lt, List, [], ◌∷◌, ◌++◌, length, map, filter, sum_by, Option, Some, None, All, IfSome, if◌then◌else◌}
use Rattle.std.specs.Option.{option_map_or, option_to_list}
use Rattle.std.specs.Str.{is_utf8}
use Rattle.std.specs.Str.Lines.{lines}
use Rattle.dj_outer.specs.Files.{file_named}
use Rattle.dj_layout.specs.declared.fault.Fault.{Fault}
use Rattle.dj_core.specs.CoreTable.{core_classes}
use Rattle.dj_pool.specs.declared.fault.BrokenKind.{BrokenKind}
use Rattle.dj_class.specs.declared.class.ClassFile.{ClassFile}
use Rattle.dj_class.specs.Described.{SpellsClass, HasFault}
use Rattle.dj_class.specs.FaultOf.{shown_place}
use Rattle.dj_class.specs.Views.{view_class}
use Rattle.dj_world.specs.declared.fault.ClashKind.{ClashKind}
use Rattle.dj_world.specs.Clashes.{IsLeastClash}
use Rattle.dj_world.specs.Filling.{Fills}
use Rattle.dj_world.specs.Worlds.{WorldOf, IsFileAdded, header_of}

-- files as names with bytes
abbrev pub Files : Type 0
Files = List (List ℕ × List ℕ)

-- ---- limits

-- the most bytes that a file may have
abbrev pub most_bytes : ℕ
most_bytes = 16777216

-- the most bytes that all files together may have
abbrev pub most_together : ℕ
most_together = 268435456

-- the most files that may be loaded
abbrev pub most_files : ℕ
most_files = 4096

-- the contents of the files of these names, none of them too large, nor all together
pub record AreContents (held : Files) (names contents : List (List ℕ)) : Type 0 where
  pub loaded : map (file_named held) names ≡ map Some contents
  pub small : All (λ bytes. length bytes ≤ most_bytes) contents
  pub together : sum_by length contents ≤ most_together

-- ---- which names are due

-- the paths in a text: its lines (at `\n`, before which a `\r` isn't theirs) but the empty ones
abbrev pub paths_in : List ℕ → List (List ℕ)
paths_in text = filter (λ line. nat_lt 0 (length line)) (lines text)

-- the paths that a list of library files of these bytes has: none where it isn't UTF-8
abbrev pub listed_by : List ℕ → List (List ℕ)
listed_by bytes = if is_utf8 bytes then paths_in bytes else []

-- the paths of the list of library files, if one is named: where the files tell what they hold, those that the file has
abbrev pub AreListed : Option Files → Option (List ℕ) → List (List ℕ) → Type 0
AreListed held None paths = paths ≡ []
AreListed held (Some list) paths = IfSome held (λ files. paths ≡ option_map_or listed_by (file_named files list) [])

-- the names to load, in order: the named files, the list of library files, and those that it has
pub record IsDue (held : Option Files) (named : List (List ℕ)) (list : Option (List ℕ)) (due : List (List ℕ)) : Type 0 where
  pub paths : List (List ℕ)
  pub listed : AreListed held list paths
  pub due_is : due ≡ named ++ (option_to_list list ++ paths)

-- a fact of the names to load
pub record OfDue (held : Option Files) (named : List (List ℕ)) (list : Option (List ℕ)) (Holds : List (List ℕ) → Type 0) : Type 0 where
  pub due : List (List ℕ)
  pub is_due : IsDue held named list due
  pub holds : Holds due

-- ---- what files are

-- the oldest major version of a named file, that of Java SE 6
abbrev pub oldest_named : ℕ
oldest_named = 50

-- the oldest major version of a library file, that of Java 1.1
abbrev pub oldest_library : ℕ
oldest_library = 45

-- what a file is: a class of the world, a class that clashes with those before it, or broken, by what is wrong first and its offset
pub data FileIs : Type 0 where
  IsClass : ClassFile → FileIs
  IsClash : ClashKind → FileIs
  IsBroken : BrokenKind → ℕ → FileIs

-- the bytes are a class file of this class, of a major version from this one on
abbrev pub IsClassFile : ℕ → List ℕ → ClassFile → Type 0
IsClassFile oldest bytes class = SpellsClass bytes oldest (view_class class)

-- the bytes are the file of a class that clashes with those of this world: the first clash that applies
pub record HasClash (oldest : ℕ) (world : WorldOf) (bytes : List ℕ) (kind : ClashKind) : Type 0 where
  pub class : ClassFile
  pub spelled : IsClassFile oldest bytes class
  pub clash : IsLeastClash world.headers (header_of class) kind

-- the bytes have a fault of this kind, at this offset as a report gives it
abbrev pub HasFaultAt : ℕ → List ℕ → BrokenKind → ℕ → Type 0
HasFaultAt oldest bytes kind offset = (fault : Fault BrokenKind) × HasFault bytes oldest fault × (kind ≡ fault.kind) × (offset ≡ shown_place fault.offset)

-- `IsFile oldest old bytes file new`: what the bytes are where the old world is that of the files before them; a class that clashes with none is added, and else the world stays as it is
abbrev pub IsFile : ℕ → WorldOf → List ℕ → FileIs → WorldOf → Type 0
IsFile oldest old bytes (IsClass class) new = IsClassFile oldest bytes class × IsFileAdded old class new
IsFile oldest old bytes (IsClash kind) new = HasClash oldest old bytes kind × (new ≡ old)
IsFile oldest old bytes (IsBroken kind offset) new = HasFaultAt oldest bytes kind offset × (new ≡ old)

-- what each file is, in order, and the world that they make of the old one
abbrev pub AreFiles : ℕ → WorldOf → List (List ℕ) → List FileIs → WorldOf → Type 0
AreFiles oldest old [] [] new = new ≡ old
AreFiles oldest old [] (file ∷ found) new = ⊥
AreFiles oldest old (bytes ∷ contents) [] new = ⊥
AreFiles oldest old (bytes ∷ contents) (file ∷ found) new = (between : WorldOf) × IsFile oldest old bytes file between × AreFiles oldest between contents found new

-- what is found of the files of an order: of the named ones; the path of the list of library files, if it isn't UTF-8; and the paths that it has, with what each of these files is
pub record Finds : Type 0 where
  pub named : List FileIs
  pub unread : Option (List ℕ)
  pub paths : List (List ℕ)
  pub library : List FileIs

-- ---- what all that is told rests on

-- no classes
abbrev pub no_classes : WorldOf
no_classes = record { headers = []; members = [] }

-- the world that named files and library files of these contents make, with the core classes that clash with none of theirs filled in
pub record MakesWorld (contents library : List (List ℕ)) (found : Finds) (world : WorldOf) : Type 0 where
  pub of_named : WorldOf
  pub named : AreFiles oldest_named no_classes contents found.named of_named
  pub of_files : WorldOf
  pub behind : AreFiles oldest_library of_named library found.library of_files
  pub filled : Fills of_files core_classes world

-- the list of library files, if one is named, has these bytes, and this is what is found of it
abbrev pub IsList : Option (List ℕ) → Option (List ℕ) → Option (List ℕ) → List (List ℕ) → Type 0
IsList None None unread paths = (unread ≡ None) × (paths ≡ [])
IsList None (Some bytes) unread paths = ⊥
IsList (Some list) None unread paths = ⊥
IsList (Some list) (Some bytes) unread paths = (unread ≡ (if is_utf8 bytes then None else Some list)) × (paths ≡ listed_by bytes)

-- each file of an order was loaded and is what was found, and this is their world; where the files don't tell what they hold, it is that of some contents, as many as there are names
pub record Setting (held : Option Files) (named : List (List ℕ)) (list : Option (List ℕ)) (found : Finds) (world : WorldOf) : Type 0 where
  pub few : length (named ++ (option_to_list list ++ found.paths)) ≤ most_files
  pub contents : List (List ℕ)
  pub listed : Option (List ℕ)
  pub library : List (List ℕ)
  pub each_named : length contents ≡ length named
  pub each_listed : length library ≡ length found.paths
  pub are : IfSome held (λ files. AreContents files (named ++ (option_to_list list ++ found.paths)) (contents ++ (option_to_list listed ++ library)))
  pub lists : IsList list listed found.unread found.paths
  pub makes : MakesWorld contents library found world
