-- The files that the program makes, by their number: their names and bytes, what they are, and the line on them.
use Rattle.std.specs.Prelude.{◌≡◌, ℕ, List, [], ◌∷◌, ◌++◌, map, None, codes}
use Rattle.std.specs.List.{range_with_len}
use Rattle.std.specs.Fmt.{decimal}
use Rattle.dj_world.specs.Worlds.{WorldOf}
use Rattle.dj_make.specs.Made.{made_bytes}
use Rattle.dj_load.specs.HeldFiles.{Finds, MakesWorld}

-- the name of a made file, that of its class
abbrev pub made_name : ℕ → List ℕ
made_name k = codes "g/C" ++ decimal k

-- the names of so many, in order
abbrev pub made_names : ℕ → List (List ℕ)
made_names number = map made_name (range_with_len 0 number)

-- the bytes of each
abbrev pub made_contents : ℕ → List (List ℕ)
made_contents number = map made_bytes (range_with_len 0 number)

-- so many files were made, each is what was found, and this is their world; there are no library files
pub record MadeSetting (number : ℕ) (found : Finds) (world : WorldOf) : Type 0 where
  pub unread : found.unread ≡ None
  pub paths : found.paths ≡ []
  pub makes : MakesWorld (made_contents number) [] found world

-- the line on so many made files, and on their methods: how many are printed, and how many aren't
abbrev pub summary_text : ℕ → ℕ → ℕ → List ℕ
summary_text number printed refused = codes "// made " ++ decimal number ++ codes " printed " ++ decimal printed ++ codes " refused " ++ decimal refused ++ 10 ∷ []
