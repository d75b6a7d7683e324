-- What the four answers of a load say, and which file has a name.
use Rattle.std.specs.Prelude.{◌++◌, [], ◌∷◌, ℕ, List, Option, Result, Ok, Err, IfSome, IsSomeAnd, find, bytes_eq, ⊤, ◌≤◌, length}
use Rattle.std.specs.Io.KnownBytes.{Consumes}
use Rattle.std.specs.Option.{option_map}
use Rattle.dj_outer.specs.declared.files.Loaded.{Loaded}
use Rattle.dj_outer.specs.declared.files.Loaded.TheVariants.{Whole, Over}
use Rattle.dj_outer.specs.declared.files.LoadFault.{LoadFault}
use Rattle.dj_outer.specs.declared.files.LoadFault.TheVariants.{Failed, Memory}

-- a fact for each answer, and for Whole one of its bytes
abbrev pub MatchLoad : Result Loaded LoadFault → (List ℕ → Type 0) → Type 0 → Type 0 → Type 0 → Type 0
MatchLoad (Ok (Whole bytes)) P over failed memory = P bytes.items
MatchLoad (Ok Over) P over failed memory = over
MatchLoad (Err Failed) P over failed memory = failed
MatchLoad (Err (Memory error)) P over failed memory = memory

-- P of the bytes, where the answer is Whole
abbrev pub IfWhole : Result Loaded LoadFault → (List ℕ → Type 0) → Type 0
IfWhole result P = MatchLoad result P ⊤ ⊤ ⊤

-- P, where the answer is Over
abbrev pub OnOver : Result Loaded LoadFault → Type 0 → Type 0
OnOver result P = MatchLoad result (λ _. ⊤) P ⊤ ⊤

-- P, where the answer is Failed
abbrev pub OnFailed : Result Loaded LoadFault → Type 0 → Type 0
OnFailed result P = MatchLoad result (λ _. ⊤) ⊤ P ⊤

-- P, where the answer is want of memory
abbrev pub OnMemory : Result Loaded LoadFault → Type 0 → Type 0
OnMemory result P = MatchLoad result (λ _. ⊤) ⊤ ⊤ P

-- P, whatever the answer is but Failed
abbrev pub UnlessFailed : Result Loaded LoadFault → Type 0 → Type 0
UnlessFailed result P = MatchLoad result (λ _. P) P ⊤ P

-- P, whatever the answer is but want of memory
abbrev pub UnlessMemory : Result Loaded LoadFault → Type 0 → Type 0
UnlessMemory result P = MatchLoad result (λ _. P) P P ⊤

-- the bytes of the first file of this name, among names with bytes
abbrev pub file_named : List (List ℕ × List ℕ) → List ℕ → Option (List ℕ)
file_named files name = option_map (λ file. file.1) (find (λ file. bytes_eq file.0 name) files)

-- where the files are told, one has this name, and P holds of the bytes of the first that does
abbrev pub HasFile : Option (List (List ℕ × List ℕ)) → List ℕ → (List ℕ → Type 0) → Type 0
HasFile held name P = IfSome held (λ files. IsSomeAnd (file_named files name) P)

-- the names asked, where they are told, with this one at the end; what isn't told stays so
abbrev pub with_asked : Option (List (List ℕ)) → List ℕ → Option (List (List ℕ))
with_asked asked name = option_map (λ names. names ++ name ∷ []) asked

-- where the bytes left are told, at most so many of them were taken
abbrev pub TakesAtMost : ℕ → Option (List ℕ) → Option (List ℕ) → Type 0
TakesAtMost most old new = (taken : List ℕ) × (length taken ≤ most) × Consumes old new taken
