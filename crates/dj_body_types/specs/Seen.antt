-- Labels that were seen, as the program keeps them.
use Rattle.std.specs.Prelude.{ℤ, Bool, true, false, not, ◌&&◌, ◌||◌, List, [], ◌∷◌, Option, Some, None}
use Rattle.std.specs.BTreeSet.{contains}
use Rattle.std.specs.Ordering.{int_cmp}
use Rattle.dj_meaning.specs.Statements.{is_same_label}
use Rattle.dj_body_types.specs.declared.labels.Seen.{Seen}

-- a label was seen
abbrev pub has : Seen → Option ℤ → Bool
has seen None = seen.default
has seen (Some number) = contains int_cmp seen.numbers number

-- none was
abbrev pub nothing : Option ℤ → Bool
nothing label = false

-- each of these is seen for the first time, given which were seen before
abbrev pub all_fresh : (Option ℤ → Bool) → List (Option ℤ) → Bool
all_fresh seen [] = true
all_fresh seen (label ∷ rest) = not (seen label) && all_fresh (λ other. is_same_label label other || seen other) rest
