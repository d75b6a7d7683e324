-- The table of the methods of ints so far, and what it tells.
use Rattle.std.specs.Prelude.{◌≡◌, ◌↔◌, IsTrue, ℕ, List, Option, Some, None, replicate}
use Rattle.std.specs.declared.cmp.Ordering.{Ordering}
use Rattle.std.specs.Ordering.{nat_cmp, ordering_then}
use Rattle.std.specs.Cmp.Lexicographic.{slice_cmp}
use Rattle.std.specs.Borrow.{Bor}
use Rattle.std.specs.BTreeSet.{contains}
use Rattle.dj_names.specs.Types.{Int, parameters_of}
use Rattle.dj_class.specs.Described.{MethodOf}
use Rattle.dj_straight.specs.declared.declared.Declared.{Declared}
use Rattle.dj_straight.specs.StraightMethod.{IsDeclared}

-- the order of a table's entries: by the number of ints, then by the units of the name
abbrev pub entry_cmp : ℕ × Bor (List ℕ) → ℕ × Bor (List ℕ) → Ordering
entry_cmp first second = ordering_then (nat_cmp first.0 second.0) (slice_cmp nat_cmp first.1.now second.1.now)

-- the table has just the methods of ints among these, each by its number of ints and its name
abbrev pub Holds : Declared → List MethodOf → Type 0
Holds declared methods =
    (ints : ℕ) (name : Bor (List ℕ)) → IsTrue (contains entry_cmp declared.entries (ints, name)) ↔ IsDeclared methods name.now (replicate ints Int)

-- what the table tells of a method: none before it with its name takes so many ints; or it takes no number of ints that none before it takes
abbrev pub IsAdmitted : List MethodOf → MethodOf → Option ℕ → Type 0
IsAdmitted before method (Some ints) = ¬ IsDeclared before method.name (replicate ints Int)
IsAdmitted before method None = (ints : ℕ) → parameters_of method.descriptor ≡ replicate ints Int → IsDeclared before method.name (replicate ints Int)
