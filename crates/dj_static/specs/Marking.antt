-- Marks of places, by a test of these.
use Rattle.std.specs.Prelude.{ℕ, zero, suc, Bool, List, [], ◌∷◌}

-- the marks of so many places from this one on
abbrev pub marks_from : (ℕ → Bool) → ℕ → ℕ → List Bool
marks_from test at zero = []
marks_from test at (suc count) = test at ∷ marks_from test (suc at) count
