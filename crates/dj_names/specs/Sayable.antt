-- Names of classes that Java source can say, whatever variables it has (JLS 6.4.2, 6.5.2).
use Rattle.std.specs.Prelude.{ℕ, ◌==◌, List, [], ◌∷◌, All, Contains, codes}
use Rattle.std.specs.List.{before_first}
use Rattle.dj_names.specs.ClassNames.{segments}
use Rattle.dj_names.specs.Identifiers.{IsDigit, IsIdentifier}

-- `p`, `v`, `e` or `s`, and then one or more digits: as printed variables are spelled
abbrev pub IsVariableLike : List ℕ → Type 0
IsVariableLike [] = ⊥
IsVariableLike (letter ∷ []) = ⊥
IsVariableLike (letter ∷ digit ∷ digits) = Contains (codes "pves") letter × IsDigit digit × All IsDigit digits

-- each segment is an identifier, and the first isn't taken for a printed variable
pub record IsSayable (name : List ℕ) : Type 0 where
  pub identifiers : All IsIdentifier (segments name)
  pub begins_plainly : ¬ IsVariableLike (before_first (λ unit. unit == 47) name)
