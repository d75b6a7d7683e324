-- The binary names of classes in internal form (JVMS 4.2.1, 4.2.2).
use Rattle.std.specs.Prelude.{◌≡◌, ◌≢◌, ◌==◌, ℕ, if◌then◌else◌, List, [], ◌∷◌, ◌++◌, All, Contains, codes}

-- one or more units, and none of `.`, `;`, `[` and `/`
pub record IsUnqualifiedName (units : List ℕ) : Type 0 where
  pub some_unit : units ≢ []
  pub plain : All (λ unit. ¬ Contains (codes ".;[/") unit) units

-- the first segment with this unit in front of it
abbrev pub in_front : ℕ → List (List ℕ) → List (List ℕ)
in_front unit [] = (unit ∷ []) ∷ []
in_front unit (first ∷ rest) = (unit ∷ first) ∷ rest

-- the parts of a name between its slashes
abbrev pub segments : List ℕ → List (List ℕ)
segments [] = [] ∷ []
segments (unit ∷ rest) = if unit == 47 then [] ∷ segments rest else in_front unit (segments rest)

-- segments with `/` between them
abbrev pub joined : List (List ℕ) → List ℕ
joined [] = []
joined (segment ∷ []) = segment
joined (segment ∷ next ∷ rest) = segment ++ 47 ∷ joined (next ∷ rest)

-- one or more unqualified names, with `/` between them
pub record IsClassName (name : List ℕ) : Type 0 where
  pub segments : List (List ℕ)
  pub some_segment : segments ≢ []
  pub unqualified : All IsUnqualifiedName segments
  pub is_joined : joined segments ≡ name
