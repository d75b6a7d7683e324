-- The helper of a class, by which bodies throw again what they caught.
use Rattle.std.specs.Prelude.{◌≡◌, ℕ, ◌<◌, Bool, true, ◌||◌, false, List, [], ◌∷◌, ◌++◌, Option, Some, None, Contains, codes}
use Rattle.std.specs.Fmt.{decimal}
use Rattle.dj_names.specs.Headers.{Name}
use Rattle.dj_syntax.specs.Trees.{Body, MethodText}
use Rattle.dj_class_text.specs.Rethrows.{have_rethrow}

-- whether one of the methods has a rethrow in its body
abbrev pub methods_have_rethrow : List MethodText → Bool
methods_have_rethrow [] = false
methods_have_rethrow (method ∷ methods) = body_has_rethrow method.body || methods_have_rethrow methods
  where
    body_has_rethrow : Option Body → Bool
    body_has_rethrow None = false
    body_has_rethrow (Some body) = have_rethrow body.statements

-- the helper's name with a number
abbrev pub helper_name : ℕ → Name
helper_name number = codes "rethrow$" ++ decimal number

-- the least number with which the helper's name is none of these
pub record IsFreeNumber (names : List Name) (number : ℕ) : Type 0 where
  pub free : ¬ Contains names (helper_name number)
  pub least : (lower : ℕ) → lower < number → Contains names (helper_name lower)

-- the helper is there exactly where a body has a rethrow, with the least number that no method of the class takes
abbrev pub IsHelper : List Name → Bool → Option Name → Type 0
IsHelper names false helper = helper ≡ None
IsHelper names true helper = (number : ℕ) × IsFreeNumber names number × (helper ≡ Some (helper_name number))
