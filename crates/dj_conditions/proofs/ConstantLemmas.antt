-- A constant condition never has the other value (JLS 16.1.1): where that is so of the parts of `!`, `&&`, `||` and `?:`, it is so of the whole.
use Rattle.std.proofs.Common.{Bool, true, false, not, ◌&&◌, ◌||◌, Option, Some, ◌≡◌, refl, ap₂}
use Rattle.std.specs.Prelude.{if◌then◌else◌}
use Rattle.dj_variables.specs.Sets.{Set}
use Rattle.dj_variables.proofs.SetLemmas.{meet_everything}
use Rattle.dj_conditions.specs.Conditions.{When, decided, behind_operator, behind_choice}

abbrev two : Set → Set → When
two first second = record { true = first; false = second }

decided_not : (known : Bool) (set : Set) → two (decided (Some known) set).false (decided (Some known) set).true ≡ decided (Some (not known)) set
decided_not true set = refl
decided_not false set = refl

decided_and : (left right : Bool) (known : Option Bool) (set : Set)
    → behind_operator (Some true) known (decided (Some left) set) (λ before. decided (Some right) before) ≡ decided (Some (left && right)) set
decided_and true true known set = refl
decided_and true false known set = refl
decided_and false true known set = ap₂ two refl (meet_everything set)
decided_and false false known set = ap₂ two refl (meet_everything set)

decided_or : (left right : Bool) (known : Option Bool) (set : Set)
    → behind_operator (Some false) known (decided (Some left) set) (λ before. decided (Some right) before) ≡ decided (Some (left || right)) set
decided_or true true known set = ap₂ two (meet_everything set) refl
decided_or true false known set = ap₂ two (meet_everything set) refl
decided_or false true known set = refl
decided_or false false known set = refl

decided_choice : (test first second : Bool) (set : Set)
    → behind_choice (decided (Some first) (decided (Some test) set).true) (decided (Some second) (decided (Some test) set).false) ≡ decided (Some (if test then first else second)) set
decided_choice true true true set = ap₂ two (meet_everything set) refl
decided_choice true true false set = ap₂ two (meet_everything set) refl
decided_choice true false true set = ap₂ two refl (meet_everything set)
decided_choice true false false set = ap₂ two refl (meet_everything set)
decided_choice false true true set = refl
decided_choice false true false set = refl
decided_choice false false true set = refl
decided_choice false false false set = refl
